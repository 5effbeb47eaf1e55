-- Parts of one width, each written in part or whole where it stands. Assumes nothing.
use mathlib.Core.Path.{◌≡◌, refl, sym, ◌∙◌, ap, ap₂}
use mathlib.Core.List.{List, [], ◌∷◌, ◌++◌, append-nil, append_assoc}
use Prim.Native.Nat.{ℕ, zero, suc, ◌+◌, ◌*◌, ◌≤◌, ◌<◌}
use native.Mathlib.Numerals.{add-one}
use native.Mathlib.Omega.{arith}
use lib.ListN.{length, get_or, set, length-set, get_or-append}
use lib.Seq.{sets, length-sets, set-append_left, get_or-append-add}
use Rattle.rules.specs.Layout.{bytes_up_to}
use Rattle.rules.proofs.Storing.{parts_long}
use Rattle.storing.specs.Written.{each}

module _ {A : Type 0} where
  -- a run within the front, and one behind it
  left : (vs xs ys : List A) (i : ℕ) → i + length vs ≤ length xs → sets (xs ++ ys) i vs ≡ sets xs i vs ++ ys
  left [] xs ys i h = refl
  left (v ∷ vs) xs ys i h =
      ap (λ z. sets z (suc i) vs) (set-append_left xs ys i v (omega arith))
      ∙ left vs (set xs i v) ys (suc i) (simp length-set (omega arith))

  right : (xs vs ys : List A) (n i : ℕ) → n ≡ length xs + i → sets (xs ++ ys) n vs ≡ xs ++ sets ys i vs
  right [] vs ys n i e = let f : n ≡ i = omega arith in rw f
  right (x ∷ xs) vs ys n i e = behind vs (xs ++ ys) n (length xs + i) (omega arith) ∙ ap (λ z. x ∷ z) (right xs vs ys (length xs + i) i refl)
    where
      behind : (vs zs : List A) (n m : ℕ) → n ≡ suc m → sets (x ∷ zs) n vs ≡ x ∷ sets zs m vs
      behind [] zs n m e = refl
      behind (v ∷ vs) zs n m e = ap (λ k. sets (set (x ∷ zs) k v) (suc n) vs) e ∙ behind vs (set zs m v) (suc n) (suc m) (ap suc e)

-- ---- a loop that writes part after part

pub record Passed (vs : ℕ → List ℕ) (k w n i : ℕ) (s t : List ℕ) : Type 0 where
  pub within : i ≤ n
  pub long : length t ≡ length s
  pub is : t ≡ each vs k w i s

module _ {vs : ℕ → List ℕ} {k w n : ℕ} {s : List ℕ} where
  pub none_passed : Passed vs k w n 0 s s
  unfolding each
  none_passed = record { within = omega arith; long = refl; is = refl }

  pub next_passed : {i : ℕ} {t u : List ℕ} → Passed vs k w n i s t → i < n → u ≡ sets t (i * w + k) (vs i) → Passed vs k w n (i + 1) s u
  unfolding each
  next_passed {i} {t} r h e = record {
    within = omega arith;
    long = ap length e ∙ length-sets t (i * w + k) (vs i) ∙ r.long;
    is = rw add-one (e ∙ ap (λ x. sets x (i * w + k) (vs i)) r.is);
  }

  pub all_passed : {i : ℕ} {t : List ℕ} → Passed vs k w n i s t → n ≤ i → t ≡ each vs k w n s
  all_passed {i} r h = let e : n ≡ i = omega arith in rw e r.is

-- ---- the parts of a section

-- of each part f i the bytes from j on are written over, which makes it g i
module _ (f g vs : ℕ → List ℕ) (w j m : ℕ) (old : (i : ℕ) → length (f i) ≡ w) (new : (i : ℕ) → length (g i) ≡ w)
    (room : (i : ℕ) → j + length (vs i) ≤ w) (is : (i : ℕ) → i < m → sets (f i) j (vs i) ≡ g i)
    (x : List ℕ) (k : ℕ) (e : length x + j ≡ k) where
  each_in : (n : ℕ) → n ≤ m → (z : List ℕ) → each vs k w n (x ++ (bytes_up_to f n ++ z)) ≡ x ++ (bytes_up_to g n ++ z)
  unfolding each bytes_up_to
  each_in zero h z = refl
  each_in (suc n) h z =
      ap (λ t. sets (each vs k w n (x ++ t)) (n * w + k) (vs n)) (append_assoc (bytes_up_to f n) (f n) z)
      ∙ ap (λ t. sets t (n * w + k) (vs n)) (each_in n (omega arith) (f n ++ z))
      ∙ right x (vs n) (bytes_up_to g n ++ (f n ++ z)) (n * w + k) (n * w + j) (omega arith)
      ∙ ap (λ t. x ++ t) (
      right (bytes_up_to g n) (vs n) (f n ++ z) (n * w + j) j (omega (arith, parts_long g w new n))
      ∙ ap (λ t. bytes_up_to g n ++ t) (left (vs n) (f n) z j (omega (arith, room n, old n)) ∙ ap (λ t. t ++ z) (is n (omega arith)))
      ∙ sym (append_assoc (bytes_up_to g n) (g n) z))

  -- a section of m parts, with x before it and z after it
  pub section : {s t : List ℕ} (z : List ℕ) → s ≡ x ++ (bytes_up_to f m ++ z) → t ≡ x ++ (bytes_up_to g m ++ z) → each vs k w m s ≡ t
  section z p q = ap (each vs k w m) p ∙ each_in m (omega arith) z ∙ sym q

parts_ext : (f g : ℕ → List ℕ) (n : ℕ) → ((i : ℕ) → i < n → f i ≡ g i) → bytes_up_to f n ≡ bytes_up_to g n
unfolding bytes_up_to
parts_ext f g zero h = refl
parts_ext f g (suc n) h = ap₂ ◌++◌ (parts_ext f g n (λ i l. h i (omega arith))) (h n (omega arith))

parts_add : (f : ℕ → List ℕ) (m n : ℕ) → bytes_up_to f (m + n) ≡ bytes_up_to f m ++ bytes_up_to (λ i. f (m + i)) n
unfolding bytes_up_to
parts_add f m zero = let e : m + 0 ≡ m = omega arith in rw e (sym (append-nil (bytes_up_to f m)))
parts_add f m (suc n) =
    let e : m + suc n ≡ suc (m + n) = omega arith in
    rw e (ap (λ t. t ++ f (m + n)) (parts_add f m n) ∙ append_assoc (bytes_up_to f m) (bytes_up_to (λ i. f (m + i)) n) (f (m + n)))

-- the parts of two lists joined
pub parts_append : {A : Type 0} (part : A → List ℕ) (d : A) (u v : List A) (m n : ℕ) → length u ≡ m
    → bytes_up_to (λ i. part (get_or (u ++ v) i d)) (m + n) ≡ bytes_up_to (λ i. part (get_or u i d)) m ++ bytes_up_to (λ i. part (get_or v i d)) n
parts_append part d u v m n e =
    parts_add (λ i. part (get_or (u ++ v) i d)) m n
    ∙ ap₂ ◌++◌ (parts_ext _ _ m (λ i h. ap part (get_or-append u v d i (omega arith))))
    (parts_ext _ _ n (λ i h. ap part (ap (λ l. get_or (u ++ v) (l + i) d) (sym e) ∙ get_or-append-add u v i d)))
