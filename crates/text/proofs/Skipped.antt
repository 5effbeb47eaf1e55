-- A line that is too long ends where it would have ended had it been kept whole. Assumes nothing.
use Rattle.std.proofs.Common.{◌≡◌, ℕ, zero, suc, ◌+◌, ◌-◌, ◌<◌, ◌≤◌, Bool, true, false, ◌&&◌, eqb, List, [], ◌∷◌, ◌++◌, length, get_or, take, drop, set, sym, refl, ◌∙◌, subst, ap₂, add-one, arith, eqb-true, le-leb}
use Rattle.text.specs.Words.{run_end}
use Rattle.text.specs.Lines.{ends_line, end_from, remark, line_end, back, kept_if, kept_of, kept_at}
use Rattle.text.proofs.Lined.{end_more, end_stop}

-- ---- the end of a line, looked for from a place on before which it is not

module _ (m : Bool) (w : List ℕ) where
  abbrev ends_at : ℕ → Bool
  ends_at n = ends_line m (back w n 2) (back w n 1) (get_or w n 0)

  abbrev From : ℕ → Type 0
  From n = end_from m 0 0 w ≡ n + end_from m (back w n 2) (back w n 1) (drop n w)

  back_one : (n : ℕ) → back w (n + 1) 1 ≡ get_or w n 0
  back_one n =
      let e : n + 1 - 1 ≡ n = omega arith in
      rw (le-leb 1 (n + 1) (omega arith), e) refl

  back_two : (n : ℕ) → back w (n + 1) 2 ≡ back w n 1
  back_two zero = refl
  back_two (suc n) =
      let e : suc n + 1 - 2 ≡ suc n - 1 = omega arith in
      rw (le-leb 2 (suc n + 1) (omega arith), le-leb 1 (suc n) (omega arith), e) refl

  one_more : (n : ℕ) → n < length w → n < end_from m 0 0 w → From n → (t : Bool) → ends_at n ≡ t → From (n + 1)
  one_more n l h e true t =
      let x = end_stop m (back w n 2) (back w n 1) w n l t in
      absurd (let z : ⊥ = omega arith in z)
  one_more n l h e false t =
      e ∙ end_more m (back w n 2) (back w n 1) w n l t
      ∙ sym (ap₂ (λ s f. n + 1 + end_from m s f (drop (n + 1) w)) (back_two n) (back_one n))

  end_from_lem : (n : ℕ) → n ≤ length w → n ≤ end_from m 0 0 w → From n
  end_from_lem zero l h = omega arith
  end_from_lem (suc n) l h =
      subst From (add-one n) (one_more n (omega arith) (omega arith) (end_from_lem n (omega arith) (omega arith)) (ends_at n) refl)

-- ---- what is kept of the bytes before that place

-- after a backslash it does not matter what stands before it
same_held : (s : ℕ) (v : List ℕ) → end_from false 120 92 v ≡ end_from false s 92 v
unfolding end_from
same_held s [] = refl
same_held s (b ∷ v) = refl

-- where no line end would be held none is held after `x`
next_same : (f b : ℕ) (v : List ℕ) → eqb f 92 ≡ false → end_from false 120 b v ≡ end_from false f b v
unfolding end_from
next_same f b [] e = refl
next_same f b (c ∷ v) e = rw e refl

and_assoc : (t u z : Bool) → (t && (u && z)) ≡ ((t && u) && z)
and_assoc true u z = refl
and_assoc false u z = refl

same_free : (s f : ℕ) (v : List ℕ) → eqb f 92 ≡ false → (eqb s 92 && eqb f 13) ≡ false → end_from false 0 120 v ≡ end_from false s f v
unfolding end_from
same_free s f [] e g = refl
same_free s f (b ∷ v) e g = rw (and_assoc (eqb s 92) (eqb f 13) (eqb b 10), e, g, next_same f b v e) refl

kept_ends : (s f : ℕ) (v : List ℕ) (t u x : Bool) → eqb f 92 ≡ t → eqb s 92 ≡ u → eqb f 13 ≡ x
    → end_from false 0 0 (kept_of s f ++ v) ≡ length (kept_of s f) + end_from false s f v
unfolding end_from
kept_ends s f v true u x e g h = let k = same_held s v in rw (eqb-true f 92 e) (omega arith)
kept_ends s f v false true true e g h = rw (eqb-true s 92 g, eqb-true f 13 h) (omega arith)
kept_ends s f v false true false e g h = let k = same_free s f v e (rw (g, h) refl) in rw (e, g, h) (omega arith)
kept_ends s f v false false x e g h = let k = same_free s f v e (rw g refl) in rw (e, g) (omega arith)

-- it stands at the start of a buffer
pub kept_stands : (w : List ℕ) (s f : ℕ) → 3 ≤ length w → take (length (kept_of s f)) (set (set (set w 0 120) 1 92) 2 13) ≡ kept_of s f
kept_stands [] s f h = absurd (let z : ⊥ = omega arith in z)
kept_stands (a ∷ []) s f h = absurd (let z : ⊥ = omega arith in z)
kept_stands (a ∷ (b ∷ [])) s f h = absurd (let z : ⊥ = omega arith in z)
kept_stands (a ∷ (b ∷ (c ∷ w))) s f h = by (eqb f 92) (eqb s 92 && eqb f 13)
  where
    by : (t u : Bool) → take (length (kept_if t u)) (120 ∷ 92 ∷ 13 ∷ w) ≡ kept_if t u
    by true u = refl
    by false true = refl
    by false false = refl

-- no remark begins so
kept_remark : (s f : ℕ) (v : List ℕ) → remark (kept_of s f ++ v) ≡ false
unfolding run_end
kept_remark s f v = by (eqb f 92) (eqb s 92 && eqb f 13)
  where
    begins : (w : List ℕ) → remark (120 ∷ w) ≡ false
    begins w = let e : suc (length w) - 0 ≡ suc (length w) = omega arith in rw e refl

    by : (t u : Bool) → remark (kept_if t u ++ v) ≡ false
    by true u = begins (92 ∷ v)
    by false true = begins (92 ∷ 13 ∷ v)
    by false false = begins v

-- a line that has not ended in its first n bytes ends, kept so, where it would have
pub skipped_ends : (w : List ℕ) (n : ℕ) → n ≤ length w → remark w ≡ false → n ≤ line_end w
    → n + line_end (kept_at w n ++ drop n w) ≡ length (kept_at w n) + line_end w
skipped_ends w n l r h =
    let s = back w n 2 in
    let f = back w n 1 in
    let k = kept_ends s f (drop n w) (eqb f 92) (eqb s 92) (eqb f 13) refl refl refl in
    let e = end_from_lem false w n l (subst (λ m. n ≤ end_from m 0 0 w) r h) in
    rw (kept_remark s f (drop n w), r) (omega arith)
