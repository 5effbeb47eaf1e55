-- Document 02, request 10: "a plain engine for step 2 that takes any order of the products and goes through it again and again, keeping as many
-- as are lacking at each visit"; and every other way to make step 2. Assumes nothing.
use Rattle.std.specs.Prelude.{◌≡◌, Bool, true, cond, List, ℕ, zero, suc, ◌+◌, ◌-◌, ◌<◌, eqb}
use Rattle.rules.specs.declared.Place.{Place}
use Rattle.rules.specs.declared.Kept.{Kept}
use Rattle.rules.specs.Accept.{column, every, held_of, left_of}
use Rattle.rules.specs.Keep.{short, can_keep, keep_step, kept}

-- how many tranches a ticked product lacks to its target
abbrev pub lacking : ℕ → (ℕ → ℕ) → (ℕ → Bool) → List Place → ℕ → ℕ
lacking n target tick ps p = cond (tick p) (target p - column held_of ps p n) 0

-- k tranches kept on product p, one after another, each as step 2 keeps one; where nothing is left to keep it ends
unfoldable pub keep_many : ℕ → ℕ → (ℕ → ℕ) → ℕ → Kept → ℕ → Kept
keep_many m n draw zero s p = s
keep_many m n draw (suc k) s p =
    cond (can_keep n draw s.places p) (keep_many m n draw k (kept (keep_step m n draw s.places p) (s.count + 1)) p) s

module _ (m n : ℕ) (target : ℕ → ℕ) (tick : ℕ → Bool) (draw order : ℕ → ℕ) where
  -- "keeping as many as are lacking at each visit"
  abbrev pub visit : Kept → ℕ → Kept
  visit s p = keep_many m n draw (lacking n target tick s.places p) s p

  -- the first i products of the order, visited one after another
  unfoldable pub visits : Kept → ℕ → Kept
  visits s zero = s
  visits s (suc i) = visit (visits s i) (order i)

  -- "goes through it": each of the m products
  abbrev pub pass : Kept → Kept
  pass s = visits s m

  -- "again and again": until a pass keeps nothing
  unfoldable pub passes : ℕ → Kept → Kept
  passes zero s = s
  passes (suc f) s = cond (eqb (pass s).count s.count) (pass s) (passes f (pass s))

  -- every pass but the last keeps a tranche, and there are no more to keep than withdrawals and switches
  abbrev pub plain_all : List Place → Kept
  plain_all ps = passes (every left_of ps n) (kept ps 0)

-- ---- however step 2 is made

-- from x, by k steps, each of which could be made where it was, to z
pub data Run {A : Type 0} (can : A → ℕ → Type 0) (step : A → ℕ → A) : A → ℕ → A → Type 0 where
  none : {x : A} → Run can step x 0 x
  more : {x z : A} {k : ℕ} (p : ℕ) → can x p → Run can step (step x p) k z → Run can step x (suc k) z

-- no step can be made
abbrev pub Still : {A : Type 0} → (A → ℕ → Type 0) → A → Type 0
Still can x = (p : ℕ) → can x p → ⊥

-- a tranche is to be kept on p: a product in use that is short
abbrev pub Short : ℕ → ℕ → (ℕ → ℕ) → (ℕ → Bool) → List Place → ℕ → Type 0
Short m n target tick ps p = (p < m) × (short n target tick ps p ≡ true)
