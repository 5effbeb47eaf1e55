-- Number 12 lot by lot: the first lot that is wrong, or none. Assumes nothing.
use Rattle.std.proofs.Common.{◌≡◌, ℕ, Bool, true, false, not, ◌&&◌, sym, refl}
use Rattle.rules.proofs.Lists.{clash}
use Rattle.rules.specs.declared.Lots.{Lots}
use Rattle.rules.specs.Lots.{leads, follows, exit_fits, in_order, exits_fit}

-- the first of two rows of tests, where a pair fails and where it holds
fails : (a b x y : Bool) → not (a && b) ≡ true → not ((a && x) && (b && y)) ≡ true
fails false b x y h = refl
fails true true x y h = clash h refl
fails true false false y h = refl
fails true false true y h = refl

holds : (a b x y t : Bool) → not (a && b) ≡ false → not (x && y) ≡ t → not ((a && x) && (b && y)) ≡ t
holds true true x y t h k = k
holds true false x y t h k = clash refl h
holds false b x y t h k = clash refl h

module _ (l : Lots) (p q : ℕ) {o f : Bool} (eo : o ≡ leads l.one) (ef : f ≡ exit_fits p q l.one) where
  pub wrong_first : not (o && f) ≡ true → true ≡ not (exits_fit p q l)
  unfolding exits_fit in_order
  wrong_first h = rw (← eo, ← ef) (sym (fails o f _ _ h))

  module _ {o2 f2 : Bool} (h : not (o && f) ≡ false) (eo2 : o2 ≡ follows l.one l.two) (ef2 : f2 ≡ exit_fits p q l.two) where
    pub wrong_second : not (o2 && f2) ≡ true → true ≡ not (exits_fit p q l)
    unfolding exits_fit in_order
    wrong_second h2 = rw (← eo, ← ef, ← eo2, ← ef2) (sym (holds o f _ _ true h (fails o2 f2 _ _ h2)))

    module _ {o3 f3 : Bool} (h2 : not (o2 && f2) ≡ false) (eo3 : o3 ≡ follows l.two l.three)
        (ef3 : f3 ≡ exit_fits p q l.three) where
      pub wrong_third : not (o3 && f3) ≡ true → true ≡ not (exits_fit p q l)
      unfolding exits_fit in_order
      wrong_third h3 =
          rw (← eo, ← ef, ← eo2, ← ef2, ← eo3, ← ef3) (sym (holds o f _ _ true h (holds o2 f2 _ _ true h2 (fails o3 f3 _ _ h3))))

      module _ {o4 f4 : Bool} (h3 : not (o3 && f3) ≡ false) (eo4 : o4 ≡ follows l.three l.four)
          (ef4 : f4 ≡ exit_fits p q l.four) where
        pub wrong_fourth : not (o4 && f4) ≡ true → true ≡ not (exits_fit p q l)
        unfolding exits_fit in_order
        wrong_fourth h4 =
            rw (← eo, ← ef, ← eo2, ← ef2, ← eo3, ← ef3, ← eo4, ← ef4)
            (sym (holds o f _ _ true h (holds o2 f2 _ _ true h2 (holds o3 f3 _ _ true h3 h4))))

        pub none_wrong : not (o4 && f4) ≡ false → false ≡ not (exits_fit p q l)
        unfolding exits_fit in_order
        none_wrong h4 =
            rw (← eo, ← ef, ← eo2, ← ef2, ← eo3, ← ef3, ← eo4, ← ef4)
            (sym (holds o f _ _ false h (holds o2 f2 _ _ false h2 (holds o3 f3 _ _ false h3 h4))))
