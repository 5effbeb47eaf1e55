-- No more bidders have filed than there are. Assumes nothing.
use mathlib.Core.Path.{◌≡◌, refl, sym, subst}
use mathlib.Core.Bool.{Bool, true, false}
use Prim.Native.Nat.{ℕ, zero, suc, ◌+◌, ◌-◌, ◌/◌, ◌%◌, ◌^◌, ◌≤◌, ◌<◌}
use native.Mathlib.Nat.{div-lt_iff_lt-mul, one-mul, add-zero}
use native.Mathlib.Omega.{arith}
use borrow.Author.Tests.{eqb-false}
use lib.Count.{ones, ones-le}
use lib.Pow.{pow_pos, shr_lt}
use Rattle.rules.specs.declared.Auction.{Auction}
use Rattle.rules.specs.Bid.{has_filed}
use Rattle.rules.specs.Calls.{to_file}
use Rattle.rules.specs.Stands.{Stands}
use Rattle.rules.proofs.Legal.{filed_in_use}

-- a number whose bits from n on are 0 is below 2 to the n
under : (x n w : ℕ) → x < 2 ^ (n + w) → ((i : ℕ) → n ≤ i → i < n + w → x / 2 ^ i % 2 ≡ 0) → x < 2 ^ n
under x n zero h b = subst (λ k. x < 2 ^ k) (add-zero n) h
under x n (suc w) h b = under x n w below (λ i l g. b i l (omega arith))
  where
    more : n + suc w ≡ 1 + (n + w)
    more = omega arith

    top : x / 2 ^ (n + w) < 2
    top = shr_lt 1 (n + w) (subst (λ k. x < 2 ^ k) more h)

    below : x < 2 ^ (n + w)
    below =
        let z : x / 2 ^ (n + w) < 1 = omega (arith, top, b (n + w) (omega arith) (omega arith)) in
        subst (λ k. x < k) (one-mul (2 ^ (n + w))) ((div-lt_iff_lt-mul (pow_pos (n + w))).0 z)

module _ (a : Auction) (S : Stands a) (h : a.cards.filed < 4294967296) where
  unset_by : (b : ℕ) → b < 32 → a.terms.bidders ≤ b → (t : Bool) → has_filed a b ≡ t → a.cards.filed / 2 ^ b % 2 ≡ 0
  unset_by b l g true e = absurd (let z : ⊥ = omega (arith, filed_in_use a S b l e) in z)
  unset_by b l g false e = omega (arith, eqb-false (a.cards.filed / 2 ^ b % 2) 1 e)

  pub few_filed : ones a.cards.filed ≤ a.terms.bidders
  few_filed =
      let L = S.limits in
      let n = a.terms.bidders in
      let e : n + (32 - n) ≡ 32 = omega (arith, L.bidders) in
      ones-le n a.cards.filed
      (under a.cards.filed n (32 - n) (subst (λ k. a.cards.filed < 2 ^ k) (sym e) h) (λ i l g. unset_by i (omega arith) l (has_filed a i) refl))

-- what is counted, however it is written
module _ (a : Auction) (n marks : ℕ) (e : n ≡ a.terms.bidders) (f : marks ≡ a.cards.filed) where
  pub counted_few : ones a.cards.filed ≤ a.terms.bidders → ones marks ≤ n
  counted_few h = rw (e, f) h

  pub counted : n - ones marks ≡ to_file a
  counted = rw (e, f)
