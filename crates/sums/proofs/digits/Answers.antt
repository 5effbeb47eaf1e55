-- `digits` meets its contract: the words of the padded message. Assumes nothing.
use Rattle.std.proofs.Common.{ℕ, List, ap, ◌∙◌}
use Rattle.sums.specs.Sum.{digits_up_to, sha256_digits}
use Rattle.sums.proofs.digits.Goals as goal

pub returns : goal.returns
unfolding sha256_digits
returns c = λ m h. c.digits_of.ensures ∙ ap (λ (w : List ℕ). digits_up_to w 64) (c.padded.ensures m h).words
