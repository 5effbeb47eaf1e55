-- `take_card` meets its contract: one reader takes the bidder and the round, the lines, and what fills the last byte. Assumes nothing.
use Rattle.std.proofs.Common.{ap, ◌∙◌}
use Rattle.rules.specs.Card.{read_lines}
use Rattle.card.proofs.ReadLaws.{head_taken, lines_ahead, card_taken}
use Rattle.card.proofs.take_card.Goals as goal

pub take_lines-lines-requires : goal.take_lines-lines-requires
take_lines-lines-requires c =
    let h = c.new-reader.result in
    let over = ap (λ b. b.now) c.new-reader.ensures.0 in
    let t = head_taken _ _ h c.requires.0 c.requires.1 over c.new-reader.ensures.1 _ _ _ _ c.take-bidder.ensures c.take-round.ensures in
    lines_ahead _ _ h c.requires.0 c.requires.1 over c.new-reader.ensures.1 _ t.goes

pub card_of-card-requires : goal.card_of-card-requires
card_of-card-requires c =
    let h = c.new-reader.result in
    let over = ap (λ b. b.now) c.new-reader.ensures.0 in
    let t = head_taken _ _ h c.requires.0 c.requires.1 over c.new-reader.ensures.1 _ _ _ _ c.take-bidder.ensures c.take-round.ensures in
    (t.bidder.small, t.round.small)

pub returns : goal.returns
returns c =
    let s = c.args.card.now in
    let n = c.args.products in
    let h = c.new-reader.result in
    let over = ap (λ b. b.now) c.new-reader.ensures.0 in
    let t = head_taken s n h c.requires.0 c.requires.1 over c.new-reader.ensures.1 _ _ _ _ c.take-bidder.ensures c.take-round.ensures in
    let lines = c.take_lines-lines in (
      card_taken s n h c.requires.0 c.requires.1 over c.new-reader.ensures.1 _ _ _ _ _ _ _ _ _ t lines.ensures.1 c.filling_for.ensures.0 c.take-filling.ensures c.card_of-card.ensures,
      lines.ensures.0 ∙ ap (λ q. read_lines q.card.now n) t.goes ∙ ap (λ x. read_lines x n) over,
    )
