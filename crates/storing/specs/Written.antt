-- A write where the bytes stand: which auction they hold after it, for every auction that they held before it. Assumes nothing.
use Rattle.std.specs.Prelude.{◌≡◌, List, ℕ, zero, suc, ◌+◌, ◌*◌, get_or, replicate}
use Rattle.std.proofs.lemmas.List.Edits.{sets}
use Rattle.rules.specs.declared.Quote.{Quote}
use Rattle.rules.specs.declared.Line.{Line}
use Rattle.rules.specs.declared.Record.{Record}
use Rattle.rules.specs.declared.Auction.{Auction}
use Rattle.rules.specs.declared.Place.{Place}
use Rattle.rules.specs.Count.{list_of}
use Rattle.rules.specs.Units.{quote, amount_of}
use Rattle.rules.specs.Card.{no_line}
use Rattle.rules.specs.Parts.{cards, with_cards}
use Rattle.rules.specs.Accept.{place_at}
use Rattle.rules.specs.Layout.{stored}

-- s are the bytes before, z those after
abbrev pub Writes : List ℕ → List ℕ → (Auction → Auction) → Type 0
Writes s z f = (a : Auction) → s ≡ stored a → z ≡ stored (f a)

-- ---- what the calls write

module _ (a : Auction) where
  abbrev pub with_filed : ℕ → Auction
  with_filed x = with_cards a (cards x a.cards.lines)

  abbrev pub with_lines : List Line → Auction
  with_lines ls = with_cards a (cards a.cards.filed ls)

  -- the slot of bidder b holds these lines
  abbrev pub with_slot : ℕ → List Line → Auction
  with_slot b ls = with_lines (sets a.cards.lines (b * 8) ls)

  abbrev pub without_lines : Auction
  without_lines = with_lines (replicate 256 no_line)

-- the amount of the n-th quote
abbrev pub amount_at : List Quote → ℕ → ℕ
amount_at qs p = amount_of (get_or qs p (quote 0 0)).price

-- the records of 256 places
abbrev pub records_in : List Place → List Record
records_in ps = list_of (λ k. (place_at ps k).holds) 256

-- ---- in bytes

-- vs 0, vs 1, .. of n written from k on, each w bytes after the one before it
unfoldable pub each : (ℕ → List ℕ) → ℕ → ℕ → ℕ → List ℕ → List ℕ
each vs k w zero s = s
each vs k w (suc n) s = sets (each vs k w n s) (n * w + k) (vs n)
