-- Where the bits together do not tell, each word does; either way the words are those of every tide.
use Rattle.std.proofs.Common.{◌≡◌, ℕ, ◌+◌, ◌*◌, sym, ◌∙◌, arith, lt-ltb}
use Rattle.whole.specs.Sum.{all_to}
use Rattle.whole.proofs.Counted.{all_of}
use Rattle.sheet.specs.Sheet.{tide_count}
use Rattle.sheet.specs.Accepted.{counts_valid}
use Rattle.sheet_places.specs.Inner.{valid_at}
use Rattle.sheet_places.proofs.Joining.{by_tides}
use Rattle.sheet_places.proofs.are_counts.Goals as goal
use Rattle.sheet_places.proofs.are_counts.Goals.{After-place_start-at}

module _ (c : After-place_start-at) where
  abbrev at : ℕ
  at = c.place_start-at.result + 2

  abbrev count : ℕ
  count = 4 * c.args.sheet.now.layout.tides

  of-tides : all_to (valid_at c.args.sheet.now.bytes.now at) count ≡ all_to (counts_valid c.args.sheet.now.bytes.now c.args.j) (tide_count c.args.sheet.now.bytes.now)
  of-tides = by_tides c.args.sheet.now.bytes.now c.args.j at count (omega arith) (omega (arith, c.args.sheet.now.laid.tides))

pub returns-then-joined-lt33554432 : goal.returns-then-joined-lt33554432
returns-then-joined-lt33554432 c =
    let d = (goal.at.returns-then-joined-lt33554432 c).After-place_start-at in
    lt-ltb _ _ c.if-joined-lt33554432.true ∙ sym (all_of (valid_at c.args.sheet.now.bytes.now (at d)) (count d) (c.joined.ensures.each (omega arith))) ∙ of-tides d

pub returns-else-joined-lt33554432 : goal.returns-else-joined-lt33554432
returns-else-joined-lt33554432 c = c.are_each.ensures ∙ of-tides (goal.at.returns-else-joined-lt33554432 c).After-place_start-at
