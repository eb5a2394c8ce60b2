-- One flag takes every word in turn.
use Rattle.std.proofs.Common.{◌≡◌}
use Rattle.whole.specs.Sum.{all_to}
use Rattle.sheet_places.specs.Inner.{valid_at}
use Rattle.sheet_places.proofs.are_each.Given as goal

abbrev pub invariant-loop-i : goal.invariant-loop-i
invariant-loop-i l = l.good ≡ all_to (valid_at l.bytes l.at) l.i
