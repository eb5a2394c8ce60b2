-- One flag takes both S counts of every tide in turn.
use Rattle.std.proofs.Common.{◌≡◌}
use Rattle.whole.specs.Sum.{all_to}
use Rattle.sheet.specs.Accepted.{s_zero}
use Rattle.sheet_places.proofs.are_s_zero.Given as goal

abbrev pub invariant-loop-k : goal.invariant-loop-k
invariant-loop-k l = l.good ≡ all_to (s_zero l.sheet.bytes.now l.j) l.k
