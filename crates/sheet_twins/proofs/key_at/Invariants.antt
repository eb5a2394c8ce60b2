-- Each turn writes one more digit; five of them and one more stay below 27^6.
use mathlib.Core.Path.{◌≡◌}
use Rattle.sheet.specs.Sheet.{multiplier}
use Rattle.sheet_twins.specs.Inner.{written}
use Rattle.sheet_twins.proofs.key_at.Given as goal

abbrev pub invariant-loop-i : goal.invariant-loop-i
invariant-loop-i l = l.key ≡ written (multiplier l.sheet.bytes.now l.f) l.i
