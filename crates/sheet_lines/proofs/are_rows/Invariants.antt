-- One flag takes every row's test in turn.
use mathlib.Core.Path.{◌≡◌}
use Rattle.whole.specs.Sum.{all_to}
use Rattle.sheet.specs.Accepted.{row_valid}
use Rattle.sheet_lines.proofs.are_rows.Given as goal

abbrev pub invariant-loop-k : goal.invariant-loop-k
invariant-loop-k l = l.good ≡ all_to (row_valid l.sheet.bytes.now) l.k
