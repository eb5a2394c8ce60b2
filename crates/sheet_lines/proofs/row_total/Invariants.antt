-- The sum is that of the absolute admittances passed, each at most 2^31.
use mathlib.Core.Path.{◌≡◌}
use Prim.Native.Nat.{◌*◌, ◌^◌, ◌≤◌}
use Rattle.whole.specs.Sum.{weight_to}
use Rattle.sheet.specs.Sheet.{admittance}
use Rattle.sheet_lines.proofs.row_total.Given as goal

abbrev pub invariant-loop-f : goal.invariant-loop-f
invariant-loop-f l = (l.sum ≡ weight_to (admittance l.sheet.bytes.now l.k) l.f) × (l.sum ≤ l.f * 2 ^ 31)
