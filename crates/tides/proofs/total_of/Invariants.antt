-- Each turn adds one more wave.
use mathlib.Core.Path.{◌≡◌}
use Prim.Native.Nat.{◌*◌, ◌^◌, ◌≤◌}
use Rattle.tides.specs.Inner.{total}
use Rattle.tides.proofs.total_of.Given as goal

abbrev pub invariant-loop-f : goal.invariant-loop-f
invariant-loop-f l = (l.sum ≡ total l.waves l.f) × (l.sum ≤ l.f * 2 ^ 31)
