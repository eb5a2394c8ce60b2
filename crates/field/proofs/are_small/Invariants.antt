-- Where all bits together are below 2^61, so is each raised entry, and it is in range.
use Rattle.std.proofs.Common.{ℕ, ◌-◌, ◌^◌, ◌<◌, ◌≤◌, length, get_or, pos, nat_abs}
use Rattle.field.proofs.are_small.Given as goal

abbrev pub invariant-loop-entry : goal.invariant-loop-entry
invariant-loop-entry l = (l.entry-index ≤ length l.list) × (l.any < 2 ^ 61 → (k : ℕ) → k < l.entry-index → nat_abs (get_or l.list k (pos 0)) ≤ 2 ^ 60)

abbrev pub decreases-loop-entry : goal.decreases-loop-entry
decreases-loop-entry l = length l.list - l.entry-index
