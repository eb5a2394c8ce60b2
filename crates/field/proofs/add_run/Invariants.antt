-- The loop has added the corrections so far; the entry that comes next is still in range.
use Rattle.std.proofs.Common.{◌≡◌, ◌+◌, ◌-◌, ◌≤◌, length, get_or, pos}
use Rattle.field.specs.Added.{added}
use Rattle.field.proofs.add_run.Given as goal

abbrev pub invariant-loop-k : goal.invariant-loop-k
invariant-loop-k l = (l.k ≤ length l.by) × (l.list ≡ added (λ i. l.from + i) (λ i. get_or l.by i (pos 0)) l.k l.initial.list)

abbrev pub decreases-loop-k : goal.decreases-loop-k
decreases-loop-k l = length l.by - l.k
