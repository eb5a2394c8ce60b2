-- The sum of a phase and an amount, the amount being reduced before.
use Rattle.std.proofs.Common.{ℕ, ◌+◌, ◌%◌, ◌^◌, pos, ◌∙◌, ap₂, arith, to_z-of_z}
use Rattle.arguments.specs.Phase.{moved_by}
use Rattle.arguments.proofs.Modulo.{modulo_sum, modulo_below, modulo_bits}
use Rattle.arguments.proofs.moved_by.Goals as goal

pub returns : goal.returns
unfolding moved_by
returns c =
    let amount = c.ranges.amount in
    (rw (to_z-of_z amount) at c.wrapping_add_signed.ensures)
    ∙ ap₂ (λ (x y : ℕ). (x + y) % 2 ^ 32) (modulo_below (2 ^ 32) (omega arith) c.args.phase c.ranges.phase.fits) (modulo_bits c.args.amount amount)
    ∙ modulo_sum (2 ^ 32) (omega arith) (pos c.args.phase) c.args.amount
