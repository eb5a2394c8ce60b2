-- The bits of a multiplier are the multiplier modulo a turn, and a multiple may be reduced before it is taken.
use Rattle.std.proofs.Common.{ℕ, ◌*◌, ◌%◌, ◌^◌, ap, ◌∙◌, arith, to_z-of_z}
use Rattle.arguments.proofs.Modulo.{modulo_product, modulo_bits}
use Rattle.arguments.proofs.multiple.Goals as goal

pub returns : goal.returns
returns c =
    let k = c.ranges.k in
    ap (λ (x : ℕ). x * c.args.a % 2 ^ 32) ((rw (to_z-of_z k) at c.cast_unsigned.ensures) ∙ modulo_bits c.args.k k)
    ∙ modulo_product (2 ^ 32) (omega arith) c.args.k c.args.a
