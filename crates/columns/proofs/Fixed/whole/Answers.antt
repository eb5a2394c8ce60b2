-- A power of ten is at least 1.
use native.Mathlib.Nat.{one-le-pow}
use native.Mathlib.Omega.{arith}
use Rattle.columns.proofs.Fixed.whole.Goals as goal

pub nonzero_div-result : goal.nonzero_div-result
nonzero_div-result c = omega (arith, c.pow.ensures, one-le-pow c.args.self.now.decimals 10 (omega arith))
