-- A power of the base is at least 1, and at most the fifth power of 16.
use Rattle.std.proofs.Common.{ℕ, ◌^◌, ◌≤◌, arith}
use Rattle.std.proofs.Math.Nat.{pow-le-pow_left, pow-le-pow_right, one-le-pow}
use Rattle.doodson.proofs.digit.Goals as goal

power-size : (b k : ℕ) → b ≤ 16 → k ≤ 5 → b ^ k ≤ 16 ^ 5
power-size b k h l = omega (arith, pow-le-pow_left h k, pow-le-pow_right {n = 16} (omega arith) l)

pub pow-requires : goal.pow-requires
pow-requires g c = omega (arith, power-size g.row.BASE c.args.k c.requires.base.1 c.requires.place)

pub nonzero_div-result : goal.nonzero_div-result
nonzero_div-result g c = omega (arith, one-le-pow c.args.k g.row.BASE (omega arith))
