-- The square fits 64 bits, and the code is the definition.
use native.Mathlib.Nat.{mul-le-mul}
use native.Mathlib.Omega.{arith}
use Rattle.wave.specs.Wave.{square}
use Rattle.wave.proofs.square_of.Goals as goal

pub returns : goal.returns
unfolding square
returns c = omega (arith, mul-le-mul c.requires c.requires)
