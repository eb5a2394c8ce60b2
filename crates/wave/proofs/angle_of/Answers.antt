-- The product fits 64 bits, and the code is the definition.
use native.Mathlib.Omega.{arith}
use Rattle.wave.specs.Wave.{angle}
use Rattle.wave.proofs.angle_of.Goals as goal

pub returns : goal.returns
unfolding angle
returns c = omega arith
