-- The size of a number that is not negative once 13 is added.
use mathlib.Core.Path.{refl}
use native.Mathlib.Omega.{arith}
use lib.IntN.{pos}
use mir.Syntax.{w32}
use mir.Facts.{to_z-of_z}
use Rattle.whole.proofs.Machine.{sum_fits}
use Rattle.sheet_twins.specs.Inner.{digit}
use Rattle.sheet_twins.proofs.digit.Goals as goal

pub returns : goal.returns
unfolding digit
returns c = rw (c.unsigned_abs.ensures.value, to_z-of_z c.ranges.k, to_z-of_z (sum_fits w32 c.args.k (pos 13) (omega arith))) refl
