-- Two's complement: the number of a pattern of the upper half is -1 less what the pattern lacks of all ones.
use Prim.Native.Nat.{ℕ, ◌^◌, ◌<◌}
use native.Mathlib.Omega.{arith}
use lib.IntN.{pos, negsuc, ◌-ℤ◌}
use mir.Syntax.{Width}
use mir.Val.{SFits, hbits, to_z}
use mir.Facts.{to_z_pos}
use Rattle.whole.proofs.Parts.{difference, fits}

pub complement_fits : (w : Width) (k : ℕ) → k < 2 ^ hbits w → SFits w (negsuc 0 -ℤ to_z w k)
complement_fits w k h =
    rw (to_z_pos w {n = k} h)
    (fits w (negsuc 0 -ℤ pos k) (omega (arith, difference (negsuc 0) (pos k))) (omega (arith, difference (negsuc 0) (pos k))))
