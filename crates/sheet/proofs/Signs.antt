-- What the machine reads back of a call's result, whose range is `c.f.type_inv`.
use mathlib.Core.Path.{◌≡◌, ◌∙◌}
use Prim.Native.Nat.{◌^◌, ◌<◌}
use lib.IntN.{ℤ}
use lib.Signed.{mag}
use mir.Syntax.{Width}
use mir.Val.{hbits, to_z, of_z}
use Rattle.whole.proofs.Machine.{back}

pub told : (w : Width) {r z : ℤ} → mag r < 2 ^ hbits w → r ≡ z → to_z w (of_z w r) ≡ z
told w {r} h e = back w r h ∙ e
