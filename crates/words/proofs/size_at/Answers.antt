-- The size of the word's bits, read as a signed number.
use native.Mathlib.Omega.{arith}
use mathlib.Core.Path.{refl}
use Prim.Native.Nat.{◌^◌, ◌<◌}
use mir.Syntax.{w32}
use Rattle.whole.proofs.Machine.{back}
use Rattle.words.proofs.Signs.{signed_is, complement_small}
use Rattle.words.proofs.size_at.Goals as goal

pub returns : goal.returns
returns c =
    let v = c.word_at.result in
    let h : v < 2 ^ 32 = omega arith in
    rw (c.unsigned_abs.ensures.value, back w32 c.cast_signed.result c.cast_signed.type_inv, c.cast_signed.ensures, signed_is w32 v h refl, ← c.word_at.ensures)
    (refl, complement_small (2 ^ 31) v h)
