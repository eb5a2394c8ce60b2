-- Document 01, "Step one": the nearest count of a float's exact value.
use Rattle.std.specs.Prelude.{◌*◌, ℤ, pos, Float}
use Rattle.std.specs.Float.{nan, inf, fin}
use Rattle.std.specs.Float.Ieee.{up, down}
use Rattle.whole.specs.Nearest.{signed, nearest}

-- "nearest count of the float's exact value": ± m * 2^e is the fraction ± (m * up e) / down e. What has no value has no count.
unfoldable pub count : Float → ℤ
unfolding signed
count nan = pos 0
count (inf s) = pos 0
count (fin s m e) = nearest (signed s (m * up e)) (down e)
