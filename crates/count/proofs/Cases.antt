-- Document 01, "Cases".
use mathlib.Core.Path.{◌≡◌, refl}
use mathlib.Core.Bool.{true, false}
use lib.IntN.{pos, negsuc}
use lib.Ieee.{binary64, round, of_bits}
use Rattle.whole.specs.Nearest.{nearest}
use Rattle.count.specs.Count.{count}

-- P5: 2.5 gives 3, -2.5 gives -3 (document 02, T-07), negative zero 0
pub halves : (count (round binary64 false 25 10) ≡ pos 3) × (count (round binary64 true 25 10) ≡ negsuc 2) × (count (of_bits binary64 0x8000_0000_0000_0000) ≡ pos 0)
unfolding count nearest round of_bits
halves = (refl, refl, refl)
