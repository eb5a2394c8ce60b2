-- The rest of a text.
use mathlib.Core.Path.{◌≡◌}
use mathlib.Core.List.{List}
use Prim.Native.Nat.{ℕ, ◌-◌}
use native.Mathlib.Omega.{arith}
use lib.ListN.{length, drop, length-drop}
use lib.Seq.{take_all}
use Rattle.icgem_words.specs.Inner.{part}

-- the list of `&text[at..]`
pub part_rest : (text : List ℕ) (at : ℕ) → part at (length text) text ≡ drop at text
part_rest text at = take_all (length text - at) (drop at text) (omega (arith, length-drop at text))
