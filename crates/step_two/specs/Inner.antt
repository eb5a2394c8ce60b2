-- What the loops over the lines keep: the sums of the first i lines that a selection names, which leave 64 bits room.
use Rattle.std.specs.Prelude.{List, ◌≡◌, ℕ, ◌*◌, ◌^◌, ◌≤◌, ℤ, nat_abs}
use Rattle.bands.specs.declared.Sums.{Sums}
use Rattle.bands.specs.Bands.{Coefficient, sum_of}
use Rattle.bands.specs.Inner.{sums_of}
use Rattle.choices.specs.declared.LoveModel.{LoveModel}
use Rattle.hour.specs.Hour.{kept}
use Rattle.lines.specs.Lines.{printed_line}
use Rattle.selection.specs.Selection.{selected}

-- over given waves
abbrev pub up_to : LoveModel → ℕ → List ℤ → List ℤ → ℕ → Coefficient → ℤ
up_to love selection cosines sines i = sum_of (selected selection (printed_line love)) (kept cosines) (kept sines) i

pub record Running (love : LoveModel) (selection : ℕ) (cosines sines : List ℤ) (i : ℕ) (sums : Sums) : Type 0 where
  pub sums_are : sums ≡ sums_of (up_to love selection cosines sines i)
  pub most : (k : Coefficient) → nat_abs (up_to love selection cosines sines i k) ≤ i * (472000 * 2 ^ 32)
