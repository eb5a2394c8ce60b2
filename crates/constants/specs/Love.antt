-- Document 01, "Step one": the Love numbers, in hundred-thousandths, each the f64 nearest its decimal.
use Rattle.std.specs.Prelude.{ℕ, Float}
use Rattle.doubles.specs.declared.Complex.{Complex}
use Rattle.doubles.specs.Doubles.{decimal, minus_decimal, number}
use Rattle.choices.specs.declared.LoveModel.{LoveModel}
use Rattle.choices.specs.declared.LoveModel.TheVariants.{Elastic, Anelastic}
use Rattle.constants.specs.declared.Loves.{Loves}
use Rattle.constants.specs.declared.Loves3.{Loves3}

abbrev real : ℕ → Complex
real x = record { re = decimal x 100000; im = number 0 }

-- x - iy
abbrev complex : ℕ → ℕ → Complex
complex x y = record { re = decimal x 100000; im = minus_decimal y 100000 }

abbrev minus : ℕ → Float
minus x = minus_decimal x 100000

-- "elastic: k20 0.29525, k21 0.29470, k22 0.29801; k+ -0.00087, -0.00079, -0.00057.
-- Anelastic (real, imaginary): 0.30190, 0; 0.29830, -0.00144; 0.30102, -0.00130; k+ -0.00089, -0.00080, -0.00057."
unfoldable pub loves : LoveModel → Loves
loves Elastic =
    record {
      k20 = real 29525;
      k21 = real 29470;
      k22 = real 29801;
      plus0 = minus 87;
      plus1 = minus 79;
      plus2 = minus 57;
    }
loves Anelastic =
    record {
      k20 = real 30190;
      k21 = complex 29830 144;
      k22 = complex 30102 130;
      plus0 = minus 89;
      plus1 = minus 80;
      plus2 = minus 57;
    }

-- "Degree 3, both: 0.093, 0.093, 0.093, 0.094."
unfoldable pub loves3 : Loves3
loves3 = record { k30 = real 9300; k31 = real 9300; k32 = real 9300; k33 = real 9400 }
