-- The exact counterpart at two phases, to 10^-12 of a unit, as second/tides.py has it: every digit of pi counts.
use mathlib.Core.Path.{◌≡◌, refl}
use Prim.Native.Nat.{ℕ, ◌^◌}
use lib.IntN.{ℤ, pos, ◌*ℤ◌}
use Rattle.whole.specs.Nearest.{nearest}
use Rattle.series.specs.Exact.{top, bottom, factorial, denominator, coefficient, term, sine_series, cosine_series, scale, exact_sin}
use Rattle.wave.specs.Wave.{eighths, part, folded, signed}

abbrev in-units : ℕ → ℤ
in-units t = nearest (pos (10 ^ 12) *ℤ exact_sin t) scale

pub record Values : Type 0 where
  pub by_the_sine_series : in-units (2 ^ 28) ≡ pos 410903206682271185771
  pub by_the_cosine_series : in-units (2 ^ 29) ≡ pos 759250124994429947193

pub values : Values
unfolding nearest exact_sin scale eighths part folded signed sine_series cosine_series term coefficient denominator factorial bottom top
values = record { by_the_sine_series = refl; by_the_cosine_series = refl }
