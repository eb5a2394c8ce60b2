-- The third demand for step two: "each second-step solid correction less than one count" from its exact sum, which is "the same sum with no
-- rounding anywhere".
use Rattle.std.specs.Prelude.{ℕ, ◌+◌, ◌*◌, ◌^◌, ◌≤◌, ◌<◌, ℤ, pos, nat_abs, ◌-ℤ◌, ◌*ℤ◌}
use Rattle.arguments.specs.declared.Phases.{Phases}
use Rattle.bands.specs.declared.Line.{Line}
use Rattle.bands.specs.Bands.{Coefficient, C20, C21, S21, C22, S22, sum_of, correction_of}
use Rattle.choices.specs.declared.LoveModel.{LoveModel}
use Rattle.series.specs.Exact.{scale, exact_sin, exact_cos}
use Rattle.wave.specs.Wave.{sin, cos}
use Rattle.whole.specs.Sum.{weight_to}
use Rattle.step_two.specs.StepTwo.{selected_sum, corrections}

-- an exact sum has so many parts to a count: its sines are in units of 2^-30, over `scale`
unfoldable pub parts_of_a_count : ℕ
parts_of_a_count = 2 ^ 30 * scale

-- a correction in counts is less than one count from a sum in those parts
unfoldable pub LessThanOneCount : ℤ → ℤ → Type 0
LessThanOneCount correction exact = nat_abs (correction *ℤ pos parts_of_a_count -ℤ exact) < parts_of_a_count

-- the amplitudes of the first n of given lines, added up without their signs
unfoldable pub amplitudes : (ℕ → Line) → ℕ → ℕ
amplitudes lines n = weight_to (λ i. (lines i).ip) n + weight_to (λ i. (lines i).op) n

-- a correction is at most half a count, and two units of 2^-30 for each count of the lines' amplitudes, from its exact sum
unfoldable pub ByAmplitudes : ℕ → ℤ → ℤ → Type 0
ByAmplitudes total correction exact = nat_abs (correction *ℤ pos parts_of_a_count -ℤ exact) ≤ (2 ^ 29 + 2 * total) * scale

-- so for any lines, any number of them and any phases
pub record LinesCloseToExact (lines : ℕ → Line) (phase : ℕ → ℕ) (n : ℕ) : Type 0 where
  pub each : (k : Coefficient) → ByAmplitudes (amplitudes lines n)
      (correction_of (sum_of lines (λ i. cos (phase i)) (λ i. sin (phase i)) n k))
      (sum_of lines (λ i. exact_cos (phase i)) (λ i. exact_sin (phase i)) n k)

-- the exact sums of the printed lines that a selection names
abbrev pub exact_sum : Phases → LoveModel → ℕ → Coefficient → ℤ
exact_sum phases love selection = selected_sum exact_sin exact_cos phases love selection

pub record CloseToExact (phases : Phases) (love : LoveModel) (selection : ℕ) : Type 0 where
  pub c20 : LessThanOneCount (corrections phases love selection).c20 (exact_sum phases love selection C20)
  pub c21 : LessThanOneCount (corrections phases love selection).c21 (exact_sum phases love selection C21)
  pub s21 : LessThanOneCount (corrections phases love selection).s21 (exact_sum phases love selection S21)
  pub c22 : LessThanOneCount (corrections phases love selection).c22 (exact_sum phases love selection C22)
  pub s22 : LessThanOneCount (corrections phases love selection).s22 (exact_sum phases love selection S22)
