-- A sum is off by at most two units for each count of the lines' amplitudes, and its nearest by half a count more: for any lines. Of lines no larger
-- than the printed ones that is less than one count, and so of the printed ones that a selection names.
use mathlib.Core.Path.{ap}
use mathlib.Core.List.{[], ◌∷◌}
use Prim.Native.Nat.{ℕ, zero, suc, ◌+◌, ◌*◌, ◌^◌, ◌≤◌, ◌<◌}
use native.Mathlib.Nat.{mul-le-mul_right}
use native.Mathlib.Omega.{arith}
use lib.Dec.{lit<}
use lib.IntN.{ℤ, pos, nat_abs, ◌+ℤ◌, ◌*ℤ◌}
use Rattle.arguments.specs.declared.Phases.{Phases}
use Rattle.bands.specs.declared.Line.{Line}
use Rattle.bands.specs.Inner.{Light}
use Rattle.bands.specs.Bands.{Coefficient, C20, C21, S21, C22, S22, taken, term, sum_of, correction_of, corrections_of}
use Rattle.bands.proofs.Terms.{taken_size}
use Rattle.choices.specs.declared.LoveModel.{LoveModel}
use Rattle.lines.specs.Lines.{line_phase, printed_line}
use Rattle.selection.specs.Selection.{selected}
use Rattle.series.specs.Exact.{bottom, factorial, denominator, scale, exact_sin, exact_cos}
use Rattle.series.proofs.Sums.{waves_near}
use Rattle.wave.specs.Wave.{sin, cos}
use Rattle.whole.specs.Sum.{weight_to}
use Rattle.whole.proofs.Ring.{equal, !, #, ◌⊕◌, ◌⊖◌, ◌⊗◌}
use Rattle.whole.proofs.Running.{weight_size}
use Rattle.whole.proofs.Within.{within_nearest}
use Rattle.step_two.specs.StepTwo.{corrections}
use Rattle.step_two.proofs.Sizes.{selected_light}
use Rattle.step_two_bound.specs.Exact.{parts_of_a_count, LessThanOneCount, amplitudes, ByAmplitudes, LinesCloseToExact, CloseToExact}

-- what a coefficient takes of the lines is no more than they have
taken_weight : (lines : ℕ → Line) (k : Coefficient) (n : ℕ)
    → weight_to (λ i. (taken k (lines i)).cosine) n + weight_to (λ i. (taken k (lines i)).sine) n ≤ amplitudes lines n
unfolding amplitudes weight_to
taken_weight lines k zero = omega arith
taken_weight lines k (suc n) = omega (arith, taken_weight lines k n, taken_size (lines n).band k (lines n).ip (lines n).op)

-- any lines, any number of them, any phases
pub lines_close : (lines : ℕ → Line) (phase : ℕ → ℕ) (n : ℕ) → LinesCloseToExact lines phase n
unfolding ByAmplitudes parts_of_a_count correction_of sum_of term
lines_close lines phase n = record {
  each = λ k.
      let a : ℕ → ℤ = λ i. (taken k (lines i)).cosine in
      let b : ℕ → ℤ = λ i. (taken k (lines i)).sine in
      omega (
        arith,
        (within_nearest (2 ^ 29) (omega arith) (waves_near phase n a b)).off,
        mul-le-mul_right (2 * scale) (taken_weight lines k n),
      );
}

some : 0 < scale
unfolding scale denominator bottom factorial
some = lit< tt

-- amplitudes of up to 2^27 counts in all leave less than one count
close : (total : ℕ) (d x : ℤ) → total ≤ 2 ^ 27 → ByAmplitudes total d x → LessThanOneCount d x
unfolding LessThanOneCount parts_of_a_count ByAmplitudes
close total d x h e = omega (arith, some, mul-le-mul_right scale h)

-- one count off is too far
pub one_count_off : (d : ℤ) → LessThanOneCount (d +ℤ pos 1) (d *ℤ pos parts_of_a_count) → ⊥
unfolding LessThanOneCount
one_count_off d h =
    let e = equal ((! 0 ⊕ # (pos 1)) ⊗ ! 1 ⊖ ! 0 ⊗ ! 1) (! 1) (d ∷ pos parts_of_a_count ∷ []) (omega arith) in
    omega (arith, h, ap nat_abs e)

-- any 49 lines whose amplitudes are at most the largest of the table, whichever they are
pub as_printed_close : (lines : ℕ → Line) → ((i : ℕ) → i < 49 → Light 472000 (lines i)) → (phase : ℕ → ℕ) (k : Coefficient)
    → LessThanOneCount (correction_of (sum_of lines (λ i. cos (phase i)) (λ i. sin (phase i)) 49 k)) (sum_of lines (λ i. exact_cos (phase i)) (λ i. exact_sin (phase i)) 49 k)
unfolding amplitudes
as_printed_close lines light phase k =
    close (amplitudes lines 49) _ _
    (omega (
      arith,
      weight_size (λ i. (lines i).ip) 472000 49 (λ i l. (light i l).ip),
      weight_size (λ i. (lines i).op) 472000 49 (λ i l. (light i l).op),
    ))
    ((lines_close lines phase 49).each k)

-- for all six phases, both models and every selection
pub step_two_close : (phases : Phases) (love : LoveModel) (selection : ℕ) → CloseToExact phases love selection
unfolding corrections corrections_of
step_two_close phases love selection =
    let near = as_printed_close (selected selection (printed_line love)) (λ i l. selected_light love selection i) (line_phase phases) in
    record { c20 = near C20; c21 = near C21; s21 = near S21; c22 = near C22; s22 = near S22 }
