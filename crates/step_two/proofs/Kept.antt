-- Document 02, T-08: a record that holds the values worked out afresh from its phases gives what step two gives from the phases.
use mathlib.Core.Path.{◌≡◌, refl, ap}
use Prim.Native.Nat.{ℕ}
use Rattle.arguments.specs.declared.Phases.{Phases}
use Rattle.bands.specs.Bands.{Coefficient, C20, C21, S21, C22, S22, term, sum_of, correction_of, corrections_of}
use Rattle.choices.specs.declared.LoveModel.{LoveModel}
use Rattle.hour.specs.declared.Hour.{Hour}
use Rattle.hour.specs.Hour.{kept, hour_at, Fresh}
use Rattle.hour.proofs.Reached.{fresh_cosine, fresh_sine, set_fresh}
use Rattle.lines.specs.Lines.{line_phase, printed_line}
use Rattle.selection.specs.Selection.{selected}
use Rattle.wave.specs.Wave.{sin, cos}
use Rattle.whole.proofs.Sums.{sum_same}
use Rattle.step_two.specs.StepTwo.{selected_sum, corrections, kept_sum, kept_corrections}

module _ (hour : Hour) (fresh : Fresh hour) (love : LoveModel) (selection : ℕ) where
  fresh_sum : (k : Coefficient) → kept_sum hour love selection k ≡ selected_sum sin cos hour.phases love selection k
  unfolding sum_of
  fresh_sum k =
      sum_same (λ i. term k (selected selection (printed_line love) i) (kept hour.cosines i) (kept hour.sines i))
      (λ i. term k (selected selection (printed_line love) i) (cos (line_phase hour.phases i)) (sin (line_phase hour.phases i))) 49
      (λ i l. rw (fresh_cosine hour fresh i l, fresh_sine hour fresh i l) refl)

  pub fresh_corrections : kept_corrections hour love selection ≡ corrections hour.phases love selection
  unfolding kept_corrections corrections corrections_of
  fresh_corrections =
      let n : (k : Coefficient) → correction_of (kept_sum hour love selection k) ≡ correction_of (selected_sum sin cos hour.phases love selection k) = λ k. ap correction_of (fresh_sum k) in
      λ j. record { c20 = n C20 j; c21 = n C21 j; s21 = n S21 j; c22 = n C22 j; s22 = n S22 j }

-- so one that was set to phases
pub set_corrections : (phases : Phases) (love : LoveModel) (selection : ℕ) → kept_corrections (hour_at phases) love selection ≡ corrections phases love selection
unfolding hour_at
set_corrections phases love selection = fresh_corrections (hour_at phases) (set_fresh phases) love selection
