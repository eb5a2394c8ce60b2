-- A line's term has the sign of its amplitudes, so that sums and corrections of reversed lines are those of the lines with the other sign: any lines, the
-- printed ones, own records.
use mathlib.Core.Bool.{Bool, true, false, cond}
use mathlib.Core.List.{List, [], ◌∷◌, map}
use mathlib.Core.Path.{◌≡◌, refl, sym, ap, ◌∙◌}
use Prim.Native.Nat.{ℕ, zero, suc, ◌^◌, ◌<◌}
use native.Mathlib.Omega.{arith}
use lib.IntN.{ℤ, pos, neg_ℤ, ◌+ℤ◌, ◌*ℤ◌}
use lib.ListN.{length, length-map, get_or-map}
use Rattle.arguments.specs.declared.Phases.{Phases}
use Rattle.bands.specs.declared.Band.{Band}
use Rattle.bands.specs.declared.Band.TheVariants.{Diurnal, LongPeriod, Semidiurnal}
use Rattle.bands.specs.declared.Line.{Line}
use Rattle.bands.specs.Bands.{Coefficient, C20, C21, S21, C22, S22, Taken, of_long_period, of_diurnal, of_semidiurnal, of_band, taken, term, in_counts, sum_of, correction_of, corrections_of, for_c, for_s}
use Rattle.choices.specs.declared.LoveModel.{LoveModel}
use Rattle.demands.specs.Demands.{at, of_lines}
use Rattle.field.specs.Field.{field_refusal}
use Rattle.lines.specs.Lines.{line_phase, printed_line}
use Rattle.own.specs.declared.OwnLine.{OwnLine}
use Rattle.own.specs.Own.{multipliers_of, line_of, in_range, none, record_at, records_refusal, own_phase, own_sum, own_corrections}
use Rattle.refusals.specs.Outcome.{first_of}
use Rattle.selection.specs.Selection.{names, without_amplitudes, selected}
use Rattle.step_two.specs.StepTwo.{selected_sum, corrections}
use Rattle.surfgimlet.specs.Calls.{places_c, places_s, five_corrected, own_lines_refusal, own_lines}
use Rattle.wave.specs.Wave.{sin, cos}
use Rattle.whole.proofs.Counted.{all_same}
use Rattle.whole.proofs.Parts.{abs_neg}
use Rattle.whole.proofs.Ring.{equal, !, ⊝, ◌⊕◌, ◌⊗◌}
use Rattle.whole.proofs.Rounding.{nearest_reversed}
use Rattle.whole.proofs.Sums.{sum_same, sum_reversed}
use Rattle.reversal.specs.Reversal.{reversed_line, reversed_record, Opposite}
use Rattle.reversal.proofs.Written.{at_opposite, opposite_calls}

-- ---- any lines
abbrev reversed_taken : Taken → Taken
reversed_taken t = record { cosine = neg_ℤ t.cosine; sine = neg_ℤ t.sine }

taken_reversed : (b : Band) (k : Coefficient) (ip op : ℤ) → of_band b k (neg_ℤ ip) (neg_ℤ op) ≡ reversed_taken (of_band b k ip op)
unfolding of_band of_long_period of_diurnal of_semidiurnal
taken_reversed LongPeriod C20 ip op = refl
taken_reversed LongPeriod C21 ip op = refl
taken_reversed LongPeriod S21 ip op = refl
taken_reversed LongPeriod C22 ip op = refl
taken_reversed LongPeriod S22 ip op = refl
taken_reversed Diurnal C20 ip op = refl
taken_reversed Diurnal C21 ip op = refl
taken_reversed Diurnal S21 ip op = refl
taken_reversed Diurnal C22 ip op = refl
taken_reversed Diurnal S22 ip op = refl
taken_reversed Semidiurnal C20 ip op = refl
taken_reversed Semidiurnal C21 ip op = refl
taken_reversed Semidiurnal S21 ip op = refl
taken_reversed Semidiurnal C22 ip op = refl
taken_reversed Semidiurnal S22 ip op = refl

term_reversed : (k : Coefficient) (l : Line) (cosine sine : ℤ) → term k (reversed_line l) cosine sine ≡ neg_ℤ (term k l cosine sine)
unfolding term
term_reversed k l cosine sine =
    let t = taken k l in
    ap (λ (u : Taken). u.cosine *ℤ cosine +ℤ u.sine *ℤ sine) (taken_reversed l.band k l.ip l.op)
    ∙ equal (⊝ (! 0) ⊗ ! 2 ⊕ ⊝ (! 1) ⊗ ! 3) (⊝ (! 0 ⊗ ! 2 ⊕ ! 1 ⊗ ! 3)) (t.cosine ∷ t.sine ∷ cosine ∷ sine ∷ []) (omega arith)

-- lines that are others reversed, with the same waves
module _ (lines lines' : ℕ → Line) (cosines sines cosines' sines' : ℕ → ℤ) (n : ℕ)
    (same_lines : (i : ℕ) → i < n → lines' i ≡ reversed_line (lines i)) (same-cosines : (i : ℕ) → i < n → cosines' i ≡ cosines i) (same-sines : (i : ℕ) → i < n → sines' i ≡ sines i) where
  sum_opposite : (k : Coefficient) → sum_of lines' cosines' sines' n k ≡ neg_ℤ (sum_of lines cosines sines n k)
  unfolding sum_of
  sum_opposite k =
      sum_same (λ i. term k (lines' i) (cosines' i) (sines' i)) (λ i. neg_ℤ (term k (lines i) (cosines i) (sines i))) n
      (λ i h. rw (same_lines i h, same-cosines i h, same-sines i h) (term_reversed k (lines i) (cosines i) (sines i)))
      ∙ sum_reversed (λ i. term k (lines i) (cosines i) (sines i)) n

  correction_opposite : (k : Coefficient) → correction_of (sum_of lines' cosines' sines' n k) ≡ neg_ℤ (correction_of (sum_of lines cosines sines n k))
  unfolding correction_of
  correction_opposite k = ap correction_of (sum_opposite k) ∙ nearest_reversed (sum_of lines cosines sines n k) (2 ^ 30) (omega arith)

pub any_lines : (lines : ℕ → Line) (cosines sines : ℕ → ℤ) (n : ℕ) (k : Coefficient)
    → correction_of (sum_of (λ i. reversed_line (lines i)) cosines sines n k) ≡ neg_ℤ (correction_of (sum_of lines cosines sines n k))
any_lines lines cosines sines n = correction_opposite lines _ cosines sines cosines sines n (λ i h. refl) (λ i h. refl) (λ i h. refl)

-- ---- the printed lines: a line that is not named has no amplitudes, reversed or not
selected_reversed : (selection : ℕ) (lines : ℕ → Line) (i : ℕ) → selected selection (λ j. reversed_line (lines j)) i ≡ reversed_line (selected selection lines i)
unfolding selected
selected_reversed selection lines i = by_test (names selection i)
  where
    by_test : (t : Bool) → cond t (reversed_line (lines i)) (without_amplitudes (lines i)) ≡ reversed_line (cond t (lines i) (without_amplitudes (lines i)))
    by_test true = refl
    by_test false = refl

each : (sum : Coefficient → ℤ) (k : Coefficient) → of_lines (corrections_of sum) k ≡ correction_of (sum k)
unfolding corrections_of
each sum C20 = refl
each sum C21 = refl
each sum S21 = refl
each sum C22 = refl
each sum S22 = refl

pub printed_lines : (phases : Phases) (love : LoveModel) (selection : ℕ) (k : Coefficient)
    → correction_of (sum_of (selected selection (λ i. reversed_line (printed_line love i))) (λ i. cos (line_phase phases i)) (λ i. sin (line_phase phases i)) 49 k)
    ≡ neg_ℤ (of_lines (corrections phases love selection) k)
unfolding corrections
printed_lines phases love selection k =
    correction_opposite (selected selection (printed_line love)) _ _ _ _ _ 49 (λ i h. selected_reversed selection (printed_line love) i) (λ i h. refl) (λ i h. refl) k
    ∙ ap neg_ℤ (sym (each (selected_sum sin cos phases love selection) k))

-- ---- own lines
module _ (l : List OwnLine) where
  abbrev reversed : List OwnLine
  reversed = map reversed_record l

  record_reversed : (i : ℕ) → record_at reversed i ≡ reversed_record (record_at l i)
  record_reversed i = get_or-map reversed_record l i none

  line_reversed : (i : ℕ) → line_of (record_at reversed i) ≡ reversed_line (line_of (record_at l i))
  unfolding line_of
  line_reversed i =
      let r = record_at l i in
      let counts : (a : ℤ) → in_counts (neg_ℤ a) ≡ neg_ℤ (in_counts a) = λ a. equal (⊝ (! 0) ⊗ ! 1) (⊝ (! 0 ⊗ ! 1)) (a ∷ pos 100 ∷ []) (omega arith) in
      rw (record_reversed i, counts r.ip, counts r.op) refl

  phase_same : (phases : Phases) (i : ℕ) → own_phase phases reversed i ≡ own_phase phases l i
  unfolding multipliers_of
  phase_same phases i = rw (record_reversed i) refl

  own_opposite : (phases : Phases) (k : Coefficient) → of_lines (own_corrections phases reversed) k ≡ neg_ℤ (of_lines (own_corrections phases l) k)
  unfolding own_corrections
  own_opposite phases k =
      each (own_sum sin cos phases reversed) k
      ∙ rw (length-map l reversed_record)
      (correction_opposite (λ i. line_of (record_at l i)) (λ i. line_of (record_at reversed i)) _ _ _ _ (length l)
      (λ i h. line_reversed i) (λ i h. ap cos (phase_same phases i)) (λ i h. ap sin (phase_same phases i)) k)
      ∙ ap neg_ℤ (sym (each (own_sum sin cos phases l) k))

  -- each amplitude keeps its size
  range_same : (i : ℕ) → in_range (record_at reversed i) ≡ in_range (record_at l i)
  unfolding in_range
  range_same i = let r = record_at l i in rw (record_reversed i, abs_neg r.ip, abs_neg r.op) refl

  refusal_same : records_refusal reversed ≡ records_refusal l
  unfolding records_refusal
  refusal_same =
      rw (length-map l reversed_record, all_same (λ i. in_range (record_at reversed i)) (λ i. in_range (record_at l i)) (length l) (λ i h. range_same i)) refl

  pub own-lines : (n : ℕ) (c s : List ℤ) (phases : Phases) → Opposite c s (own_lines n c s l phases) (own_lines n c s reversed phases)
  unfolding own_lines own_lines_refusal five_corrected
  own-lines n c s phases =
      opposite_calls (first_of (field_refusal n c s) (records_refusal l)) (first_of (field_refusal n c s) (records_refusal reversed)) c s _ _ _ _
      (ap (first_of (field_refusal n c s)) refusal_same)
      (at_opposite places_c (for_c (own_corrections phases l)) (for_c (own_corrections phases reversed)) c in_c)
      (at_opposite places_s (for_s (own_corrections phases l)) (for_s (own_corrections phases reversed)) s in-s)
    where
      in_c : (j : ℕ) → at (for_c (own_corrections phases reversed)) j ≡ neg_ℤ (at (for_c (own_corrections phases l)) j)
      in_c zero = own_opposite phases C20
      in_c (suc zero) = own_opposite phases C21
      in_c (suc (suc zero)) = own_opposite phases C22
      in_c (suc (suc (suc j))) = refl

      in-s : (j : ℕ) → at (for_s (own_corrections phases reversed)) j ≡ neg_ℤ (at (for_s (own_corrections phases l)) j)
      in-s zero = own_opposite phases S21
      in-s (suc zero) = own_opposite phases S22
      in-s (suc (suc j)) = refl
