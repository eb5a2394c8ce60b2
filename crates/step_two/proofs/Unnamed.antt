-- A line that is not named gives nothing, whatever its wave: a sum stays as it is, and no lines give nothing.
use mathlib.Core.Bool.{true, false}
use mathlib.Core.Path.{◌≡◌, refl, ap, subst, ◌∙◌}
use Prim.Native.Nat.{ℕ, zero, suc, ◌+◌}
use native.Mathlib.Numerals.{add-one}
use native.Mathlib.Omega.{arith}
use lib.IntN.{ℤ, pos, nat_abs, ◌+ℤ◌, +ℤ_idr}
use Rattle.bands.specs.declared.Line.{Line}
use Rattle.bands.specs.Bands.{Coefficient, C20, C21, S21, C22, S22, term, sum_of, correction_of, corrections_of}
use Rattle.bands.proofs.Terms.{term_size}
use Rattle.choices.specs.declared.LoveModel.{LoveModel}
use Rattle.hour.specs.declared.Hour.{Hour}
use Rattle.hour.specs.Hour.{kept}
use Rattle.lines.specs.Lines.{printed_line}
use Rattle.selection.specs.Selection.{names, without_amplitudes, selected}
use Rattle.selection.proofs.Bits.{clear_above}
use Rattle.whole.specs.Nearest.{nearest}
use Rattle.whole.specs.Sum.{sum_to}
use Rattle.whole.proofs.Parts.{no_size}
use Rattle.whole.proofs.Sums.{sum_next}
use Rattle.step_two.specs.StepTwo.{kept_corrections}

-- no amplitudes: no term
no_amplitudes : (k : Coefficient) (line : Line) (c s : ℤ) → term k (without_amplitudes line) c s ≡ pos 0
no_amplitudes k line c s = no_size (term k (without_amplitudes line) c s) (omega (arith, term_size k (without_amplitudes line) c s (nat_abs c + nat_abs s) (omega arith) (omega arith)))

-- a line that is named is the line itself
pub named_line : (lines : ℕ → Line) (selection i : ℕ) → names selection i ≡ true → {line : Line} → line ≡ lines i → line ≡ selected selection lines i
unfolding selected
named_line lines selection i named same = rw named same

module _ (lines : ℕ → Line) (selection i : ℕ) (not_named : names selection i ≡ false) where
  unnamed_term : (k : Coefficient) (c s : ℤ) → term k (selected selection lines i) c s ≡ pos 0
  unfolding selected
  unnamed_term k c s = rw not_named (no_amplitudes k (lines i) c s)

  pub unnamed_sum : (C S : ℕ → ℤ) (k : Coefficient) → sum_of (selected selection lines) C S (i + 1) k ≡ sum_of (selected selection lines) C S i k
  unfolding sum_of
  unnamed_sum C S k =
      let t : ℕ → ℤ = λ j. term k (selected selection lines j) (C j) (S j) in
      sum_next t i ∙ ap (λ (x : ℤ). sum_to t i +ℤ x) (unnamed_term k (C i) (S i)) ∙ +ℤ_idr (sum_to t i)

-- no line selected: nothing
none_summed : (lines : ℕ → Line) (C S : ℕ → ℤ) (n : ℕ) (k : Coefficient) → sum_of (selected 0 lines) C S n k ≡ pos 0
unfolding sum_of sum_to
none_summed lines C S zero k = refl
none_summed lines C S (suc n) k =
    subst (λ (m : ℕ). sum_of (selected 0 lines) C S m k ≡ pos 0) (add-one n)
    (unnamed_sum lines 0 n (clear_above 0 0 (omega arith) n (omega arith)) C S k ∙ none_summed lines C S n k)

pub no_lines : (hour : Hour) (love : LoveModel) → kept_corrections hour love 0 ≡ record { c20 = pos 0; c21 = pos 0; s21 = pos 0; c22 = pos 0; s22 = pos 0 }
unfolding kept_corrections corrections_of correction_of nearest
no_lines hour love =
    let nothing : (k : Coefficient) → sum_of (selected 0 (printed_line love)) (kept hour.cosines) (kept hour.sines) 49 k ≡ pos 0 = none_summed (printed_line love) _ _ 49 in
    rw (nothing C20, nothing C21, nothing S21, nothing C22, nothing S22) refl
