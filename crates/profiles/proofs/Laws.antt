-- What the two profiles name, and how many lines.
use mathlib.Core.Bool.{true, false}
use mathlib.Core.Path.{◌≡◌, refl}
use Prim.Native.Nat.{ℕ, ◌<◌}
use lib.IntN.{ℤ, pos, neg_ℤ}
use Rattle.bands.specs.declared.Band.TheVariants.{LongPeriod}
use Rattle.bands.specs.declared.Line.{Line}
use Rattle.bands.specs.Bands.{in_counts}
use Rattle.choices.specs.declared.LoveModel.TheVariants.{Anelastic}
use Rattle.lines.specs.Lines.{diurnal, long_period, semidiurnal, printed, line_at, band_at, in_model, printed_line}
use Rattle.selection.specs.Selection.{names, lines_named, selection_refusal, selected, selection_of}
use Rattle.selection.proofs.Bits.{made_of}
use Rattle.whole.specs.Sum.{count_to}
use Rattle.profiles.specs.Profiles.{all_lines, at_least_ten, major_lines}

-- all lines
pub all_named : (i : ℕ) → i < 49 → names all_lines i ≡ true
unfolding all_lines
all_named i h = made_of (λ i. true) 49 i h

pub all_selected : (lines : ℕ → Line) (i : ℕ) → i < 49 → selected all_lines lines i ≡ lines i
unfolding selected
all_selected lines i h = rw (all_named i h)

-- those of at least ten tenths
pub major_named : (i : ℕ) → i < 49 → names major_lines i ≡ at_least_ten (printed_line Anelastic i)
unfolding major_lines
major_named i h = made_of (λ i. at_least_ten (printed_line Anelastic i)) 49 i h

-- ten tenths are enough, of either amplitude and either sign, and nine are not
abbrev of_tenths : ℤ → ℤ → Line
of_tenths ip op = record { band = LongPeriod; ip = in_counts ip; op = in_counts op }

pub record AtTen : Type 0 where
  pub ip : at_least_ten (of_tenths (pos 10) (pos 0)) ≡ true
  pub op : at_least_ten (of_tenths (pos 0) (pos 10)) ≡ true
  pub minus_ip : at_least_ten (of_tenths (neg_ℤ (pos 10)) (pos 9)) ≡ true
  pub minus_op : at_least_ten (of_tenths (pos 9) (neg_ℤ (pos 10))) ≡ true
  pub nine : at_least_ten (of_tenths (pos 9) (neg_ℤ (pos 9))) ≡ false

pub at_ten : AtTen
at_ten = record { ip = refl; op = refl; minus_ip = refl; minus_op = refl; nine = refl }

-- how many lines the profiles name
pub record Profiles : Type 0 where
  pub all : lines_named all_lines ≡ 49
  pub major : lines_named major_lines ≡ 21
  pub all_accepted : selection_refusal all_lines ≡ 0
  pub major_accepted : selection_refusal major_lines ≡ 0

pub profiles : Profiles
unfolding lines_named selection_refusal names count_to all_lines major_lines selection_of printed_line in_model band_at line_at printed diurnal long_period semidiurnal
profiles = record { all = refl; major = refl; all_accepted = refl; major_accepted = refl }
