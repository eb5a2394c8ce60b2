-- Document 01, "Step two (001, Tables 6.2)", and document 02, T-01 and T-02: which amplitude of a line goes with the cosine and which with the sine, and
-- with which sign; the sums over lines, and the corrections.
use Rattle.std.specs.Prelude.{List, [], ◌∷◌, ℕ, ◌^◌, ℤ, pos, neg_ℤ, ◌+ℤ◌, ◌*ℤ◌}
use Rattle.whole.specs.Nearest.{nearest}
use Rattle.whole.specs.Sum.{sum_to}
use Rattle.bands.specs.declared.Band.{Band}
use Rattle.bands.specs.declared.Band.TheVariants.{Diurnal, LongPeriod, Semidiurnal}
use Rattle.bands.specs.declared.Corrections.{Corrections}
use Rattle.bands.specs.declared.Line.{Line}
use Rattle.bands.specs.declared.Sums.{Sums}

-- amplitudes are tenths of 10^-12, that is 100 counts
abbrev pub in_counts : ℤ → ℤ
in_counts a = a *ℤ pos 100

-- the coefficients that lines correct
pub data Coefficient : Type 0 where
  C20 : Coefficient
  C21 : Coefficient
  S21 : Coefficient
  C22 : Coefficient
  S22 : Coefficient

-- what goes with the cosine, and what goes with the sine
pub record Taken : Type 0 where
  pub cosine : ℤ
  pub sine : ℤ

abbrev nothing : Taken
nothing = record { cosine = pos 0; sine = pos 0 }

-- "In-phase amplitudes follow the printed band rules; op, the amplitude times the imaginary part, enters as 001's equations give it"
-- "C20 must take ip*cosine - op*sine"
unfoldable pub of_long_period : Coefficient → ℤ → ℤ → Taken
of_long_period C20 ip op = record { cosine = ip; sine = neg_ℤ op }
of_long_period C21 ip op = nothing
of_long_period S21 ip op = nothing
of_long_period C22 ip op = nothing
of_long_period S22 ip op = nothing

-- "C21 takes the sine, S21 the cosine": so the in-phase amplitude; "C21 op*cosine, S21 -op*sine"
unfoldable pub of_diurnal : Coefficient → ℤ → ℤ → Taken
of_diurnal C20 ip op = nothing
of_diurnal C21 ip op = record { cosine = op; sine = ip }
of_diurnal S21 ip op = record { cosine = ip; sine = neg_ℤ op }
of_diurnal C22 ip op = nothing
of_diurnal S22 ip op = nothing

-- "C22 takes the cosine, S22 minus the sine"; "C22 -op*sine, S22 -op*cosine"
unfoldable pub of_semidiurnal : Coefficient → ℤ → ℤ → Taken
of_semidiurnal C20 ip op = nothing
of_semidiurnal C21 ip op = nothing
of_semidiurnal S21 ip op = nothing
of_semidiurnal C22 ip op = record { cosine = ip; sine = neg_ℤ op }
of_semidiurnal S22 ip op = record { cosine = neg_ℤ op; sine = neg_ℤ ip }

unfoldable pub of_band : Band → Coefficient → ℤ → ℤ → Taken
of_band Diurnal = of_diurnal
of_band LongPeriod = of_long_period
of_band Semidiurnal = of_semidiurnal

abbrev pub taken : Coefficient → Line → Taken
taken k line = of_band line.band k line.ip line.op

-- a line's term in a coefficient's sum
unfoldable pub term : Coefficient → Line → ℤ → ℤ → ℤ
term k line cosine sine = (taken k line).cosine *ℤ cosine +ℤ (taken k line).sine *ℤ sine

-- a line's terms added to the five sums
unfoldable pub plus_line : Sums → Line → ℤ → ℤ → Sums
plus_line sums line cosine sine = record {
  c20 = sums.c20 +ℤ term C20 line cosine sine;
  c21 = sums.c21 +ℤ term C21 line cosine sine;
  s21 = sums.s21 +ℤ term S21 line cosine sine;
  c22 = sums.c22 +ℤ term C22 line cosine sine;
  s22 = sums.s22 +ℤ term S22 line cosine sine;
}

-- "Sum amplitude*100*sine without rounding", over the first n of given lines with given cosines and sines: the lines may be the printed ones or others,
-- the waves the rounded ones, the exact ones or kept ones
unfoldable pub sum_of : (ℕ → Line) → (ℕ → ℤ) → (ℕ → ℤ) → ℕ → Coefficient → ℤ
sum_of lines cosines sines n k = sum_to (λ i. term k (lines i) (cosines i) (sines i)) n

-- "nearest of sum/2^30 once"
unfoldable pub correction_of : ℤ → ℤ
correction_of sum = nearest sum (2 ^ 30)

unfoldable pub corrections_of : (Coefficient → ℤ) → Corrections
corrections_of sum = record {
  c20 = correction_of (sum C20);
  c21 = correction_of (sum C21);
  s21 = correction_of (sum S21);
  c22 = correction_of (sum C22);
  s22 = correction_of (sum S22);
}

-- the corrections of C20, C21, C22; of S21, S22
abbrev pub for_c : Corrections → List ℤ
for_c d = d.c20 ∷ d.c21 ∷ d.c22 ∷ []

abbrev pub for_s : Corrections → List ℤ
for_s d = d.s21 ∷ d.s22 ∷ []
