-- Document 01, "Step two (001, Tables 6.2)": the 49 printed lines, in its order and with its values; and finding one by its Doodson number.
use Rattle.std.specs.Prelude.{cond, List, [], ◌∷◌, ◌++◌, ℕ, ◌+◌, ltb, eqb, ℤ, pos, neg_ℤ, get_or}
use Rattle.arguments.specs.declared.Multipliers.{Multipliers}
use Rattle.arguments.specs.declared.Phases.{Phases}
use Rattle.arguments.specs.Phase.{phase}
use Rattle.bands.specs.declared.Band.{Band}
use Rattle.bands.specs.declared.Band.TheVariants.{Diurnal, LongPeriod, Semidiurnal}
use Rattle.bands.specs.declared.Line.{Line as BandLine}
use Rattle.bands.specs.Bands.{in_counts}
use Rattle.choices.specs.declared.LoveModel.{LoveModel}
use Rattle.choices.specs.declared.LoveModel.TheVariants.{Elastic, Anelastic}
use Rattle.refusals.specs.Told.{Told}
use Rattle.refusals.specs.Told.Told.{accepted, refused}
use Rattle.doodson.specs.Doodson.{multipliers_in}
use Rattle.limits.specs.Limits.{is_doodson}
pub use Rattle.lines.specs.declared.Found.{Found}

-- a Doodson number and two printed amplitudes, in tenths of 10^-12
pub record Printed : Type 0 where
  pub number : ℕ
  pub first : ℤ
  pub second : ℤ

abbrev line : ℕ → ℤ → ℤ → Printed
line n a b = record { number = n; first = a; second = b }

-- a semidiurnal amplitude is given twice
abbrev both : ℕ → ℤ → Printed
both n a = line n a a

abbrev plus : ℕ → ℤ
plus n = pos n

abbrev minus : ℕ → ℤ
minus n = neg_ℤ (pos n)

-- elastic/anelastic
unfoldable pub diurnal : List Printed
diurnal =
    line 135645 (minus 1) (minus 1) ∷
    line 135655 (minus 7) (minus 7) ∷
    line 137455 (minus 1) (minus 1) ∷
    line 145545 (minus 12) (minus 13) ∷
    line 145555 (minus 66) (minus 67) ∷
    line 153655 (plus 1) (plus 1) ∷
    line 155455 (plus 4) (plus 4) ∷
    line 155655 (plus 13) (plus 13) ∷
    line 155665 (plus 2) (plus 3) ∷
    line 157455 (plus 3) (plus 3) ∷
    line 162556 (minus 19) (minus 19) ∷
    line 163545 (plus 5) (plus 5) ∷
    line 163555 (minus 433) (minus 432) ∷
    line 164556 (plus 20) (plus 20) ∷
    line 165545 (minus 88) (minus 88) ∷
    line 165555 (plus 4720) (plus 4710) ∷
    line 165565 (plus 683) (plus 682) ∷
    line 165575 (minus 16) (minus 16) ∷
    line 166554 (minus 208) (minus 204) ∷
    line 167555 (minus 50) (minus 50) ∷
    line 173655 (minus 5) (minus 5) ∷
    line 175455 (minus 21) (minus 21) ∷
    line 175465 (minus 4) (minus 4) ∷
    line 183555 (minus 2) (minus 2) ∷
    line 185555 (minus 7) (minus 6) ∷
    line 185565 (minus 4) (minus 4) ∷ []

-- ip/op
unfoldable pub long_period : List Printed
long_period =
    line 55565 (plus 166) (minus 67) ∷
    line 55575 (minus 1) (plus 1) ∷
    line 56554 (minus 12) (plus 8) ∷
    line 57555 (minus 55) (plus 43) ∷
    line 57565 (plus 1) (minus 1) ∷
    line 58554 (minus 3) (plus 2) ∷
    line 63655 (minus 3) (plus 7) ∷
    line 65445 (plus 1) (minus 2) ∷
    line 65455 (minus 12) (plus 37) ∷
    line 65465 (plus 1) (minus 2) ∷
    line 65655 (plus 1) (minus 2) ∷
    line 73555 (plus 0) (plus 6) ∷
    line 75355 (plus 0) (plus 3) ∷
    line 75555 (plus 6) (plus 63) ∷
    line 75565 (plus 2) (plus 26) ∷
    line 75575 (plus 0) (plus 2) ∷
    line 83655 (plus 1) (plus 2) ∷
    line 85455 (plus 4) (plus 11) ∷
    line 85465 (plus 2) (plus 5) ∷
    line 93555 (plus 1) (plus 2) ∷
    line 95355 (plus 1) (plus 1) ∷ []

unfoldable pub semidiurnal : List Printed
semidiurnal =
    both 245655 (minus 3) ∷
    both 255555 (minus 12) ∷ []

-- index 0..48: diurnal, long period, semidiurnal
unfoldable pub printed : List Printed
unfolding diurnal long_period semidiurnal
printed = diurnal ++ long_period ++ semidiurnal

-- past the last line nothing is printed
abbrev pub nowhere : Printed
nowhere = both 0 (pos 0)

unfoldable pub line_at : ℕ → Printed
line_at i = get_or printed i nowhere

-- a printed line's multipliers are those in its number
unfoldable pub multipliers_at : ℕ → Multipliers
multipliers_at i = multipliers_in (line_at i).number

-- its phase at six arguments
abbrev pub line_phase : Phases → ℕ → ℕ
line_phase phases i = phase (multipliers_at i) phases

-- index 0..48: diurnal, long period, semidiurnal
unfoldable pub band_at : ℕ → Band
band_at i = cond (ltb i 26) Diurnal (cond (ltb i 47) LongPeriod Semidiurnal)

-- diurnal, elastic/anelastic; long period, anelastic only, ip/op; semidiurnal, both models; "with the table's numbers kept" (document 02, T-02)
unfoldable pub in_model : Band → LoveModel → ℤ → ℤ → BandLine
in_model Diurnal Elastic a b = record { band = Diurnal; ip = in_counts a; op = pos 0 }
in_model Diurnal Anelastic a b = record { band = Diurnal; ip = in_counts b; op = pos 0 }
in_model LongPeriod Elastic a b = record { band = LongPeriod; ip = pos 0; op = pos 0 }
in_model LongPeriod Anelastic a b = record { band = LongPeriod; ip = in_counts a; op = in_counts b }
in_model Semidiurnal love a b = record { band = Semidiurnal; ip = in_counts a; op = pos 0 }

unfoldable pub printed_line : LoveModel → ℕ → BandLine
printed_line love i = in_model (band_at i) love (line_at i).first (line_at i).second

-- sought among lines of which the first has the index i: 11 exactly when none has the number
unfoldable pub sought_from : ℕ → ℕ → List Printed → Told Found
sought_from number i [] = refused 11
sought_from number i (l ∷ ls) =
    cond (eqb l.number number) (accepted (record { index = i; first = l.first; second = l.second })) (sought_from number (i + 1) ls)

-- 10 is tested first
unfoldable pub find_line : ℕ → Told Found
find_line number = cond (is_doodson number) (sought_from number 0 printed) (refused 10)
