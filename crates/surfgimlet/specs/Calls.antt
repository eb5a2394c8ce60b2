-- The calls over a field: the number answered, tests in their order, and every entry of both lists afterwards.
use Rattle.std.specs.Prelude.{List, [], ◌∷◌, ℕ, ℤ}
use Rattle.arguments.specs.declared.Phases.{Phases}
use Rattle.bands.specs.declared.Corrections.{Corrections}
use Rattle.bands.specs.Bands.{for_c, for_s}
use Rattle.bodies.specs.declared.Body.{Body}
use Rattle.choices.specs.declared.Frame.{Frame}
use Rattle.choices.specs.declared.LoveModel.{LoveModel}
use Rattle.field.specs.Added.{corrected, added, added_at}
use Rattle.field.specs.Field.{place, field_refusal}
use Rattle.hour.specs.declared.Hour.{Hour}
use Rattle.ocean.specs.Ocean.{d_c, d_s}
use Rattle.own.specs.declared.OwnLine.{OwnLine}
use Rattle.own.specs.Own.{records_refusal, own_corrections}
use Rattle.places.specs.Places.{index_of}
use Rattle.pole.specs.Pole.{offsets_refusal, corrections as pole_corrections}
use Rattle.refusals.specs.Outcome.{Outcome, first_of, unless_refused}
use Rattle.refusals.specs.Told.{told_number}
use Rattle.selection.specs.Selection.{selection_refusal}
use Rattle.sheet.specs.Accepted.{sheet_refusal}
use Rattle.sheet.specs.Sheet.{place_count}
use Rattle.solid.specs.Solid.{solid_counts}
use Rattle.step_one.specs.StepOne.{places, corrections as body_corrections}
use Rattle.step_two.specs.StepTwo.{kept_corrections}

-- ---- solid tide (02, T-06): refusals 1, 2, 14, then the Moon's 3, 4, 5, the Sun's, and 6
unfoldable pub solid_tide_refusal : ℕ → List ℤ → List ℤ → Body → Body → LoveModel → ℕ → ℕ
solid_tide_refusal n c s moon sun love selection =
    first_of (field_refusal n c s) (first_of (selection_refusal selection) (told_number (body_corrections moon sun love)))

-- "The correction is the sum of the two, added once.": with given corrections of lines
unfoldable pub solid_by : ℕ → List ℤ → List ℤ → Body → Body → LoveModel → ℕ → Corrections → Outcome
solid_by n c s moon sun love selection two =
    let counts = solid_counts moon sun love two in
    unless_refused (solid_tide_refusal n c s moon sun love selection) c s (added_at places counts.c c) (added_at places counts.s s)

-- T-08: "takes this record in place of bare phases and reads the kept values"
unfoldable pub solid_tide : ℕ → List ℤ → List ℤ → Body → Body → LoveModel → Hour → ℕ → Outcome
solid_tide n c s moon sun love hour selection = solid_by n c s moon sun love selection (kept_corrections hour love selection)

-- ---- own lines (02, T-01): refusals 1, 2, then 12, 13
-- C20, C21, C22; S21, S22
unfoldable pub places_c : List ℕ
unfolding place
places_c = place 2 0 ∷ place 2 1 ∷ place 2 2 ∷ []

unfoldable pub places_s : List ℕ
unfolding place
places_s = place 2 1 ∷ place 2 2 ∷ []

-- five entries corrected, unless a number refuses the call
unfoldable pub five_corrected : ℕ → List ℤ → List ℤ → Corrections → Outcome
five_corrected number c s d = unless_refused number c s (added_at places_c (for_c d) c) (added_at places_s (for_s d) s)

unfoldable pub own_lines_refusal : ℕ → List ℤ → List ℤ → List OwnLine → ℕ
own_lines_refusal n c s lines = first_of (field_refusal n c s) (records_refusal lines)

unfoldable pub own_lines : ℕ → List ℤ → List ℤ → List OwnLine → Phases → Outcome
own_lines n c s lines phases = five_corrected (own_lines_refusal n c s lines) c s (own_corrections phases lines)

-- ---- solid pole tide (02, T-05): refusals 1, 2, then 15
unfoldable pub pole_tide_refusal : ℕ → List ℤ → List ℤ → ℤ → ℤ → ℕ
pole_tide_refusal n c s xp yp = first_of (field_refusal n c s) (offsets_refusal xp yp)

-- "Nothing but the two entries moves": C21 and S21
unfoldable pub pole_tide : ℕ → List ℤ → List ℤ → ℤ → ℤ → LoveModel → Outcome
pole_tide n c s xp yp love =
    let d = pole_corrections xp yp love in
    unless_refused (pole_tide_refusal n c s xp yp) c s (corrected c (place 2 1) d.c21) (corrected s (place 2 1) d.s21)

-- ---- ocean tide: refusals 1, 2, then the sheet's 7, 8, 16, 9
unfoldable pub ocean_refusal : ℕ → List ℤ → List ℤ → List ℕ → ℕ
ocean_refusal n c s sheet = first_of (field_refusal n c s) (sheet_refusal sheet n)

-- "Added to the field": the correction of each of the sheet's places
unfoldable pub ocean_tide : ℕ → List ℤ → List ℤ → List ℕ → Phases → Frame → Outcome
ocean_tide n c s sheet phases frame =
    unless_refused (ocean_refusal n c s sheet) c s
    (added (index_of sheet) (d_c sheet phases frame) (place_count sheet) c)
    (added (index_of sheet) (d_s sheet phases frame) (place_count sheet) s)
