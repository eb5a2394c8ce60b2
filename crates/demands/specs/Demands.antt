-- The three demands that the unit is built for, in their words. Each is a record of statements about what the calls are defined to give; that the code
-- gives it is each call's own contract, and that the definitions are the rules is what must be believed.
use Rattle.std.specs.Prelude.{List, ◌⊎◌, ◌≡◌, ℕ, ◌≤◌, ◌<◌, ℤ, pos, ◌+ℤ◌, ◌-ℤ◌, get_or}
use Rattle.arguments.specs.declared.Multipliers.{Multipliers}
use Rattle.arguments.specs.declared.Phases.{Phases}
use Rattle.bands.specs.declared.Corrections.{Corrections}
use Rattle.bands.specs.Bands.{Coefficient, C20, C21, S21, C22, S22}
use Rattle.bodies.specs.declared.Body.{Body}
use Rattle.choices.specs.declared.Frame.{Frame}
use Rattle.choices.specs.declared.LoveModel.{LoveModel}
use Rattle.choices.specs.declared.PermanentSystem.{PermanentSystem}
use Rattle.doodson.specs.Doodson.{read_doodson, write_doodson}
use Rattle.field.specs.Field.{place}
use Rattle.hour.specs.declared.Hour.{Hour}
use Rattle.hour.specs.Hour.{HourCall, reached}
use Rattle.ocean.specs.Ocean.{d_c, d_s}
use Rattle.ocean_bound.specs.Exact.{AtMostNineCounts, exact_sum as ocean_sum}
use Rattle.own.specs.declared.OwnLine.{OwnLine}
use Rattle.own.specs.Own.{own_corrections}
use Rattle.own_bound.specs.Exact.{WithinThreeCounts, exact_sum as own_sum}
use Rattle.permanent.specs.Systems.{moved_c20}
use Rattle.places.specs.Places.{index_of}
use Rattle.pole.specs.Pole.{exact_c21, exact_s21, corrections as pole_corrections, WithinHalfACount}
use Rattle.refusals.specs.Outcome.{Outcome}
use Rattle.refusals.specs.Told.Told.{accepted}
use Rattle.sheet.specs.Sheet.{place_count, c_cos, s_cos, c_sin, s_sin}
use Rattle.solid.specs.Solid.{counts_of}
use Rattle.step_one.specs.StepOne.{Counts, places, corrections as body_corrections}
use Rattle.step_two.specs.StepTwo.{corrections as line_corrections, kept_corrections}
use Rattle.step_two_bound.specs.Exact.{LessThanOneCount, exact_sum as line_sum}
use Rattle.surfgimlet.specs.Calls.{solid_tide_refusal, solid_tide, own_lines_refusal, own_lines, pole_tide_refusal, pole_tide, ocean_refusal, ocean_tide}

-- the entry at k
abbrev pub at : List ℤ → ℕ → ℤ
at l k = get_or l k (pos 0)

-- what the entry at k gained
abbrev pub gained : List ℤ → List ℤ → ℕ → ℤ
gained before after k = at after k -ℤ at before k

-- "Faulty input is refused with the number the description gives, in its order of checks, and then each lent coefficient still has the value it had."
pub record Refuses (o : Outcome) (number : ℕ) (c s : List ℤ) : Type 0 where
  pub answered : o.number ≡ number
  pub kept_c : (number ≡ 0 → ⊥) → o.c ≡ c
  pub kept_s : (number ≡ 0 → ⊥) → o.s ≡ s

pub record First : Type 0 where
  pub solid-tide : (n : ℕ) (c s : List ℤ) (moon sun : Body) (love : LoveModel) (hour : Hour) (selection : ℕ)
      → Refuses (solid_tide n c s moon sun love hour selection) (solid_tide_refusal n c s moon sun love selection) c s
  pub own-lines : (n : ℕ) (c s : List ℤ) (lines : List OwnLine) (phases : Phases) → Refuses (own_lines n c s lines phases) (own_lines_refusal n c s lines) c s
  pub pole-tide : (n : ℕ) (c s : List ℤ) (xp yp : ℤ) (love : LoveModel) → Refuses (pole_tide n c s xp yp love) (pole_tide_refusal n c s xp yp) c s
  pub ocean-tide : (n : ℕ) (c s : List ℤ) (sheet : List ℕ) (phases : Phases) (frame : Frame) → Refuses (ocean_tide n c s sheet phases frame) (ocean_refusal n c s sheet) c s

-- "The solid-tide corrections follow Chapter 6 .., and the ocean ones the synthesis rule ..": each entry that a rule names gains its correction.
-- "Coefficients a rule does not name keep their values."
-- the entry of a coefficient of degree two, and what step one and a rule of lines add to it
abbrev pub entry_of : List ℤ → List ℤ → Coefficient → ℤ
entry_of c s C20 = at c (place 2 0)
entry_of c s C21 = at c (place 2 1)
entry_of c s S21 = at s (place 2 1)
entry_of c s C22 = at c (place 2 2)
entry_of c s S22 = at s (place 2 2)

abbrev pub of_bodies : Counts → Coefficient → ℤ
of_bodies one C20 = at one.c 0
of_bodies one C21 = at one.c 1
of_bodies one S21 = at one.s 1
of_bodies one C22 = at one.c 2
of_bodies one S22 = at one.s 2

abbrev pub of_lines : Corrections → Coefficient → ℤ
of_lines d C20 = d.c20
of_lines d C21 = d.c21
of_lines d S21 = d.s21
of_lines d C22 = d.c22
of_lines d S22 = d.s22

-- T-06: "The correction is the sum of the two": C20, C21, S21, C22 and S22 from both steps, degree 3 and 4 from step one alone
pub record SolidEntries (c s : List ℤ) (o : Outcome) (one : Counts) (two : Corrections) : Type 0 where
  pub degree_two : (k : Coefficient) → entry_of o.c o.s k ≡ entry_of c s k +ℤ (of_bodies one k +ℤ of_lines two k)
  pub beyond : (j : ℕ) → 3 ≤ j → j < 10
      → (at o.c (get_or places j 0) ≡ at c (get_or places j 0) +ℤ at one.c j) × (at o.s (get_or places j 0) ≡ at s (get_or places j 0) +ℤ at one.s j)
  pub elsewhere : (k : ℕ) → (k < place 2 0) ⊎ (place 4 3 ≤ k) → (at o.c k ≡ at c k) × (at o.s k ≡ at s k)
  pub order_zero : (d : ℕ) → at o.s (place d 0) ≡ at s (place d 0)

-- own lines
pub record FiveEntries (c s : List ℤ) (o : Outcome) (d : Corrections) : Type 0 where
  pub five : (k : Coefficient) → entry_of o.c o.s k ≡ entry_of c s k +ℤ of_lines d k
  pub c_elsewhere : (k : ℕ) → (k < place 2 0) ⊎ (place 3 0 ≤ k) → at o.c k ≡ at c k
  pub s_elsewhere : (k : ℕ) → (k < place 2 1) ⊎ (place 3 0 ≤ k) → at o.s k ≡ at s k

-- T-05: "Nothing but the two entries moves"
pub record PoleEntries (n : ℕ) (c s : List ℤ) (xp yp : ℤ) (love : LoveModel) : Type 0 where
  pub c21 : at (pole_tide n c s xp yp love).c (place 2 1) ≡ at c (place 2 1) +ℤ (pole_corrections xp yp love).c21
  pub s21 : at (pole_tide n c s xp yp love).s (place 2 1) ≡ at s (place 2 1) +ℤ (pole_corrections xp yp love).s21
  pub c_elsewhere : (k : ℕ) → (k ≡ place 2 1 → ⊥) → at (pole_tide n c s xp yp love).c k ≡ at c k
  pub s_elsewhere : (k : ℕ) → (k ≡ place 2 1 → ⊥) → at (pole_tide n c s xp yp love).s k ≡ at s k
  pub order_zero : (d : ℕ) → at (pole_tide n c s xp yp love).s (place d 0) ≡ at s (place d 0)

pub record OceanEntries (n : ℕ) (c s : List ℤ) (sheet : List ℕ) (phases : Phases) (frame : Frame) : Type 0 where
  pub c_here : (j : ℕ) → j < place_count sheet → at (ocean_tide n c s sheet phases frame).c (index_of sheet j) ≡ at c (index_of sheet j) +ℤ d_c sheet phases frame j
  pub s_here : (j : ℕ) → j < place_count sheet → at (ocean_tide n c s sheet phases frame).s (index_of sheet j) ≡ at s (index_of sheet j) +ℤ d_s sheet phases frame j
  pub c_elsewhere : (k : ℕ) → ((j : ℕ) → j < place_count sheet → k ≡ index_of sheet j → ⊥) → at (ocean_tide n c s sheet phases frame).c k ≡ at c k
  pub s_elsewhere : (k : ℕ) → ((j : ℕ) → j < place_count sheet → k ≡ index_of sheet j → ⊥) → at (ocean_tide n c s sheet phases frame).s k ≡ at s k
  pub order_zero : (d : ℕ) → d ≤ n → at (ocean_tide n c s sheet phases frame).s (place d 0) ≡ at s (place d 0)

pub record Second : Type 0 where
  -- T-08: "The second and third demands are then about records reached in this way", after any calls from the start
  pub solid-tide : (n : ℕ) (c s : List ℤ) (moon sun : Body) (love : LoveModel) (calls : List HourCall) (selection : ℕ) → solid_tide_refusal n c s moon sun love selection ≡ 0
      → SolidEntries c s (solid_tide n c s moon sun love (reached calls) selection) (counts_of (body_corrections moon sun love)) (line_corrections (reached calls).phases love selection)
  -- T-08: "for any other record the result is the same sum over the values it holds"
  pub any_hour : (n : ℕ) (c s : List ℤ) (moon sun : Body) (love : LoveModel) (hour : Hour) (selection : ℕ) → solid_tide_refusal n c s moon sun love selection ≡ 0
      → SolidEntries c s (solid_tide n c s moon sun love hour selection) (counts_of (body_corrections moon sun love)) (kept_corrections hour love selection)
  pub own-lines : (n : ℕ) (c s : List ℤ) (lines : List OwnLine) (phases : Phases) → own_lines_refusal n c s lines ≡ 0
      → FiveEntries c s (own_lines n c s lines phases) (own_corrections phases lines)
  pub pole-tide : (n : ℕ) (c s : List ℤ) (xp yp : ℤ) (love : LoveModel) → pole_tide_refusal n c s xp yp ≡ 0 → PoleEntries n c s xp yp love
  pub ocean-tide : (n : ℕ) (c s : List ℤ) (sheet : List ℕ) (phases : Phases) (frame : Frame) → ocean_refusal n c s sheet ≡ 0 → OceanEntries n c s sheet phases frame
  -- "Doodson numbers turn into multipliers and back without loss"
  pub doodson_back : (number : ℕ) (n : Multipliers) → read_doodson number ≡ accepted n → write_doodson n ≡ accepted number
  pub multipliers_back : (n : Multipliers) (number : ℕ) → write_doodson n ≡ accepted number → read_doodson number ≡ accepted n
  -- "a C20 moved to another permanent-tide system and back under the same Love numbers, neither move being refused, returns to the same number"
  pub c20_back : (c20 d e : ℤ) (from to : PermanentSystem) (love : LoveModel) → moved_c20 c20 from to love ≡ accepted d → moved_c20 d to from love ≡ accepted e → e ≡ c20

-- "For any six phases, and any sheet and field that are accepted, each ocean correction is at most nine counts from the exact sum, and each second-step solid
-- correction less than one count", of what each entry gained
abbrev pub gain_of : List ℤ → List ℤ → Outcome → Coefficient → ℤ
gain_of c s o k = entry_of o.c o.s k -ℤ entry_of c s k

pub record OceanClose (n : ℕ) (c s : List ℤ) (sheet : List ℕ) (phases : Phases) (frame : Frame) : Type 0 where
  pub in_c : (j : ℕ) → j < place_count sheet → AtMostNineCounts (gained c (ocean_tide n c s sheet phases frame).c (index_of sheet j)) (ocean_sum sheet phases frame c_cos c_sin j)
  pub in-s : (j : ℕ) → j < place_count sheet → AtMostNineCounts (gained s (ocean_tide n c s sheet phases frame).s (index_of sheet j)) (ocean_sum sheet phases frame s_cos s_sin j)

pub record PoleClose (n : ℕ) (c s : List ℤ) (xp yp : ℤ) (love : LoveModel) : Type 0 where
  pub c21 : WithinHalfACount (gained c (pole_tide n c s xp yp love).c (place 2 1)) (exact_c21 love xp yp)
  pub s21 : WithinHalfACount (gained s (pole_tide n c s xp yp love).s (place 2 1)) (exact_s21 love xp yp)

pub record Third : Type 0 where
  -- T-06: "the third demand then reads the part of the sum that step two gives": what an entry gained, less step one's correction.
  -- T-04: "The less-than-one-count bound is to hold for every selection", from the exact sum of the lines named
  pub solid-tide : (n : ℕ) (c s : List ℤ) (moon sun : Body) (love : LoveModel) (calls : List HourCall) (selection : ℕ) → solid_tide_refusal n c s moon sun love selection ≡ 0 → (k : Coefficient)
      → LessThanOneCount (gain_of c s (solid_tide n c s moon sun love (reached calls) selection) k -ℤ of_bodies (counts_of (body_corrections moon sun love)) k) (line_sum (reached calls).phases love selection k)
  -- T-01: "Each resulting correction must lie within three counts of its exact sum"
  pub own-lines : (n : ℕ) (c s : List ℤ) (lines : List OwnLine) (phases : Phases) → own_lines_refusal n c s lines ≡ 0 → (k : Coefficient)
      → WithinThreeCounts (gain_of c s (own_lines n c s lines phases) k) (own_sum phases lines k)
  -- T-05: "One rounding each", of the exact fraction
  pub pole-tide : (n : ℕ) (c s : List ℤ) (xp yp : ℤ) (love : LoveModel) → pole_tide_refusal n c s xp yp ≡ 0 → PoleClose n c s xp yp love
  pub ocean-tide : (n : ℕ) (c s : List ℤ) (sheet : List ℕ) (phases : Phases) (frame : Frame) → ocean_refusal n c s sheet ≡ 0 → OceanClose n c s sheet phases frame

pub record Demands : Type 0 where
  pub first : First
  pub second : Second
  pub third : Third
