-- The solid tide's outcome by its number: the counts of both steps are added, or both lists are kept.
use mathlib.Core.Path.{◌≡◌, sym, ap, ap₂, ◌∙◌}
use mathlib.Core.List.{List}
use mathlib.Core.Bool.{true}
use Prim.Native.Nat.{ℕ, ◌≤◌}
use native.Mathlib.Omega.{arith}
use lib.IntN.{ℤ}
use lib.ListN.{length}
use Rattle.bands.specs.declared.Corrections.{Corrections as LineCorrections}
use Rattle.bodies.specs.declared.Body.{Body}
use Rattle.choices.specs.declared.LoveModel.{LoveModel}
use Rattle.field.specs.Added.{added_at}
use Rattle.field.specs.Field.{size, place, every_in_range, field_refusal}
use Rattle.field.specs.Inner.{Ready, added_from}
use Rattle.field.proofs.Accepted.{place_below}
use Rattle.field.proofs.Added.{at_run}
use Rattle.hour.specs.declared.Hour.{Hour}
use Rattle.std.specs.Prelude.{Result, Ok, Err}
use Rattle.std.specs.Result.{result_and}
use Rattle.refusals.specs.declared.Refusal.{Refusal}
use Rattle.refusals.specs.Numbers.{refusal_number, answer_number, tells}
use Rattle.refusals.specs.Outcome.{Gives, first_of}
use Rattle.refusals.specs.Told.{Told, told_number}
use Rattle.refusals.specs.Told.Told.{accepted, refused}
use Rattle.refusals.proofs.Outcomes.{gives_new, gives_refused, first_passed, and_first, and_ok, answer_told, first_of_three, refused_first}
use Rattle.selection.specs.Selection.{selection_refusal}
use Rattle.solid.specs.Solid.{with_lines, counts_of, solid_counts}
use Rattle.step_one.specs.Inner.{Small}
use Rattle.step_one.specs.StepOne.{Counts, places, corrections as body_corrections}
use Rattle.step_one.proofs.Places.{place_at}
use Rattle.step_two.specs.StepTwo.{kept_corrections}
use Rattle.surfgimlet.specs.Calls.{solid_tide_refusal, solid_by, solid_tide}

-- a list of an accepted field, and ten counts to correct it by
pub ready : (n : ℕ) (l by : List ℤ) → 4 ≤ n → length l ≡ size n → every_in_range l ≡ true → length by ≡ 10 → Small 54 by → Ready l 3 by
unfolding place
ready n l by h e r ten small =
    record { room = omega (arith, place_below n 4 2 h (omega arith)); range = r; small = record { each = λ k. omega (arith, small.size k) } }

-- the places follow one another, so that a run adds at each
pub run_is : (by l : List ℤ) → length by ≡ 10 → added_from 3 by l ≡ added_at places by l
unfolding places
run_is by l ten = at_run places by l 3 place_at ten

-- nothing is refused: the field, the selection and the bodies pass, and their counts are known
pub record Passed (n : ℕ) (c s : List ℤ) (moon sun : Body) (love : LoveModel) (selection : ℕ) (k : Counts) : Type 0 where
  pub field : field_refusal n c s ≡ 0
  pub chosen : selection_refusal selection ≡ 0
  pub bodies : body_corrections moon sun love ≡ accepted k

-- both steps' counts
pub counts_are : (moon sun : Body) (love : LoveModel) (k : Counts) → body_corrections moon sun love ≡ accepted k
    → (two d : LineCorrections) → d ≡ two → with_lines k d ≡ solid_counts moon sun love two
unfolding solid_counts
counts_are moon sun love k seen two d same = ap₂ (λ (t : Told Counts) (d : LineCorrections). with_lines (counts_of t) d) (sym seen) same

module _ (n : ℕ) (c s : List ℤ) (moon sun : Body) (love : LoveModel) (selection : ℕ) where
  -- where the field's test is t, the selection's r and the bodies' corrections b
  module _ (t r : Result Unit Refusal) (field : answer_number t ≡ field_refusal n c s) (chosen : answer_number r ≡ selection_refusal selection) where
    pub refused_early : (why : Refusal) → Err why ≡ result_and t r → refusal_number why ≡ solid_tide_refusal n c s moon sun love selection
    unfolding solid_tide_refusal
    refused_early why e =
        refused_first why _ (told_number (body_corrections moon sun love)) (ap (λ (x : Result Unit Refusal). told_number (tells x)) e ∙ and_first t r ∙ ap₂ first_of field (answer_told r ∙ chosen))
        ∙ first_of_three (field_refusal n c s) (selection_refusal selection) (told_number (body_corrections moon sun love))

    module _ (done : Unit) (both : Ok done ≡ result_and t r) where
      field_passed : field_refusal n c s ≡ 0
      field_passed = sym field ∙ (and_ok t r done (sym both)).0

      chosen_passed : selection_refusal selection ≡ 0
      chosen_passed = sym chosen ∙ ap answer_number (and_ok t r done (sym both)).1

      pub refused_late : (why : Refusal) → refused (refusal_number why) ≡ body_corrections moon sun love → refusal_number why ≡ solid_tide_refusal n c s moon sun love selection
      unfolding solid_tide_refusal
      refused_late why e =
          ap told_number e ∙ sym (first_passed (field_refusal n c s) (first_of (selection_refusal selection) _) field_passed ∙ first_passed (selection_refusal selection) _ chosen_passed)

      pub all_pass : (k : Counts) → accepted k ≡ body_corrections moon sun love → Passed n c s moon sun love selection k
      all_pass k e = record { field = field_passed; chosen = chosen_passed; bodies = sym e }

  pub number_is : (k : Counts) → Passed n c s moon sun love selection k → 0 ≡ solid_tide_refusal n c s moon sun love selection
  unfolding solid_tide_refusal
  number_is k p = sym (first_passed (field_refusal n c s) _ p.field ∙ first_passed (selection_refusal selection) _ p.chosen ∙ ap told_number p.bodies)

  module _ (hour : Hour) where
    pub gives_both : (k : Counts) → k ≡ solid_counts moon sun love (kept_corrections hour love selection) → 0 ≡ solid_tide_refusal n c s moon sun love selection
        → {c' s' : List ℤ} → c' ≡ added_at places k.c c → s' ≡ added_at places k.s s → Gives (solid_tide n c s moon sun love hour selection) 0 c' s'
    unfolding solid_tide solid_by
    gives_both k same z p q =
        gives_new _ _ _ _ z (sym z) (p ∙ ap (λ (k : Counts). added_at places k.c c) same) (q ∙ ap (λ (k : Counts). added_at places k.s s) same)

    pub keeps_both : (why : Refusal) → refusal_number why ≡ solid_tide_refusal n c s moon sun love selection → Gives (solid_tide n c s moon sun love hour selection) (refusal_number why) c s
    unfolding solid_tide solid_by
    keeps_both why e = gives_refused why _ _ _ _ e
