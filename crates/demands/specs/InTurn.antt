-- The calls as they were: step one's, and step two's, which an operator made on the field that the first left; and the solid tide from bare phases.
use Rattle.std.specs.Prelude.{List, ℕ, ℤ}
use Rattle.arguments.specs.declared.Phases.{Phases}
use Rattle.bodies.specs.declared.Body.{Body}
use Rattle.choices.specs.declared.LoveModel.{LoveModel}
use Rattle.field.specs.Added.{added_at}
use Rattle.field.specs.Field.{field_refusal}
use Rattle.refusals.specs.Outcome.{Outcome, first_of, unless_refused}
use Rattle.refusals.specs.Told.{told_number}
use Rattle.selection.specs.Selection.{selection_refusal}
use Rattle.solid.specs.Solid.{counts_of}
use Rattle.step_one.specs.StepOne.{places, corrections as body_corrections}
use Rattle.step_two.specs.StepTwo.{corrections as line_corrections}
use Rattle.surfgimlet.specs.Calls.{five_corrected, solid_by}

-- refusals 1, 2, then the Moon's 3, 4, 5, the Sun's, and 6
unfoldable pub step_one_call : ℕ → List ℤ → List ℤ → Body → Body → LoveModel → Outcome
step_one_call n c s moon sun love =
    let one = counts_of (body_corrections moon sun love) in
    unless_refused (first_of (field_refusal n c s) (told_number (body_corrections moon sun love))) c s (added_at places one.c c) (added_at places one.s s)

-- refusals 1, 2, then 14
unfoldable pub step_two_call : ℕ → List ℤ → List ℤ → Phases → LoveModel → ℕ → Outcome
step_two_call n c s phases love selection = five_corrected (first_of (field_refusal n c s) (selection_refusal selection)) c s (line_corrections phases love selection)

-- step one and step two as one, the lines' waves worked out from the phases
unfoldable pub solid_tide_at : ℕ → List ℤ → List ℤ → Body → Body → LoveModel → Phases → ℕ → Outcome
solid_tide_at n c s moon sun love phases selection = solid_by n c s moon sun love selection (line_corrections phases love selection)
