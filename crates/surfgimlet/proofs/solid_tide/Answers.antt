-- The field, the selection and the bodies are tested; where all pass, the counts of both steps are added at the ten places.
use Rattle.std.proofs.Common.{rules, ◌≡◌, ℕ, List, ℤ, length, refl, ap, ◌∙◌}
use Rattle.std.proofs.lemmas.Result.{err_from_is_err_and}
use Rattle.bands.specs.declared.Corrections.{Corrections as LineCorrections}
use Rattle.bands.specs.Inner.{Small as SmallCorrections}
use Rattle.bodies.specs.declared.Body.{Body}
use Rattle.choices.specs.declared.LoveModel.{LoveModel}
use Rattle.field.specs.Inner.{Ready}
use Rattle.field.proofs.Accepted.{Accepted, accepted_field}
use Rattle.hour.specs.declared.Hour.{Hour}
use Rattle.refusals.specs.Told.Told.{accepted}
use Rattle.refusals.proofs.Numbers.{refusal_not_zero}
use Rattle.refusals.proofs.Outcomes.{tells_value, tells_refusal, with_value}
use Rattle.selection.specs.Selection.{lines_named}
use Rattle.solid.specs.Inner.{Room}
use Rattle.solid.specs.Solid.{with_lines, solid_counts}
use Rattle.solid.proofs.Sizes.{with_lines_c, with_lines_s}
use Rattle.step_one.specs.declared.Corrections.{Corrections}
use Rattle.step_one.proofs.Counted.{accepted_small}
use Rattle.step_two.specs.StepTwo.{kept_corrections}
use Rattle.surfgimlet.proofs.Solid.{ready, run_is, Passed, refused_early, refused_late, all_pass, number_is, counts_are, gives_both, keeps_both}
use Rattle.surfgimlet.proofs.solid_tide.Goals as goal
use Rattle.surfgimlet.proofs.solid_tide.Goals.{After-corrections_of-two}

-- where nothing is refused
module _ (n : ℕ) (c s : List ℤ) (moon sun : Body) (love : LoveModel) (selection : ℕ) (one : Corrections)
    (P : Passed n c s moon sun love selection one) (two : LineCorrections) (small : SmallCorrections two) where
  good : Accepted n c s
  good = accepted_field _ _ _ P.field

  room : Room one two
  room = let k = accepted_small _ _ _ one P.bodies in record { in_c = k.in_c; in-s = k.in-s; lines = small }

  -- and both steps as one
  module _ (d : Corrections) (sum : d ≡ with_lines one two) where
    both : (hour : Hour) → two ≡ kept_corrections hour love selection → d ≡ solid_counts moon sun love (kept_corrections hour love selection)
    both hour same = sum ∙ counts_are _ _ _ one P.bodies _ two same

    ready-c : length d.c ≡ 10 → Ready c 3 d.c
    ready-c ten = ready _ _ _ good.least good.c_size good.c_range ten (rw (ap (λ (k : Corrections). k.c) sum) (with_lines_c _ _ room))

    ready-s : length d.s ≡ 10 → Ready s 3 d.s
    ready-s ten = ready _ _ _ good.least good.s_size good.s_range ten (rw (ap (λ (k : Corrections). k.s) sum) (with_lines_s _ _ room))

-- once both steps' corrections are known
passed : (c : After-corrections_of-two) → let a = c.args in Passed a.n a.c.now a.s.now a.moon a.sun a.love a.selection c.in_ok-one.one
passed c = all_pass _ _ _ _ _ _ _ _ _ c.tested.ensures c.tested-2.ensures c.in_ok-and.field-0 c.in_ok-and.ensures c.in_ok-one.one c.in_ok-one.ensures

pub returns-in_err-and : goal.returns-in_err-and
returns-in_err-and c =
    let p = err_from_is_err_and c.from_residual.result c.from_residual.ensures.1 in
    let e = refused_early _ _ _ c.args.moon c.args.sun c.args.love _ _ _ c.tested.ensures c.tested-2.ensures c.in_err-and.field-0.0 c.in_err-and.ensures in
    rw (p.1, p.2) (with_value _ (keeps_both _ _ _ _ _ _ _ c.args.hour c.in_err-and.field-0.0 e) (tells_refusal _ _ (refusal_not_zero c.in_err-and.field-0.0)))

pub returns-in_err-one : goal.returns-in_err-one
returns-in_err-one c =
    let p = err_from_is_err_and c.from_residual-in_err-one.result c.from_residual-in_err-one.ensures.1 in
    let e = refused_late _ _ _ _ _ _ _ _ _ c.tested.ensures c.tested-2.ensures c.in_ok-and.field-0 c.in_ok-and.ensures c.in_err-one.field-0.0 c.in_err-one.ensures in
    rw (p.1, p.2) (with_value _ (keeps_both _ _ _ _ _ _ _ c.args.hour c.in_err-one.field-0.0 e) (tells_refusal _ _ (refusal_not_zero c.in_err-one.field-0.0)))

pub with_lines-both-requires : goal.with_lines-both-requires
with_lines-both-requires c = room _ _ _ _ _ _ _ _ (passed (goal.at.with_lines-both-requires c).After-corrections_of-two) _ c.corrections_of-two.ensures.1

pub add_run-requires : goal.add_run-requires
add_run-requires c =
    ready-c _ _ _ _ _ _ _ _ (passed (goal.at.add_run-requires c).After-corrections_of-two) _ c.corrections_of-two.ensures.1 c.with_lines-both.result c.with_lines-both.ensures (search rules)

pub add_run-requires-2 : goal.add_run-requires-2
add_run-requires-2 c =
    ready-s _ _ _ _ _ _ _ _ (passed (goal.at.add_run-requires-2 c).After-corrections_of-two) _ c.corrections_of-two.ensures.1 c.with_lines-both.result c.with_lines-both.ensures (search rules)

pub returns : goal.returns
returns c =
    let P = passed (goal.at.returns c).After-corrections_of-two in
    let d = c.with_lines-both.result in
    let ten-c : length d.c ≡ 10 = search rules in
    let ten-s : length d.s ≡ 10 = search rules in
    with_value (lines_named c.args.selection)
    (gives_both _ _ _ _ _ _ _ c.args.hour d
    (both _ _ _ _ _ _ _ _ P _ c.corrections_of-two.ensures.1 d c.with_lines-both.ensures c.args.hour c.corrections_of-two.ensures.0)
    (number_is _ _ _ _ _ _ _ _ P)
    (c.add_run.ensures ∙ run_is d.c c.args.c.now ten-c)
    (c.add_run-2.ensures ∙ run_is d.s c.args.s.now ten-s))
    (ap accepted c.lines_named.ensures ∙ tells_value (lines_named c.args.selection) 0 refl)
