-- The field and then the offsets are tested; a field that passes has C21 and S21 in range, and offsets that pass give corrections with room.
use Rattle.std.proofs.Common.{◌≡◌, ◌≤◌, ◌<◌, ℤ, nat_abs, length, w64, to_z-of_z, sym, ap, ap₂, ◌∙◌, arith}
use Rattle.std.proofs.lemmas.Result.{err_from_is_err_and}
use Rattle.field.specs.Added.{corrected}
use Rattle.field.specs.Field.{field_refusal, place}
use Rattle.field.proofs.Accepted.{Accepted, accepted_field, degree_two}
use Rattle.field.proofs.Entries.{entry_in_range}
use Rattle.pole.specs.Pole.{offsets_refusal, corrections}
use Rattle.pole.proofs.Laws.{at_most}
use Rattle.refusals.specs.Numbers.{answer_number, tells}
use Rattle.refusals.specs.Outcome.{first_of}
use Rattle.refusals.specs.Told.{told_number}
use Rattle.refusals.proofs.Outcomes.{gives_new, gives_refused, first_passed, and_first, and_ok, answer_told}
use Rattle.std.specs.Prelude.{Result}
use Rattle.refusals.specs.declared.Refusal.{Refusal}
use Rattle.whole.proofs.Machine.{read}
use Rattle.whole.proofs.Parts.{fits_abs}
use Rattle.surfgimlet.specs.Calls.{pole_tide_refusal, pole_tide}
use Rattle.surfgimlet.proofs.pole_tide.Goals as goal
use Rattle.surfgimlet.proofs.pole_tide.Goals.{After-corrections_of-d}

-- where both tests passed
module _ (c : After-corrections_of-d) where
  both : (answer_number c.tested.result ≡ 0) × (answer_number c.tested-2.result ≡ 0)
  both = let p = and_ok _ _ _ (sym c.in_ok-and.ensures) in (p.0, ap answer_number p.1)

  field_passed : field_refusal c.args.n c.args.c.now c.args.s.now ≡ 0
  field_passed = sym c.tested.ensures ∙ both.0

  given : offsets_refusal c.args.xp c.args.yp ≡ 0
  given = sym (ap₂ offsets_refusal (to_z-of_z c.ranges.xp) (to_z-of_z c.ranges.yp)) ∙ sym c.tested-2.ensures ∙ both.1

  number_is : pole_tide_refusal c.args.n c.args.c.now c.args.s.now c.args.xp c.args.yp ≡ 0
  unfolding pole_tide_refusal
  number_is = first_passed _ _ field_passed ∙ given

  field : Accepted c.args.n c.args.c.now c.args.s.now
  field = accepted_field _ _ _ field_passed

  c-room : 5 < length c.args.c.now
  c-room = degree_two _ c.args.c.now field.least field.c_size

  s-room : 5 < length c.args.s.now
  s-room = degree_two _ c.args.s.now field.least field.s_size

  same : c.corrections_of-d.result ≡ corrections c.args.xp c.args.yp c.args.love
  same = c.corrections_of-d.ensures ∙ ap₂ (λ (xp yp : ℤ). corrections xp yp c.args.love) (to_z-of_z c.ranges.xp) (to_z-of_z c.ranges.yp)

  -- the corrections as the machine reads them
  most : (nat_abs (corrections c.args.xp c.args.yp c.args.love).c21 ≤ 1363098) × (nat_abs (corrections c.args.xp c.args.yp c.args.love).s21 ≤ 1363098)
  most = at_most c.args.xp c.args.yp given c.args.love

  read-c21 : read c.corrections_of-d.result.c21 ≡ (corrections c.args.xp c.args.yp c.args.love).c21
  read-c21 = rw same (to_z-of_z (fits_abs w64 (corrections c.args.xp c.args.yp c.args.love).c21 (omega (arith, most.0))))

  read-s21 : read c.corrections_of-d.result.s21 ≡ (corrections c.args.xp c.args.yp c.args.love).s21
  read-s21 = rw same (to_z-of_z (fits_abs w64 (corrections c.args.xp c.args.yp c.args.love).s21 (omega (arith, most.1))))

pub returns-in_err-and : goal.returns-in_err-and
unfolding pole_tide pole_tide_refusal
returns-in_err-and c =
    let p = err_from_is_err_and c.from_residual.result c.from_residual.ensures.1 in
    rw (p.1, p.2)
    (gives_refused c.in_err-and.field-0.0 _ _ _ _
    (ap (λ (x : Result Unit Refusal). told_number (tells x)) c.in_err-and.ensures
    ∙ and_first c.tested.result c.tested-2.result
    ∙ ap₂ first_of c.tested.ensures (answer_told c.tested-2.result ∙ c.tested-2.ensures ∙ ap₂ offsets_refusal (to_z-of_z c.ranges.xp) (to_z-of_z c.ranges.yp))))

pub correct-requires-clause-at_in_bounds : goal.correct-requires-clause-at_in_bounds
correct-requires-clause-at_in_bounds c = omega (arith, c-room (goal.at.correct-requires-clause-at_in_bounds c).After-corrections_of-d)

pub correct-requires-clause-pos_bound : goal.correct-requires-clause-pos_bound
correct-requires-clause-pos_bound c = entry_in_range c.args.c.now (field (goal.at.correct-requires-clause-pos_bound c).After-corrections_of-d).c_range 4

pub correct-requires-clause-by_bound : goal.correct-requires-clause-by_bound
correct-requires-clause-by_bound c =
    let d = (goal.at.correct-requires-clause-by_bound c).After-corrections_of-d in rw (read-c21 d) (omega (arith, (most d).0))

pub correct-requires-2-clause-at_in_bounds : goal.correct-requires-2-clause-at_in_bounds
correct-requires-2-clause-at_in_bounds c = omega (arith, s-room (goal.at.correct-requires-2-clause-at_in_bounds c).After-corrections_of-d)

pub correct-requires-2-clause-pos_bound : goal.correct-requires-2-clause-pos_bound
correct-requires-2-clause-pos_bound c = entry_in_range c.args.s.now (field (goal.at.correct-requires-2-clause-pos_bound c).After-corrections_of-d).s_range 4

pub correct-requires-2-clause-by_bound : goal.correct-requires-2-clause-by_bound
correct-requires-2-clause-by_bound c =
    let d = (goal.at.correct-requires-2-clause-by_bound c).After-corrections_of-d in rw (read-s21 d) (omega (arith, (most d).1))

pub returns : goal.returns
unfolding pole_tide place
returns c =
    let d = (goal.at.returns c).After-corrections_of-d in
    gives_new _ _ _ _ (sym (number_is d)) (number_is d)
    (c.correct.ensures ∙ ap (λ (by : ℤ). corrected c.args.c.now 4 by) (read-c21 d))
    (c.correct-2.ensures ∙ ap (λ (by : ℤ). corrected c.args.s.now 4 by) (read-s21 d))
