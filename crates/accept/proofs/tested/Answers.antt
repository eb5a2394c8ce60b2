-- A sheet that passes by itself is asked for its degrees; any other keeps its refusal.
use mathlib.Core.Bool.{true, false}
use mathlib.Core.Path.{◌≡◌, refl, sym, ◌∙◌}
use Rattle.std.proofs.lemmas.Result.{err_from_is_err_and}
use Rattle.refusals.proofs.Numbers.{refusal_not_zero}
use Rattle.refusals.proofs.Outcomes.{first_passed, first_kept}
use Rattle.sheet.specs.Accepted.{reached, sheet_refusal}
use Rattle.accept.proofs.tested.Goals as goal

pub returns-in_err-accepted : goal.returns-in_err-accepted
unfolding sheet_refusal
returns-in_err-accepted c =
    let p = err_from_is_err_and c.from_residual.result c.from_residual.ensures.1 in
    let e = c.in_err-accepted.ensures in
    rw (p.1, p.2) (first_kept _ _ (λ z. refusal_not_zero _ (sym e ∙ z)) ∙ e)

pub returns-then-not-is_reached : goal.returns-then-not-is_reached
unfolding sheet_refusal
returns-then-not-is_reached c =
    let e = c.in_ok-accepted.ensures in
    let r : reached c.args.bytes.now c.args.n ≡ false = rw e.0 at (sym c.is_reached.ensures ∙ c.if-not-is_reached.true) in
    first_passed _ _ e.1 ∙ rw r refl

pub returns : goal.returns
unfolding sheet_refusal
returns c =
    let e = c.in_ok-accepted.ensures in
    let r : reached c.args.bytes.now c.args.n ≡ true = rw e.0 at (sym c.is_reached.ensures ∙ c.if-not-is_reached.false) in
    (e.0, first_passed _ _ e.1 ∙ rw r refl)
