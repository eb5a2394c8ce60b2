-- The shape is tested before a word is read, the values after it, and twins among lines in range alone.
use mathlib.Core.Bool.{true, false}
use mathlib.Core.Path.{◌≡◌, refl, sym, ◌∙◌}
use Rattle.std.proofs.lemmas.Result.{err_from_is_err_and}
use Rattle.sheet.specs.Accepted.{shaped, valid, own_refusal}
use Rattle.sheet.proofs.Acceptance.{shape, valid_lines}
use Rattle.accept.proofs.tested_alone.Goals as goal

pub returns-in_err-sheet : goal.returns-in_err-sheet
unfolding own_refusal
returns-in_err-sheet c =
    let p = err_from_is_err_and c.from_residual.result c.from_residual.ensures.1 in
    let e = c.in_err-sheet.ensures in
    rw (p.1, p.2, e.1, e.0) refl

pub returns-then-not-is_valid : goal.returns-then-not-is_valid
unfolding own_refusal
returns-then-not-is_valid c =
    let e = c.in_ok-sheet.ensures in
    let v : valid c.args.bytes.now ≡ false = rw e.0 at (sym c.is_valid.ensures ∙ c.if-not-is_valid.true) in
    rw (e.1, v) refl

pub are_untwinned-requires : goal.are_untwinned-requires
are_untwinned-requires c =
    let e = c.in_ok-sheet.ensures in
    let h : shaped c.in_ok-sheet.sheet.bytes.now ≡ true = rw e.0 e.1 in
    ((shape _ h).lines-most, valid_lines _ (sym c.is_valid.ensures ∙ c.if-not-is_valid.false))
