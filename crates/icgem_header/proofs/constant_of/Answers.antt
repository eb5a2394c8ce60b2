-- The decimal fits, and is not below zero.
use mathlib.Core.Path.{ap, ◌∙◌}
use mathlib.Core.Bool.{not}
use Rattle.std.proofs.lemmas.Result.{MatchResult-from_err}
use Rattle.icgem_header.proofs.Constants.{no_decimal, too_large, fits, size_is}
use Rattle.icgem_header.proofs.constant_of.Goals as goal

pub returns-in_err-negative : goal.returns-in_err-negative
returns-in_err-negative c =
    MatchResult-from_err _ _ _ c.from_residual.ensures.0 (λ _. no_decimal c.args.places c.args.word.now (rw c.in_err-negative.ensures.ok_part at c.in_units.ensures))

pub returns-in_err-size : goal.returns-in_err-size
returns-in_err-size c =
    let taken = rw c.in_ok-negative.ensures.ok_part at c.in_units.ensures in
    MatchResult-from_err _ _ _ c.from_residual-in_err-size.ensures.0
    (λ _. too_large c.args.places c.args.word.now (rw c.in_err-size.ensures.ok_part at taken.1.0))

pub returns-then-below_zero : goal.returns-then-below_zero
returns-then-below_zero c =
    let taken = rw c.in_ok-negative.ensures.ok_part at c.in_units.ensures in
    let held = rw c.in_ok-size.ensures.ok_part at taken.1.0 in
    fits c.args.places c.args.word.now _ _ (taken.1.1 c.in_ok-size.size c.in_ok-size.ensures.ok_part) taken.0 held.0 ∙ ap not c.if-below_zero.true

pub returns-else-below_zero : goal.returns-else-below_zero
returns-else-below_zero c =
    let taken = rw c.in_ok-negative.ensures.ok_part at c.in_units.ensures in
    let held = rw c.in_ok-size.ensures.ok_part at taken.1.0 in
    let z = taken.1.1 c.in_ok-size.size c.in_ok-size.ensures.ok_part in
    (fits c.args.places c.args.word.now _ _ z taken.0 held.0 ∙ ap not c.if-below_zero.false, size_is c.args.places c.args.word.now _ _ z)
