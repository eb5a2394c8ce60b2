-- The field and then the records are tested; the records' sums are added where both pass.
use Rattle.std.proofs.Common.{sym, ◌∙◌}
use Rattle.std.proofs.lemmas.Result.{err_from_is_err_and}
use Rattle.bands.proofs.Sizes.{rounded_small}
use Rattle.refusals.proofs.Outcomes.{gives_refused}
use Rattle.surfgimlet.specs.Calls.{five_corrected, own_lines}
use Rattle.surfgimlet.proofs.Five.{five_ready, gives_five}
use Rattle.surfgimlet.proofs.OwnLines.{refused_own, field_passed, own_number, own_same, own_bounded}
use Rattle.surfgimlet.proofs.own_lines.Goals as goal

pub returns-in_err-sums : goal.returns-in_err-sums
unfolding own_lines five_corrected
returns-in_err-sums c =
    let p = err_from_is_err_and c.from_residual.result c.from_residual.ensures.1 in
    rw (p.1, p.2) (gives_refused c.in_err-sums.field-0.0 _ _ _ _ (refused_own _ _ _ _ _ _ _ c.tested.ensures c.sums_of.ensures c.in_err-sums.field-0.0 c.in_err-sums.ensures))

pub rounded_of-requires : goal.rounded_of-requires
rounded_of-requires c = own_bounded _ _ _ _ _ _ _ c.tested.ensures c.sums_of.ensures c.in_ok-sums.sums c.in_ok-sums.ensures

pub add_five-requires : goal.add_five-requires
add_five-requires c =
    let bounded = own_bounded _ _ _ _ _ _ _ c.tested.ensures c.sums_of.ensures c.in_ok-sums.sums c.in_ok-sums.ensures in
    five_ready _ _ _ _ (field_passed _ _ _ _ _ _ _ c.tested.ensures c.sums_of.ensures c.in_ok-sums.sums c.in_ok-sums.ensures)
    (rw c.rounded_of.ensures (rounded_small c.in_ok-sums.sums bounded))

pub returns : goal.returns
unfolding own_lines
returns c =
    let number = own_number _ _ _ _ _ _ _ c.tested.ensures c.sums_of.ensures c.in_ok-sums.sums c.in_ok-sums.ensures in
    let same = own_same _ _ _ _ _ _ _ c.tested.ensures c.sums_of.ensures c.in_ok-sums.sums c.in_ok-sums.ensures in
    gives_five _ _ number (sym number) (c.rounded_of.ensures ∙ same) c.add_five.ensures
