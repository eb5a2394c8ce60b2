-- The field and then the sheet are tested; where both pass, both lists have every place, and the tide is added.
use Rattle.std.proofs.Common.{ℕ, List, sym, subst}
use Rattle.std.proofs.lemmas.Result.{err_from_is_err_and}
use Rattle.ocean.specs.Inner.{TideAdded}
use Rattle.refusals.proofs.Outcomes.{gives_new, gives_refused}
use Rattle.surfgimlet.specs.Calls.{ocean_tide}
use Rattle.surfgimlet.proofs.OceanTide.{passing, refused_ocean, ocean_sheet, ocean_number}
use Rattle.surfgimlet.proofs.ocean_tide.Goals as goal

pub returns-in_err-sheet : goal.returns-in_err-sheet
unfolding ocean_tide
returns-in_err-sheet c =
    let p = err_from_is_err_and c.from_residual.result c.from_residual.ensures.1 in
    rw (p.1, p.2) (gives_refused c.in_err-sheet.field-0.0 _ _ _ _ (refused_ocean _ _ _ _ _ _ _ c.tested.ensures c.tested-2.ensures c.in_err-sheet.field-0.0 c.in_err-sheet.ensures))

pub add_tide-requires : goal.add_tide-requires
add_tide-requires c =
    let same = ocean_sheet _ _ _ _ _ _ _ c.tested.ensures c.tested-2.ensures c.in_ok-sheet.sheet c.in_ok-sheet.ensures in
    rw same (passing _ _ _ _ (ocean_number _ _ _ _ _ _ _ c.tested.ensures c.tested-2.ensures c.in_ok-sheet.sheet c.in_ok-sheet.ensures)).1

pub returns : goal.returns
unfolding ocean_tide
returns c =
    let same = ocean_sheet _ _ _ _ _ _ _ c.tested.ensures c.tested-2.ensures c.in_ok-sheet.sheet c.in_ok-sheet.ensures in
    let zero = ocean_number _ _ _ _ _ _ _ c.tested.ensures c.tested-2.ensures c.in_ok-sheet.sheet c.in_ok-sheet.ensures in
    let t = subst (λ (sheet : List ℕ). TideAdded sheet c.args.phases c.args.frame c.args.c.now c.args.s.now c.add_tide.new.c c.add_tide.new.s) same c.add_tide.ensures in
    gives_new _ _ _ _ (sym zero) zero t.list_c t.list_s
