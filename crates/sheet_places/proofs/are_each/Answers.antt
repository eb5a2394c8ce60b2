-- One flag takes every word in turn.
use Rattle.std.proofs.Common.{ap, ◌∙◌, w64}
use Rattle.limits.specs.Limits.{is_coefficient}
use Rattle.whole.proofs.Counted.{all_none, all_more}
use Rattle.sheet.proofs.Signs.{told}
use Rattle.sheet_places.specs.Inner.{valid_at}
use Rattle.sheet_places.proofs.are_each.Goals as goal

pub loop-i-init : goal.loop-i-init
loop-i-init c = all_none _

pub loop-i-preserved : goal.loop-i-preserved
unfolding valid_at
loop-i-preserved c =
    let v = c.signed_at in
    all_more (valid_at c.args.bytes.now c.args.at) c.loop-i.i c.loop-i.invariant (c.is_coefficient-good.ensures ∙ ap is_coefficient (told w64 v.type_inv v.ensures.0))
