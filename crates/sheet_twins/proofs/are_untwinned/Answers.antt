-- Each turn compares one more line's key with those after it.
use mathlib.Core.Path.{◌∙◌}
use native.Mathlib.Omega.{arith}
use Rattle.whole.proofs.Counted.{all_none, all_more}
use Rattle.sheet_twins.proofs.Pairs.{neither, compared}
use Rattle.sheet_twins.proofs.are_untwinned.Goals as goal

pub loop-f-init : goal.loop-f-init
loop-f-init c = all_none _

pub loop-f-preserved : goal.loop-f-preserved
loop-f-preserved c = neither c.loop-f.found c.is_among-found.result ∙ all_more _ c.loop-f.f c.loop-f.invariant c.is_among-found.ensures

pub returns : goal.returns
returns c =
    let lines = c.args.sheet.now.laid.lines in
    c.loop-f.invariant ∙ compared c.args.sheet.now.bytes.now _ c.requires.0 c.requires.1 c.keys_of-keys.ensures _ _ lines (omega (arith, lines))
