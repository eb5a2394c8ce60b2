-- Each turn joins the bits of one more word.
use Rattle.std.proofs.Common.{arith, refl}
use Rattle.sheet_places.proofs.Joining.{joined_more}
use Rattle.sheet_places.proofs.joined.Goals as goal

pub loop-i-preserved : goal.loop-i-preserved
loop-i-preserved c =
    let l = c.loop-i in
    let v = c.word_at in
    joined_more c.args.bytes.now c.args.at l.i v.result l.invariant v.ensures (omega arith) refl
