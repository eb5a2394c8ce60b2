-- One flag takes both S counts of every tide in turn.
use Rattle.whole.proofs.Counted.{all_none, all_more}
use Rattle.sheet.specs.Accepted.{s_zero}
use Rattle.sheet_places.proofs.Zero.{zero_test}
use Rattle.sheet_places.proofs.are_s_zero.Goals as goal

pub loop-k-init : goal.loop-k-init
loop-k-init c = all_none _

pub loop-k-preserved : goal.loop-k-preserved
unfolding s_zero
loop-k-preserved c =
    let s-cos = c.coefficient_at-s_cos.ensures in
    let s-sin = c.coefficient_at-s_sin.ensures in
    all_more (s_zero c.args.sheet.now.bytes.now c.args.j) c.loop-k.k c.loop-k.invariant (rw (zero_test s-cos.0 s-cos.1, zero_test s-sin.0 s-sin.1))
