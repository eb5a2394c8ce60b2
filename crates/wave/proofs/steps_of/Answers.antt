-- A turn takes the first of the steps that are left.
use Rattle.std.proofs.Common.{ℕ, ◌+◌, sym, ◌∙◌, ap, drop, arith}
use Rattle.std.proofs.lemmas.List.{at_drop_more, at_drop_all}
use Rattle.wave.specs.Wave.{steps}
use Rattle.wave.proofs.steps_of.Goals as goal

pub loop-d-preserved : goal.loop-d-preserved
unfolding steps
loop-d-preserved c =
    let y = c.args.y in
    let l = c.loop-d in
    let ds = c.args.divisors.now in
    let first = at_drop_more (steps y l.h) ds l.d-index 0 c.loop-d-test.true in
    (c.step_of-h.ensures.1, ap (λ (h : ℕ). steps y h (drop (l.d-index + 1) ds)) c.step_of-h.ensures.0 ∙ sym first ∙ l.invariant.1)

pub returns : goal.returns
unfolding steps
returns c =
    let l = c.loop-d in
    (sym (at_drop_all (steps c.args.y l.h) c.args.divisors.now l.d-index (omega arith)) ∙ l.invariant.1, l.invariant.0)
