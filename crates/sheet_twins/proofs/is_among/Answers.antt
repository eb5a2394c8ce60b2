-- Each turn compares one more.
use mathlib.Core.Bool.{Bool, not}
use mathlib.Core.Path.{refl, ◌∙◌}
use Prim.Native.Nat.{ℕ, ◌+◌}
use lib.Dec.{eqb}
use lib.ListN.{get_or}
use Rattle.whole.proofs.Counted.{all_none, all_more}
use Rattle.sheet_twins.specs.Inner.{none_after}
use Rattle.sheet_twins.proofs.Pairs.{neither}
use Rattle.sheet_twins.proofs.is_among.Goals as goal

pub loop-j-init : goal.loop-j-init
unfolding none_after
loop-j-init c = all_none _

pub loop-j-preserved : goal.loop-j-preserved
unfolding none_after
loop-j-preserved c =
    let s = c.args in
    let l = c.loop-j in
    let other : ℕ → Bool = λ j. not (eqb (get_or s.keys.now (s.f + 1 + j) 0) (get_or s.keys.now s.f 0)) in
    neither l.found _ ∙ all_more other l.j l.invariant refl
