-- Both lists are tested before either is counted.
use mathlib.Core.Bool.{true, ◌&&◌}
use mathlib.Core.Path.{◌≡◌, refl, sym, subst, ◌∙◌}
use lib.Dec.{T}
use lib.Ieee.Fits.{and_l}
use Rattle.step_one.specs.StepOne.{all_countable, measured}
use Rattle.step_one.specs.Inner.{Small}
use Rattle.step_one.proofs.Each.{counts_c_small}
use Rattle.step_one.proofs.measure.Goals as goal
use Rattle.step_one.proofs.measure.Goals.{After-are_countable-2, Else-not-are_countable}

-- what the two tests said together
module _ (c : After-are_countable-2) where
  both : (all_countable c.args.f.c && all_countable c.args.f.s) ≡ (c.are_countable.result && c.are_countable-2.result)
  both = λ i. sym c.are_countable.ensures i && sym c.are_countable-2.ensures i

passed : (c : Else-not-are_countable) → (all_countable c.args.f.c && all_countable c.args.f.s) ≡ true
passed c = both c.before ∙ c.if-not-are_countable.false

pub returns-then-not-are_countable : goal.returns-then-not-are_countable
unfolding measured
returns-then-not-are_countable c = rw (both (goal.at.returns-then-not-are_countable c).After-are_countable-2 ∙ c.if-not-are_countable.true) refl

pub without_permanent-requires : goal.without_permanent-requires
without_permanent-requires c =
    let t = and_l (all_countable c.args.f.c) (all_countable c.args.f.s) (subst T (sym (passed (goal.at.without_permanent-requires c).Else-not-are_countable)) tt) in
    subst (Small 52) (sym c.counts_c.ensures) (record { size = counts_c_small c.args.f.c t })

pub returns : goal.returns
unfolding measured
returns c =
    rw (passed (goal.at.returns c).Else-not-are_countable, c.without_permanent.ensures, c.counts_c.ensures, c.counts_s.ensures)
