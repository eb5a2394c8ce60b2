-- Each correction is the whole sum, rounded once.
use mathlib.Core.Path.{ap, subst, sym, ◌∙◌}
use Rattle.bands.specs.Bands.{corrections_of}
use Rattle.bands.specs.Inner.{sums_of, rounded_of, Small}
use Rattle.bands.proofs.Sizes.{rounded_small}
use Rattle.step_two.specs.StepTwo.{kept_corrections}
use Rattle.step_two.proofs.corrections_of.Goals as goal

pub returns : goal.returns
unfolding kept_corrections corrections_of rounded_of sums_of
returns c =
    let s = c.sums_of in
    (c.rounded_of.ensures ∙ ap rounded_of s.ensures.0, subst Small (sym c.rounded_of.ensures) (rounded_small s.result s.ensures.1))
