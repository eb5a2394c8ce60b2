-- Every line is renewed.
use Rattle.hour.specs.Hour.{hour_at}
use Rattle.hour.proofs.set_to.Goals as goal

pub returns : goal.returns
unfolding hour_at
returns c =
    let e = c.renew_waves.ensures in
    λ j. record { phases = c.args.phases; cosines = e.0 j; sines = e.1 j }
