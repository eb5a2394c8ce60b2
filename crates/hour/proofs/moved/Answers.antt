-- The lines that have the argument are renewed at the phases moved.
use mathlib.Core.Path.{◌≡◌, ap, ◌∙◌}
use mir.Facts.{to_z-of_z}
use Rattle.arguments.specs.declared.Phases.{Phases}
use Rattle.arguments.specs.Phase.{moved_phases}
use Rattle.wave.specs.Wave.{sin, cos}
use Rattle.hour.specs.Hour.{has_argument, renewed, moved_hour}
use Rattle.hour.proofs.moved.Goals as goal

pub returns : goal.returns
unfolding moved_hour
returns c =
    let hour = c.args.hour in
    let argument = c.args.argument in
    let p : c.moved_phases-phases.result ≡ moved_phases hour.phases argument c.args.amount =
    rw (to_z-of_z c.ranges.amount) at c.moved_phases-phases.ensures in
    let cosines = c.renew_waves.ensures.0 ∙ ap (λ (b : Phases). renewed (has_argument argument) cos b hour.cosines) p in
    let sines = c.renew_waves.ensures.1 ∙ ap (λ (b : Phases). renewed (has_argument argument) sin b hour.sines) p in
    λ j. record { phases = p j; cosines = cosines j; sines = sines j }
