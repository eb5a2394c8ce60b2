-- A body as it crosses from C.
use Rattle.std.specs.Prelude.{[], ◌∷◌}
use Rattle.bodies.specs.declared.Body.{Body}
use Rattle.bodies.specs.declared.Place.{Place}
use Rattle.bodies.specs.declared.Place.TheVariants.{Rectangular, Directional}
use Rattle.choices.specs.Numbers.{chosen}
use Rattle.refusals.specs.Told.{Told}
use Rattle.crossing.specs.declared.GivenBody.{GivenBody}

-- a body's place, of either kind, has three numbers and the distance
abbrev pub body_at : GivenBody → Place → Body
body_at b place = record { ratio = b.ratio; place = place }

abbrev pub body_of : GivenBody → Told Body
body_of b = chosen (body_at b (Rectangular b.x b.y b.z b.r) ∷ body_at b (Directional b.x b.y b.z b.r) ∷ []) b.kind
