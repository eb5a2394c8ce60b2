-- Document 01, "Step one" and "Refusal numbers": bodies, places, directions, and refusals 3, 4 and 5.
use Rattle.std.specs.Prelude.{Bool, ◌&&◌, cond, ◌^◌, Float}
use Rattle.std.specs.Float.Ieee.{le}
use Rattle.doubles.specs.Doubles.{◌*·◌, ◌/·◌, ◌+·◌, ◌-·◌, decimal, minus_decimal, number, finite}
use Rattle.limits.specs.Limits.{is_distance, is_ratio}
use Rattle.refusals.specs.Told.{Told}
use Rattle.refusals.specs.Told.Told.{accepted, refused}
use Rattle.bodies.specs.declared.Place.{Place}
use Rattle.bodies.specs.declared.Place.TheVariants.{Rectangular, Directional}
use Rattle.bodies.specs.declared.Body.{Body}
use Rattle.bodies.specs.declared.Direction.{Direction}

-- "rectangular x, y, z in metres with the distance, or a direction u, v, w with the distance; for the first u = x/r, v = y/r, w = z/r"
abbrev pub direction_of : Place → Direction
direction_of (Rectangular x y z r) = record { u = x /· r; v = y /· r; w = z /· r; r = r }
direction_of (Directional u v w r) = record { u = u; v = v; w = w; r = r }

-- "Require -2^-40 <= ((u*u + v*v) + w*w) - 1 <= 2^-40."
abbrev pub excess : Direction → Float
excess d = d.u *· d.u +· d.v *· d.v +· d.w *· d.w -· number 1

abbrev pub tolerance : Float
tolerance = decimal 1 (2 ^ 40)

abbrev pub minus_tolerance : Float
minus_tolerance = minus_decimal 1 (2 ^ 40)

unfoldable pub of_length_one : Direction → Bool
of_length_one d = le minus_tolerance (excess d) && le (excess d) tolerance

-- 3: "a float of a place or mass ratio not finite"
abbrev pub all_finite : Float → Float → Float → Float → Bool
all_finite a b c d = finite a && finite b && finite c && finite d

abbrev pub finite_place : Place → Bool
finite_place (Rectangular x y z r) = all_finite x y z r
finite_place (Directional u v w r) = all_finite u v w r

unfoldable pub finite_body : Body → Bool
finite_body b = finite_place b.place && finite b.ratio

-- 4: "distance outside 10^8..10^12 m, or ratio not above 0 and at most 10^6"
unfoldable pub in_reach : Float → Float → Bool
in_reach r ratio = is_distance r && is_ratio ratio

-- 5: "direction not of length one". The lowest number that applies is answered.
unfoldable pub sighted : Body → Told Direction
sighted b =
    let d = direction_of b.place in
    cond (finite_body b) (cond (in_reach d.r b.ratio) (cond (of_length_one d) (accepted d) (refused 5)) (refused 4)) (refused 3)
