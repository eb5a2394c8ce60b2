-- Refusals 3, 4 and 5 are given of a body exactly when 01's table says.
use mathlib.Core.Path.{◌≡◌, refl, ap}
use mathlib.Core.Bool.{Bool, true, false, cond}
use mathlib.Core.Logic.{◌↔◌}
use Prim.Native.Nat.{◌^◌}
use native.Mathlib.Omega.{arith}
use lib.Dec.{T}
use lib.Ieee.{lt, le}
use lib.Ieee.Fits.{and_i, and_l, and_r}
use Rattle.doubles.specs.Doubles.{number, finite}
use Rattle.limits.specs.Limits.{is_distance, is_ratio}
use Rattle.refusals.specs.Told.{Told, told_number}
use Rattle.refusals.specs.Told.Told.{accepted, refused}
use Rattle.bodies.specs.declared.Body.{Body}
use Rattle.bodies.specs.declared.Direction.{Direction}
use Rattle.bodies.specs.Bodies.{direction_of, excess, tolerance, minus_tolerance, finite_place, finite_body, in_reach, of_length_one, sighted}

-- the four floats of the place and the mass ratio are finite
pub record Finite (b : Body) : Type 0 where
  pub place : T (finite_place b.place)
  pub ratio : T (finite b.ratio)

-- the distance is 10^8 to 10^12 m, and the ratio above 0 and at most 10^6
pub record InReach (b : Body) : Type 0 where
  pub least : T (le (number (10 ^ 8)) (direction_of b.place).r)
  pub largest : T (le (direction_of b.place).r (number (10 ^ 12)))
  pub above_zero : T (lt (number 0) b.ratio)
  pub at_most : T (le b.ratio (number (10 ^ 6)))

-- the direction is of length one: -2^-40 <= ((u*u + v*v) + w*w) - 1 <= 2^-40
pub record LengthOne (d : Direction) : Type 0 where
  pub least : T (le minus_tolerance (excess d))
  pub largest : T (le (excess d) tolerance)

is_finite : (b : Body) → T (finite_body b) ↔ Finite b
unfolding finite_body
is_finite b =
    let p = finite_place b.place in
    let q = finite b.ratio in
    (λ h. record { place = and_l p q h; ratio = and_r p q h }, λ f. and_i p q f.place f.ratio)

is_in_reach : (b : Body) → T (in_reach (direction_of b.place).r b.ratio) ↔ InReach b
unfolding in_reach
is_in_reach b =
    let r = (direction_of b.place).r in
    let least = le (number (10 ^ 8)) r in
    let largest = le r (number (10 ^ 12)) in
    let above = lt (number 0) b.ratio in
    let most = le b.ratio (number (10 ^ 6)) in (
      λ h.
          let d = and_l (is_distance r) (is_ratio b.ratio) h in
          let m = and_r (is_distance r) (is_ratio b.ratio) h in
          record { least = and_l least largest d; largest = and_r least largest d; above_zero = and_l above most m; at_most = and_r above most m },
      λ w. and_i (is_distance r) (is_ratio b.ratio) (and_i least largest w.least w.largest) (and_i above most w.above_zero w.at_most),
    )

is_of_length_one : (d : Direction) → T (of_length_one d) ↔ LengthOne d
unfolding of_length_one
is_of_length_one d =
    let least = le minus_tolerance (excess d) in
    let largest = le (excess d) tolerance in
    (λ h. record { least = and_l least largest h; largest = and_r least largest h }, λ w. and_i least largest w.least w.largest)

-- of three tests in their order, each with what it says
abbrev told : {D : Type 0} → D → Bool → Bool → Bool → Told D
told v a b c = cond a (cond b (cond c (accepted v) (refused 5)) (refused 4)) (refused 3)

module _ {A B C D : Type 0} (v : D) where
  in_order : (a b c : Bool) → T a ↔ A → T b ↔ B → T c ↔ C
      → (told v a b c ≡ refused 3 ↔ (A → ⊥))
      × (told v a b c ≡ refused 4 ↔ (A × (B → ⊥)))
      × (told v a b c ≡ refused 5 ↔ (A × B × (C → ⊥)))
      × (told v a b c ≡ accepted v ↔ (A × B × C))
  in_order true true true p q r = (
    (λ e. absurd (omega (arith, ap told_number e)), λ h. absurd (h (p.0 tt))),
    (λ e. absurd (omega (arith, ap told_number e)), λ h. absurd (h.1 (q.0 tt))),
    (λ e. absurd (omega (arith, ap told_number e)), λ h. absurd (h.2 (r.0 tt))),
    (λ e. (p.0 tt, q.0 tt, r.0 tt), λ h. refl),
  )
  in_order true true false p q r = (
    (λ e. absurd (omega (arith, ap told_number e)), λ h. absurd (h (p.0 tt))),
    (λ e. absurd (omega (arith, ap told_number e)), λ h. absurd (h.1 (q.0 tt))),
    (λ e. (p.0 tt, q.0 tt, r.1), λ h. refl),
    (λ e. absurd (omega (arith, ap told_number e)), λ h. absurd (r.1 h.2)),
  )
  in_order true false c p q r = (
    (λ e. absurd (omega (arith, ap told_number e)), λ h. absurd (h (p.0 tt))),
    (λ e. (p.0 tt, q.1), λ h. refl),
    (λ e. absurd (omega (arith, ap told_number e)), λ h. absurd (q.1 h.1)),
    (λ e. absurd (omega (arith, ap told_number e)), λ h. absurd (q.1 h.1)),
  )
  in_order false b c p q r = (
    (λ e. p.1, λ h. refl),
    (λ e. absurd (omega (arith, ap told_number e)), λ h. absurd (p.1 h.0)),
    (λ e. absurd (omega (arith, ap told_number e)), λ h. absurd (p.1 h.0)),
    (λ e. absurd (omega (arith, ap told_number e)), λ h. absurd (p.1 h.0)),
  )

-- 3: "a float of a place or mass ratio not finite"; 4: else "distance outside 10^8..10^12 m, or ratio not above 0 and at most 10^6";
-- 5: else "direction not of length one"; else the direction is answered
pub body_table : (b : Body)
    → (sighted b ≡ refused 3 ↔ (Finite b → ⊥))
    × (sighted b ≡ refused 4 ↔ (Finite b × (InReach b → ⊥)))
    × (sighted b ≡ refused 5 ↔ (Finite b × InReach b × (LengthOne (direction_of b.place) → ⊥)))
    × (sighted b ≡ accepted (direction_of b.place) ↔ (Finite b × InReach b × LengthOne (direction_of b.place)))
unfolding sighted
body_table b =
    let d = direction_of b.place in
    in_order d (finite_body b) (in_reach d.r b.ratio) (of_length_one d) (is_finite b) (is_in_reach b) (is_of_length_one d)
