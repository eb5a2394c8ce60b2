-- The sine and the cosine lie within two units of 2^30 times the exact ones, at every phase.
use mathlib.Core.Path.{◌≡◌, refl}
use mathlib.Core.List.{List, [], ◌∷◌}
use Prim.Native.Nat.{ℕ, ◌+◌, ◌*◌, ◌/◌, ◌^◌, ◌≤◌, ◌<◌}
use native.Mathlib.Nat.{mul-le-mul, mul-le-mul_right, pow-zero}
use native.Mathlib.Omega.{arith}
use lib.IntN.{ℤ, pos, nat_abs, ◌-ℤ◌, ◌*ℤ◌}
use Rattle.whole.proofs.Parts.{up, dn, abs_le, difference, product}
use Rattle.whole.proofs.Ring.{equal, !, ◌⊕◌, ◌⊖◌}
use Rattle.wave.specs.Wave.{further, angle, square, steps, sine_divisors, eighth_sine, cosine_divisors, eighth_cosine, sin, cos}
use Rattle.wave.proofs.Turn.{everywhere}
use Rattle.wave.proofs.Size.{angle_size, steps_size}
use Rattle.series.specs.Exact.{top, bottom, factorial, denominator, coefficient, term, sine_series, cosine_series, scale, exact_sin, exact_cos}
use Rattle.whole.proofs.Within.{Within, within_negated}
use Rattle.series.proofs.Near.{Near, rounded, product_near}
use Rattle.series.proofs.Steps.{Close, size, powers, Leads, done, next, along}

-- ---- the divisors of 01 lead through the terms of the series, at r = p / q
module _ (p q : ℕ) where
  abbrev t : ℕ → ℤ
  t k = pos (size p q k)

  abbrev sine_nest : ℤ
  sine_nest = t 1 -ℤ (t 3 -ℤ (t 5 -ℤ (t 7 -ℤ (t 9 -ℤ t 11))))

  abbrev cosine_nest : ℤ
  cosine_nest = t 0 -ℤ (t 2 -ℤ (t 4 -ℤ (t 6 -ℤ (t 8 -ℤ (t 10 -ℤ t 12)))))

  sine_nested : sine_series p q ≡ sine_nest
  unfolding sine_series term
  sine_nested =
      equal (! 0 ⊖ ! 1 ⊕ ! 2 ⊖ ! 3 ⊕ ! 4 ⊖ ! 5) (! 0 ⊖ (! 1 ⊖ (! 2 ⊖ (! 3 ⊖ (! 4 ⊖ ! 5)))))
      (t 1 ∷ t 3 ∷ t 5 ∷ t 7 ∷ t 9 ∷ t 11 ∷ []) (omega arith)

  cosine_nested : cosine_series p q ≡ cosine_nest
  unfolding cosine_series term
  cosine_nested =
      equal (! 0 ⊖ ! 1 ⊕ ! 2 ⊖ ! 3 ⊕ ! 4 ⊖ ! 5 ⊕ ! 6) (! 0 ⊖ (! 1 ⊖ (! 2 ⊖ (! 3 ⊖ (! 4 ⊖ (! 5 ⊖ ! 6))))))
      (t 0 ∷ t 2 ∷ t 4 ∷ t 6 ∷ t 8 ∷ t 10 ∷ t 12 ∷ []) (omega arith)

  sine_leads : Leads p q 11 sine_divisors 1 (t 11) sine_nest
  unfolding coefficient factorial
  sine_leads = next tt refl (next tt refl (next tt refl (next tt refl (next tt refl done))))

  cosine_leads : Leads p q 12 cosine_divisors 0 (t 12) cosine_nest
  unfolding coefficient factorial
  cosine_leads = next tt refl (next tt refl (next tt refl (next tt refl (next tt refl (next tt refl done)))))

  -- the term of order 0 is the denominator, and that of order 1 is r times it
  order_0 : size p q 0 ≡ denominator q
  unfolding term coefficient denominator factorial
  order_0 = rw (pow-zero p) (omega arith)

  order_1 : 1 * (q * size p q 1) ≡ p * size p q 0
  unfolding term coefficient factorial
  order_1 = omega (arith, powers p q 0 (omega arith))

-- the last rounding, to units of 2^-30, adds half a unit to one and a half
quartered : (h T : ℕ) (E : ℤ) → Near (6 * T) (h * T + 2 ^ 32 * dn E) (2 ^ 32 * up E) → Within T (2 * T) (pos ((h + 2) / 4)) (pos (2 ^ 30) *ℤ E)
quartered h T E H =
    let f : 4 * ((h + 2) / 4) ≤ h + 2 = omega arith in
    let r : h ≤ 4 * ((h + 2) / 4) + 1 = omega arith in
    let F = mul-le-mul_right T f in
    let R = mul-le-mul_right T r in
    let P = product (pos (2 ^ 30)) E in
    let D = difference (pos ((h + 2) / 4 * T)) (pos (2 ^ 30) *ℤ E) in
    record { off = abs_le (pos ((h + 2) / 4 * T) -ℤ pos (2 ^ 30) *ℤ E) (2 * T) (omega (arith, H.above)) (omega (arith, H.below)) }

-- ---- at an x within one unit of 2^32 * p / q
module _ (x p q : ℕ) (X : Near (1 * q) (x * q) (2 ^ 32 * p)) (hx : x ≤ 7 * 2 ^ 29) (hq : 0 < q) (hp : p ≤ q) where
  square_near : Near (3 * (q * q)) (square x * (q * q)) (2 ^ 32 * (p * p))
  unfolding square
  square_near =
      let B : Near (1 * (p * q)) (x * (p * q) + 2 ^ 32 * 0) (2 ^ 32 * (p * p)) =
      record { above = omega (arith, mul-le-mul_right p X.above); below = omega (arith, mul-le-mul_right p X.below) } in
      let R = rounded 1 (x * x) (omega arith) in
      let K = product_near x x 1 (square x) p q (p * q) (q * q) (p * p) 0 1 1 X B R (omega arith) hq hp (omega arith) in
      record { above = omega (arith, K.above); below = omega (arith, K.below) }

  square_small : square x ≤ 2 ^ 32
  unfolding square
  square_small = omega (arith, mul-le-mul hx hx)

  -- from the highest order on, where h is exact
  closely : {m k : ℕ} {ds : List ℕ} {E : ℤ} → m ≤ 12 → Leads p q m ds k (pos (size p q m)) E → Close (steps (square x) (2 ^ 32) ds) (size p q k) E
  closely l L =
      along p q (square x) square_near square_small (mul-le-mul hq hq) (mul-le-mul hp hp) (2 ^ 32) l L (omega arith)
      (record { near = record { above = omega arith; below = omega arith } })

  cosine_from : Within (denominator q) (2 * denominator q) (pos ((steps (square x) (2 ^ 32) cosine_divisors + 2) / 4)) (pos (2 ^ 30) *ℤ cosine_series p q)
  cosine_from =
      let C = closely (omega arith) (cosine_leads p q) in
      rw (← order_0 p q, cosine_nested p q)
      (quartered (steps (square x) (2 ^ 32) cosine_divisors) (size p q 0) (cosine_nest p q)
      (record { above = omega (arith, C.near.above); below = omega (arith, C.near.below) }))

  sine_from : Within (denominator q) (2 * denominator q)
      (pos (((x * steps (square x) (2 ^ 32) sine_divisors + 2 ^ 31) / 2 ^ 32 + 2) / 4)) (pos (2 ^ 30) *ℤ sine_series p q)
  sine_from =
      let E = sine_nest p q in
      let h : ℕ = steps (square x) (2 ^ 32) sine_divisors in
      let g : ℕ = (x * h + 2 ^ 31) / 2 ^ 32 in
      let C = closely (omega arith) (sine_leads p q) in
      let R = rounded 1 (x * h) (omega arith) in
      let s = steps_size (square x) (2 ^ 32) (omega arith) sine_divisors in
      let K = product_near x h 1 g p q (size p q 1) (size p q 0) (up E) (dn E) 1 4 X C.near R (order_1 p q) hq hp s in
      rw (← order_0 p q, sine_nested p q)
      (quartered g (size p q 0) E (record { above = omega (arith, K.above); below = omega (arith, K.below) }))

-- ---- at the angle of 01
angle_close : (a : ℕ) → a ≤ 2 ^ 29 → Near (10 ^ 15) (angle a * 10 ^ 15) (top a)
unfolding angle top
angle_close a h = record { above = omega arith; below = omega arith }

angle_near : (a : ℕ) → a ≤ 2 ^ 29 → Near (1 * bottom) (angle a * bottom) (2 ^ 32 * top a)
unfolding bottom
angle_near a h = let K = angle_close a h in record { above = omega (arith, K.above); below = omega (arith, K.below) }

top_small : (a : ℕ) → a ≤ 2 ^ 29 → top a ≤ bottom
unfolding top bottom
top_small a h = omega arith

bottom_positive : 0 < bottom
unfolding bottom
bottom_positive = omega arith

sine_near : (a : ℕ) → a ≤ 2 ^ 29 → Within scale (2 * scale) (pos (eighth_sine a)) (pos (2 ^ 30) *ℤ sine_series (top a) bottom)
unfolding eighth_sine scale
sine_near a h = sine_from (angle a) (top a) bottom (angle_near a h) (angle_size a h) bottom_positive (top_small a h)

cosine_near : (a : ℕ) → a ≤ 2 ^ 29 → Within scale (2 * scale) (pos (eighth_cosine a)) (pos (2 ^ 30) *ℤ cosine_series (top a) bottom)
unfolding eighth_cosine scale
cosine_near a h = cosine_from (angle a) (top a) bottom (angle_near a h) (angle_size a h) bottom_positive (top_small a h)

-- ---- at every phase: "S and C lie within two units of 2^30 times these"
pub sin_near : (t : ℕ) → nat_abs (sin t *ℤ pos scale -ℤ exact_sin t) ≤ 2 * scale
unfolding sin exact_sin
sin_near t =
    (everywhere (Within scale (2 * scale)) within_negated (λ a. pos (eighth_sine a)) (λ a. pos (eighth_cosine a)) _ _ sine_near cosine_near t).off

pub cos_near : (t : ℕ) → nat_abs (cos t *ℤ pos scale -ℤ exact_cos t) ≤ 2 * scale
unfolding cos exact_cos
cos_near t = sin_near (further t)
