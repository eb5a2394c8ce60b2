-- No sine and no cosine is greater than 1, that is 2^30 units: what later sums need to fit 64 bits.
use mathlib.Core.List.{List, [], ◌∷◌}
use Prim.Native.Nat.{ℕ, ◌*◌, ◌^◌, ◌≤◌}
use native.Mathlib.Nat.{mul-le-mul}
use native.Mathlib.Omega.{arith}
use lib.IntN.{ℤ, pos, neg_ℤ, nat_abs}
use Rattle.whole.proofs.Parts.{abs_neg}
use Rattle.wave.specs.Wave.{further, angle, square, step, steps, sine_divisors, eighth_sine, cosine_divisors, eighth_cosine, sin, cos}
use Rattle.wave.proofs.Turn.{everywhere}

pub step_size : (y h d : ℕ) → step y h d ≤ 2 ^ 32
unfolding step
step_size y h d = omega arith

pub steps_size : (y h : ℕ) → h ≤ 2 ^ 32 → (ds : List ℕ) → steps y h ds ≤ 2 ^ 32
unfolding steps
steps_size y h l [] = l
steps_size y h l (d ∷ ds) = steps_size y (step y h d) (step_size y h d) ds

pub angle_size : (a : ℕ) → a ≤ 2 ^ 29 → angle a ≤ 7 * 2 ^ 29
unfolding angle
angle_size a h = omega arith

sine_size : (a : ℕ) → a ≤ 2 ^ 29 → eighth_sine a ≤ 2 ^ 30
unfolding eighth_sine
sine_size a h = omega (arith, mul-le-mul (angle_size a h) (steps_size (square (angle a)) (2 ^ 32) (omega arith) sine_divisors))

cosine_size : (a : ℕ) → a ≤ 2 ^ 29 → eighth_cosine a ≤ 2 ^ 30
unfolding eighth_cosine
cosine_size a h = omega (arith, steps_size (square (angle a)) (2 ^ 32) (omega arith) cosine_divisors)

negated : (z : ℤ) → nat_abs z ≤ 2 ^ 30 → nat_abs (neg_ℤ z) ≤ 2 ^ 30
negated z h = omega (arith, abs_neg z)

pub sin_size : (t : ℕ) → nat_abs (sin t) ≤ 2 ^ 30
unfolding sin
sin_size = everywhere (λ s x. nat_abs s ≤ 2 ^ 30) (λ s x. negated s) (λ a. pos (eighth_sine a)) (λ a. pos (eighth_cosine a)) pos pos sine_size cosine_size

pub cos_size : (t : ℕ) → nat_abs (cos t) ≤ 2 ^ 30
unfolding cos
cos_size t = sin_size (further t)
