-- Two products of at most 2^55 each, and a sum of at most 2^62, leave room for one another.
use mathlib.Core.Path.{refl}
use Prim.Native.Nat.{◌^◌, ◌≤◌}
use native.Mathlib.Nat.{mul-le-mul}
use native.Mathlib.Omega.{arith}
use lib.IntN.{ℤ, nat_abs, ◌+ℤ◌, ◌*ℤ◌}
use mir.Syntax.{w64}
use mir.Val.{SFits}
use mir.Facts.{to_z-of_z}
use Rattle.whole.proofs.Parts.{fits_abs, abs_sum, abs_product}
use Rattle.whole.proofs.Machine.{sum_fits}
use Rattle.bands.proofs.plus_wave.Goals as goal
use Rattle.bands.proofs.plus_wave.Goals.{Start}

-- an amplitude times a wave
product-size : (a w : ℤ) → nat_abs a ≤ 2 ^ 24 → nat_abs w ≤ 2 ^ 31 → nat_abs (a *ℤ w) ≤ 2 ^ 55
product-size a w h k = omega (arith, abs_product a w, mul-le-mul h k)

module _ (c : Start) where
  abbrev first : ℤ
  first = c.args.a *ℤ c.args.cosine

  abbrev second : ℤ
  second = c.args.b *ℤ c.args.sine

  first-size : nat_abs first ≤ 2 ^ 55
  first-size = product-size c.args.a c.args.cosine c.requires.a_small c.requires.cosine-small

  second-size : nat_abs second ≤ 2 ^ 55
  second-size = product-size c.args.b c.args.sine c.requires.b_small c.requires.sine-small

  first_fits : SFits w64 first
  first_fits = fits_abs w64 first (omega (arith, first-size))

  second_fits : SFits w64 second
  second_fits = fits_abs w64 second (omega (arith, second-size))

  both-fit : SFits w64 (first +ℤ second)
  both-fit = sum_fits w64 first second (omega (arith, first-size, second-size))

  all_fit : SFits w64 (c.args.sum +ℤ (first +ℤ second))
  all_fit = sum_fits w64 c.args.sum (first +ℤ second) (omega (arith, first-size, second-size, abs_sum first second, c.requires.sum-small))

pub overflow_add-result : goal.overflow_add-result
overflow_add-result c =
    rw (to_z-of_z c.ranges.a, to_z-of_z c.ranges.cosine, to_z-of_z c.ranges.b, to_z-of_z c.ranges.sine, to_z-of_z (first_fits (goal.at.overflow_add-result c).Start), to_z-of_z (second_fits (goal.at.overflow_add-result c).Start))
    (both-fit (goal.at.overflow_add-result c).Start)

pub returns : goal.returns
returns c =
    rw (to_z-of_z c.ranges.sum, to_z-of_z c.ranges.a, to_z-of_z c.ranges.cosine, to_z-of_z c.ranges.b, to_z-of_z c.ranges.sine, to_z-of_z (first_fits (goal.at.returns c).Start), to_z-of_z (second_fits (goal.at.returns c).Start), to_z-of_z (both-fit (goal.at.returns c).Start), to_z-of_z (all_fit (goal.at.returns c).Start))
    refl

pub overflow_add-result-2 : goal.overflow_add-result-2
overflow_add-result-2 c =
    rw (to_z-of_z c.ranges.sum, to_z-of_z c.ranges.a, to_z-of_z c.ranges.cosine, to_z-of_z c.ranges.b, to_z-of_z c.ranges.sine, to_z-of_z (first_fits (goal.at.overflow_add-result-2 c).Start), to_z-of_z (second_fits (goal.at.overflow_add-result-2 c).Start), to_z-of_z (both-fit (goal.at.overflow_add-result-2 c).Start))
    (all_fit (goal.at.overflow_add-result-2 c).Start)
