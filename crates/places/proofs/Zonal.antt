-- "S(n,0) is never changed": counts of zero correct nothing, and a place of order 0 stands at no other place's index.
use mathlib.Core.Bool.{Bool, true, false, cond}
use mathlib.Core.List.{List}
use mathlib.Core.Path.{◌≡◌, refl, ap, ◌∙◌}
use Prim.Native.Nat.{ℕ, zero, suc, ◌+◌, ◌^◌, ◌≤◌, ◌<◌}
use native.Mathlib.Nat.{mul-le-mul}
use native.Mathlib.Omega.{arith}
use borrow.Author.Tests.{ltb-true, ltb-false}
use lib.Dec.{ltb}
use lib.IntN.{ℤ, pos, ◌+ℤ◌, ◌*ℤ◌, *ℤ-zero}
use Rattle.choices.specs.declared.Frame.{Frame}
use Rattle.field.specs.Field.{place}
use Rattle.sheet.specs.Sheet.{tide_count, degree, coefficient}
use Rattle.whole.specs.Nearest.{nearest}
use Rattle.whole.specs.Sum.{sum_to}
use Rattle.whole.proofs.Rounding.{nearest_zero}
use Rattle.whole.proofs.Sums.{sum_same}
use Rattle.places.specs.Places.{place_sum, skipped, unless_skipped, correction}

sum_zero : (n : ℕ) → sum_to (λ k. pos 0) n ≡ pos 0
unfolding sum_to
sum_zero zero = refl
sum_zero (suc n) = rw (sum_zero n)

module _ (s : List ℕ) (C S : ℕ → ℤ) (p q j : ℕ) (P : (k : ℕ) → k < tide_count s → coefficient s j k p ≡ pos 0) (Q : (k : ℕ) → k < tide_count s → coefficient s j k q ≡ pos 0) where
  no_sum : place_sum s C S p q j ≡ pos 0
  unfolding place_sum
  no_sum =
      sum_same (λ k. C k *ℤ coefficient s j k p +ℤ S k *ℤ coefficient s j k q) (λ k. pos 0) (tide_count s) (λ k h. rw (P k h, Q k h, *ℤ-zero (C k), *ℤ-zero (S k)))
      ∙ sum_zero (tide_count s)

  pub no_correction : (frame : Frame) → correction s frame C S p q j ≡ pos 0
  unfolding correction unless_skipped
  no_correction frame = ap (λ (z : ℤ). cond (skipped frame (degree s j)) (pos 0) (nearest z (2 ^ 30))) no_sum ∙ by_test (skipped frame (degree s j))
    where
      by_test : (t : Bool) → cond t (pos 0) (nearest (pos 0) (2 ^ 30)) ≡ pos 0
      by_test true = refl
      by_test false = nearest_zero (2 ^ 30) (omega arith)

pub zonal_place : (m n k : ℕ) → k ≤ n → place m 0 ≡ place n k → k ≡ 0
unfolding place
zonal_place m n k h e = by_test (ltb n m) refl
  where
    by_test : (t : Bool) → ltb n m ≡ t → k ≡ 0
    by_test true l = let d : n + 1 ≤ m = omega (arith, ltb-true n m l) in absurd (omega (arith, mul-le-mul d d))
    by_test false l = let d : m ≤ n = ltb-false n m l in omega (arith, mul-le-mul d d)
