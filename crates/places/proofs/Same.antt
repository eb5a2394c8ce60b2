-- Corrections worked out from factors in a list are those of the factors.
use mathlib.Core.List.{List}
use mathlib.Core.Path.{◌≡◌, ap}
use Prim.Native.Nat.{ℕ, ◌^◌}
use lib.IntN.{ℤ, ◌+ℤ◌, ◌*ℤ◌}
use Rattle.choices.specs.declared.Frame.{Frame}
use Rattle.whole.specs.Nearest.{nearest}
use Rattle.sheet.specs.Sheet.{tide_count, coefficient}
use Rattle.tides.specs.Inner.{Lists}
use Rattle.whole.proofs.Sums.{sum_same}
use Rattle.places.specs.Places.{place_sum, unless_skipped, correction}

module _ (s : List ℕ) (frame : Frame) {C S F G : ℕ → ℤ} (HC : Lists C (tide_count s) F) (HS : Lists S (tide_count s) G) (p q j : ℕ) where
  same_sum : place_sum s F G p q j ≡ place_sum s C S p q j
  unfolding place_sum
  same_sum =
      sum_same (λ k. F k *ℤ coefficient s j k p +ℤ G k *ℤ coefficient s j k q) (λ k. C k *ℤ coefficient s j k p +ℤ S k *ℤ coefficient s j k q)
      (tide_count s) (λ k h. rw (HC.each k h, HS.each k h))

  pub same_correction : correction s frame F G p q j ≡ correction s frame C S p q j
  unfolding correction
  same_correction = ap (λ (z : ℤ). unless_skipped s frame j (nearest z (2 ^ 30))) same_sum
