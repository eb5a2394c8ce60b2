-- The sizes of an accepted sheet's sums, which 64 bits hold: 32 tides, two columns, each 2^24 times 2^32.
use mathlib.Core.Bool.{Bool, true, false, cond}
use mathlib.Core.List.{List}
use Prim.Native.Nat.{ℕ, ◌+◌, ◌*◌, ◌^◌, ◌≤◌, ◌<◌}
use native.Mathlib.Nat.{mul-le-mul, mul-le-mul_right}
use native.Mathlib.Omega.{arith}
use lib.IntN.{ℤ, pos, nat_abs, ◌+ℤ◌, ◌*ℤ◌}
use Rattle.choices.specs.declared.Frame.{Frame}
use Rattle.whole.specs.Nearest.{nearest}
use Rattle.whole.specs.Sum.{sum_to}
use Rattle.whole.proofs.Parts.{abs_sum}
use Rattle.whole.proofs.Rounding.{nearest_size}
use Rattle.whole.proofs.Sums.{sum_plus}
use Rattle.sheet.specs.Sheet.{tide_count, place_count, degree, coefficient}
use Rattle.sheet.proofs.Acceptance.{Accepted}
use Rattle.whole.proofs.Running.{sum_size, weight_size}
use Rattle.places.specs.Places.{place_sum, skipped, unless_skipped, correction}

module _ {s : List ℕ} (A : Accepted s) (j : ℕ) (h : j < place_count s) where
  counts_small : (q : ℕ) → q < 4 → (k : ℕ) → k < tide_count s → nat_abs (coefficient s j k q) ≤ 2 ^ 24
  counts_small q g k l = ((A.places j h).tide k l).small q g

  -- any first part of one column's sum
  column_size : (F : ℕ → ℤ) → ((k : ℕ) → k < tide_count s → nat_abs (F k) ≤ 2 ^ 32) → (q : ℕ) → q < 4
      → (n : ℕ) → n ≤ tide_count s → nat_abs (sum_to (λ k. F k *ℤ coefficient s j k q) n) ≤ 2 ^ 61
  column_size F small q g n l =
      let tides : n ≤ 32 = omega (arith, A.shape.tides_most) in
      omega (
        arith,
        sum_size F (λ k. coefficient s j k q) (2 ^ 24) n (λ k m. counts_small q g k (omega arith)),
        mul-le-mul_right (2 ^ 24) (weight_size F (2 ^ 32) n (λ k m. small k (omega arith))),
      )

  module _ (C S : ℕ → ℤ) (smallC : (k : ℕ) → k < tide_count s → nat_abs (C k) ≤ 2 ^ 32)
      (smallS : (k : ℕ) → k < tide_count s → nat_abs (S k) ≤ 2 ^ 32) (p q : ℕ) (gp : p < 4) (gq : q < 4) where
    -- any first part of the place's sum
    part_size : (n : ℕ) → n ≤ tide_count s → nat_abs (sum_to (λ k. C k *ℤ coefficient s j k p +ℤ S k *ℤ coefficient s j k q) n) ≤ 2 ^ 62
    part_size n l =
        rw (sum_plus (λ k. C k *ℤ coefficient s j k p) (λ k. S k *ℤ coefficient s j k q) n)
        (omega (
          arith,
          abs_sum (sum_to (λ k. C k *ℤ coefficient s j k p) n) (sum_to (λ k. S k *ℤ coefficient s j k q) n),
          column_size C smallC p gp n l,
          column_size S smallS q gq n l,
        ))

    pub tide_room : (k : ℕ) → k < tide_count s
        → nat_abs (sum_to (λ i. C i *ℤ coefficient s j i p +ℤ S i *ℤ coefficient s j i q) k)
        + nat_abs (C k) * nat_abs (coefficient s j k p) + nat_abs (S k) * nat_abs (coefficient s j k q) < 2 ^ 63
    tide_room k l =
        omega (arith, part_size k (omega arith), mul-le-mul (smallC k l) (counts_small p gp k l), mul-le-mul (smallS k l) (counts_small q gq k l))

    pub place_size : nat_abs (place_sum s C S p q j) ≤ 2 ^ 62
    unfolding place_sum
    place_size = part_size (tide_count s) (omega arith)

    pub correction_size : (frame : Frame) → nat_abs (correction s frame C S p q j) ≤ 2 ^ 32
    unfolding correction unless_skipped
    correction_size frame = by_test (skipped frame (degree s j))
      where
        by_test : (b : Bool) → nat_abs (cond b (pos 0) (nearest (place_sum s C S p q j) (2 ^ 30))) ≤ 2 ^ 32
        by_test true = omega arith
        by_test false = nearest_size (place_sum s C S p q j) (2 ^ 30) (2 ^ 32) (omega arith) (omega (arith, place_size))
