-- A running sum of products a i * w i, as a loop keeps it in 64 bits.
use mathlib.Core.Path.{◌≡◌, sym, ◌∙◌}
use Prim.Native.Nat.{ℕ, zero, suc, ◌+◌, ◌*◌, ◌^◌, ◌≤◌, ◌<◌, zero-le}
use native.Mathlib.Nat.{mul-le-mul_left}
use native.Mathlib.Omega.{arith}
use lib.IntN.{ℤ, nat_abs, ◌+ℤ◌, ◌*ℤ◌}
use lib.Signed.{mag}
use mir.Syntax.{w64}
use mir.Val.{to_z, of_z}
use Rattle.whole.specs.Sum.{sum_to, weight_to}
use Rattle.whole.proofs.Machine.{back}
use Rattle.whole.proofs.Parts.{abs_sum, abs_product}
use Rattle.whole.proofs.Sums.{sum_next}

-- where each a in the run is at most e, n of them add up to at most n * e
pub weight_size : (a : ℕ → ℤ) (e n : ℕ) → ((i : ℕ) → i < n → nat_abs (a i) ≤ e) → weight_to a n ≤ n * e
unfolding weight_to
weight_size a e zero h = zero-le
weight_size a e (suc n) h = omega (arith, h n (omega arith), weight_size a e n (λ i l. h i (omega arith)))

module _ (a w : ℕ → ℤ) where
  -- where each w in the run is at most e, the sum is at most e times the absolute values of a, added up
  pub sum_size : (e n : ℕ) → ((i : ℕ) → i < n → nat_abs (w i) ≤ e) → nat_abs (sum_to (λ i. a i *ℤ w i) n) ≤ weight_to a n * e
  unfolding sum_to weight_to
  sum_size e zero h = zero-le
  sum_size e (suc n) h =
      omega (arith, abs_sum (sum_to (λ i. a i *ℤ w i) n) (a n *ℤ w n), abs_product (a n) (w n), mul-le-mul_left (nat_abs (a n)) (h n (omega arith)), sum_size e n (λ i l. h i (omega arith)))

  -- a turn: the sum so far and the two factors, as the machine reads them
  module _ (i : ℕ) {t x y : ℤ} (S : t ≡ sum_to (λ j. a j *ℤ w j) i) (X : x ≡ a i) (Y : y ≡ w i) where
    pub room : nat_abs (sum_to (λ j. a j *ℤ w j) i) + nat_abs (a i) * nat_abs (w i) < 2 ^ 63 → nat_abs t + nat_abs x * nat_abs y < 2 ^ 63
    room h = rw (S, X, Y) h

    pub grown : {r : ℤ} → mag r < 2 ^ 63 → r ≡ t +ℤ x *ℤ y → to_z w64 (of_z w64 r) ≡ sum_to (λ j. a j *ℤ w j) (i + 1)
    grown {r} m e = back w64 r m ∙ e ∙ rw (S, X, Y) (sym (sum_next (λ j. a j *ℤ w j) i))
