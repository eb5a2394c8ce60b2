-- How far a number is from an exact fraction, through negation, sums, products and the nearest of a quotient.
use mathlib.Core.Path.{ap}
use mathlib.Core.List.{[], ◌∷◌}
use Prim.Native.Nat.{ℕ, zero, suc, ◌+◌, ◌*◌, ◌≤◌, ◌<◌}
use native.Mathlib.Nat.{mul-le-mul_left}
use native.Mathlib.Omega.{arith}
use lib.IntN.{ℤ, pos, neg_ℤ, nat_abs, ◌+ℤ◌, ◌-ℤ◌, ◌*ℤ◌}
use Rattle.whole.specs.Nearest.{nearest}
use Rattle.whole.specs.Sum.{sum_to, weight_to}
use Rattle.whole.proofs.Parts.{abs, abs_le, abs_sum, abs_product, difference, product, up_neg, dn_neg}
use Rattle.whole.proofs.Ring.{equal, !, ◌⊕◌, ◌⊖◌, ◌⊗◌}
use Rattle.whole.proofs.Rounding.{rounded_near}

-- s is within e / d of x / d
pub record Within (d e : ℕ) (s x : ℤ) : Type 0 where
  pub off : nat_abs (s *ℤ pos d -ℤ x) ≤ e

module _ {d : ℕ} where
  pub within_negated : {e : ℕ} (s x : ℤ) → Within d e s x → Within d e (neg_ℤ s) (neg_ℤ x)
  within_negated {e} s x h =
      let A = abs (s *ℤ pos d -ℤ x) in
      let D = difference (s *ℤ pos d) x in
      let D' = difference (neg_ℤ s *ℤ pos d) (neg_ℤ x) in
      let P = product s (pos d) in
      let P' = product (neg_ℤ s) (pos d) in
      let U = ap (λ (z : ℕ). z * d) (up_neg s) in
      let N = ap (λ (z : ℕ). z * d) (dn_neg s) in
      record { off = abs_le (neg_ℤ s *ℤ pos d -ℤ neg_ℤ x) e (omega (arith, h.off, up_neg x, dn_neg x)) (omega (arith, h.off, up_neg x, dn_neg x)) }

  pub within_plus : {e f : ℕ} {s t x y : ℤ} → Within d e s x → Within d f t y → Within d (e + f) (s +ℤ t) (x +ℤ y)
  within_plus {e} {f} {s} {t} {x} {y} h k = record {
    off =
        rw (equal ((! 0 ⊕ ! 1) ⊗ ! 4 ⊖ (! 2 ⊕ ! 3)) ((! 0 ⊗ ! 4 ⊖ ! 2) ⊕ (! 1 ⊗ ! 4 ⊖ ! 3)) (s ∷ t ∷ x ∷ y ∷ pos d ∷ []) (omega arith))
        (omega (arith, h.off, k.off, abs_sum (s *ℤ pos d -ℤ x) (t *ℤ pos d -ℤ y)));
  }

  pub within_times : {e : ℕ} {s x : ℤ} (a : ℤ) → Within d e s x → Within d (nat_abs a * e) (a *ℤ s) (a *ℤ x)
  within_times {e} {s} {x} a h = record {
    off =
        rw (equal (! 0 ⊗ ! 1 ⊗ ! 3 ⊖ ! 0 ⊗ ! 2) (! 0 ⊗ (! 1 ⊗ ! 3 ⊖ ! 2)) (a ∷ s ∷ x ∷ pos d ∷ []) (omega arith))
        (omega (arith, abs_product a (s *ℤ pos d -ℤ x), mul-le-mul_left (nat_abs a) h.off));
  }

  -- the terms of a sum may each have an error of its own: the errors add up
  pub within_sum : {e : ℕ → ℕ} {s x : ℕ → ℤ} (n : ℕ) → ((i : ℕ) → i < n → Within d (e i) (s i) (x i))
      → Within d (weight_to (λ i. pos (e i)) n) (sum_to s n) (sum_to x n)
  unfolding sum_to weight_to
  within_sum zero h = record { off = omega arith }
  within_sum (suc n) h = within_plus (within_sum n (λ i l. h i (omega arith))) (h n (omega arith))

  -- the nearest of t / (2 h): half a unit, and the error of t
  pub within_nearest : {e : ℕ} {t x : ℤ} (h : ℕ) → 0 < h → Within d e t x → Within (2 * h * d) (h * d + e) (nearest t (2 * h)) x
  within_nearest {e} {t} {x} h l k =
      let A = equal (! 0 ⊗ ! 1 ⊗ ! 2 ⊖ ! 3) (! 0 ⊗ (! 1 ⊗ ! 2) ⊖ ! 3) (nearest t (2 * h) ∷ pos (2 * h) ∷ pos d ∷ x ∷ []) (omega arith) in
      record { off = omega (arith, rounded_near t x (pos d) (2 * h) e (omega arith) k.off, ap nat_abs A) }
