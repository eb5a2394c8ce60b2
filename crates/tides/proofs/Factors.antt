-- Factors worked out from raised waves are the factors of the waves.
use mathlib.Core.List.{List}
use mathlib.Core.Path.{◌≡◌, ap, sym, subst, ◌∙◌}
use Prim.Native.Nat.{ℕ, ◌^◌, ◌≤◌}
use native.Mathlib.Omega.{arith}
use lib.IntN.{ℤ, pos, nat_abs, ◌*ℤ◌}
use Rattle.whole.proofs.Parts.{abs_sum}
use Rattle.whole.proofs.Sums.{sum_same}
use Rattle.whole.specs.Nearest.{nearest}
use Rattle.sheet.specs.Sheet.{line_count, tide_count, admittance}
use Rattle.sheet.proofs.Acceptance.{Accepted}
use Rattle.tides.specs.Tides.{line_sum, factor}
use Rattle.tides.specs.Inner.{lowered, Raised, Lists, Sized, Bounded}
use Rattle.tides.proofs.Lowering.{lowered_is}
use Rattle.tides.proofs.Sizes.{factor_size}

module _ (s : List ℕ) (w : ℕ → ℤ) (small : (f : ℕ) → nat_abs (w f) ≤ 2 ^ 30) (waves : List ℕ) (H : Raised w (line_count s) waves) where
  pub waves_bounded : Bounded (line_count s) waves
  waves_bounded = record { each = λ f h. subst (λ (n : ℕ). n ≤ 2 ^ 31) (sym (H.each f h)) (omega (arith, abs_sum (w f) (pos (2 ^ 30)), small f)) }

  same_factor : (k : ℕ) → factor s (lowered waves) k ≡ factor s w k
  unfolding factor line_sum
  same_factor k =
      ap (λ (z : ℤ). nearest z (10 ^ 6))
      (sum_same (λ f. admittance s k f *ℤ lowered waves f) (λ f. admittance s k f *ℤ w f) (line_count s) (λ f h. ap (λ (z : ℤ). admittance s k f *ℤ z) (lowered_is w small H f h)))

  pub factors_are : {v : ℕ → ℤ} → Lists (factor s (lowered waves)) (tide_count s) v → Lists (factor s w) (tide_count s) v
  factors_are G = record { each = λ k h. G.each k h ∙ same_factor k }

-- the factors of an accepted sheet
pub factors_sized : {s : List ℕ} (A : Accepted s) (w : ℕ → ℤ) (small : (f : ℕ) → nat_abs (w f) ≤ 2 ^ 30) {v : ℕ → ℤ} → Lists (factor s w) (tide_count s) v → Sized 32 (tide_count s) v
factors_sized A w small G = record { each = λ k h. subst (λ (z : ℤ). nat_abs z ≤ 2 ^ 32) (sym (G.each k h)) (factor_size A w (λ f l. small f) k h) }
