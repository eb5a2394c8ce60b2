-- Sums over a counted run of terms.
use mathlib.Core.Path.{◌≡◌, refl, ap, ◌∙◌}
use Prim.Native.Nat.{ℕ, zero, suc, ◌+◌, ◌<◌}
use native.Mathlib.Numerals.{add-one}
use native.Mathlib.Omega.{arith}
use mathlib.Core.List.{[], ◌∷◌}
use lib.IntN.{ℤ, neg_ℤ, ◌+ℤ◌}
use Rattle.whole.specs.Sum.{sum_to}
use Rattle.whole.proofs.Ring.{equal, !, ⊝, ◌⊕◌}

-- one more term, as a loop counts
pub sum_next : (f : ℕ → ℤ) (n : ℕ) → sum_to f (n + 1) ≡ sum_to f n +ℤ f n
unfolding sum_to
sum_next f n = rw (add-one n) refl

-- sums of equal terms
pub sum_same : (f g : ℕ → ℤ) (n : ℕ) → ((i : ℕ) → i < n → f i ≡ g i) → sum_to f n ≡ sum_to g n
unfolding sum_to
sum_same f g zero h = refl
sum_same f g (suc n) h = rw (sum_same f g n (λ i l. h i (omega arith)), h n (omega arith)) refl

-- a sum of two kinds of term is the sum of their sums
pub sum_plus : (f g : ℕ → ℤ) (n : ℕ) → sum_to (λ i. f i +ℤ g i) n ≡ sum_to f n +ℤ sum_to g n
unfolding sum_to
sum_plus f g zero = refl
sum_plus f g (suc n) =
    ap (λ (z : ℤ). z +ℤ (f n +ℤ g n)) (sum_plus f g n)
    ∙ equal (! 0 ⊕ ! 1 ⊕ (! 2 ⊕ ! 3)) (! 0 ⊕ ! 2 ⊕ (! 1 ⊕ ! 3)) (sum_to f n ∷ sum_to g n ∷ f n ∷ g n ∷ []) (omega arith)

-- a sum of reversed terms is the sum reversed
pub sum_reversed : (f : ℕ → ℤ) (n : ℕ) → sum_to (λ i. neg_ℤ (f i)) n ≡ neg_ℤ (sum_to f n)
unfolding sum_to
sum_reversed f zero = refl
sum_reversed f (suc n) =
    ap (λ (z : ℤ). z +ℤ neg_ℤ (f n)) (sum_reversed f n) ∙ equal (⊝ (! 0) ⊕ ⊝ (! 1)) (⊝ (! 0 ⊕ ! 1)) (sum_to f n ∷ f n ∷ []) (omega arith)
