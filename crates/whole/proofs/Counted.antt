-- Counted tests and counted absolute values: none, one more, and what a whole count says of one.
use mathlib.Core.Path.{◌≡◌, refl, subst}
use mathlib.Core.Bool.{Bool, true, ◌&&◌}
use mathlib.Core.Logic.{⊎_elim}
use Prim.Native.Nat.{ℕ, zero, suc, ◌+◌, ◌≤◌, ◌<◌}
use native.Mathlib.Nat.{eq-or-lt_of_le, le_of_suc-le-suc}
use native.Mathlib.Numerals.{add-one}
use native.Mathlib.Omega.{arith}
use lib.IntN.{ℤ, nat_abs}
use Rattle.whole.specs.Sum.{weight_to, all_to}
use Rattle.whole.proofs.Tests.{and_left, and_right}

pub all_none : (f : ℕ → Bool) → true ≡ all_to f 0
unfolding all_to
all_none f = refl

pub all_more : (f : ℕ → Bool) (i : ℕ) {a b : Bool} → a ≡ all_to f i → b ≡ f i → (a && b) ≡ all_to f (i + 1)
unfolding all_to
all_more f i e h = rw (e, h, add-one)

pub all_at : (f : ℕ → Bool) (n : ℕ) → all_to f n ≡ true → (i : ℕ) → i < n → f i ≡ true
unfolding all_to
all_at f zero e i h = absurd (omega arith)
all_at f (suc n) e i h =
    ⊎_elim (λ q. subst (λ (k : ℕ). f k ≡ true) (omega arith) (and_right (all_to f n) (f n) e)) (λ l. all_at f n (and_left (all_to f n) (f n) e) i l)
    (eq-or-lt_of_le (le_of_suc-le-suc h))

pub all_of : (f : ℕ → Bool) (n : ℕ) → ((i : ℕ) → i < n → f i ≡ true) → all_to f n ≡ true
unfolding all_to
all_of f zero h = refl
all_of f (suc n) h = rw (all_of f n (λ i l. h i (omega arith)), h n (omega arith)) refl

-- of equal tests
pub all_same : (f g : ℕ → Bool) (n : ℕ) → ((i : ℕ) → i < n → f i ≡ g i) → all_to f n ≡ all_to g n
unfolding all_to
all_same f g zero h = refl
all_same f g (suc n) h = rw (all_same f g n (λ i l. h i (omega arith)), h n (omega arith)) refl

pub weight_none : (f : ℕ → ℤ) → 0 ≡ weight_to f 0
unfolding weight_to
weight_none f = refl

pub weight_more : (f : ℕ → ℤ) (i : ℕ) {a b : ℕ} → a ≡ weight_to f i → b ≡ nat_abs (f i) → a + b ≡ weight_to f (i + 1)
unfolding weight_to
weight_more f i e h = rw (e, h, add-one)

pub weight_grows : (f : ℕ → ℤ) (i n : ℕ) → i ≤ n → weight_to f i ≤ weight_to f n
unfolding weight_to
weight_grows f i zero h = let e : i ≡ 0 = omega arith in rw e (omega arith)
weight_grows f i (suc n) h = ⊎_elim (λ e. rw e (omega arith)) (λ l. omega (arith, weight_grows f i n (le_of_suc-le-suc l))) (eq-or-lt_of_le h)

-- of equal terms
pub weight_same : (f g : ℕ → ℤ) (n : ℕ) → ((i : ℕ) → i < n → f i ≡ g i) → weight_to f n ≡ weight_to g n
unfolding weight_to
weight_same f g zero h = refl
weight_same f g (suc n) h = rw (weight_same f g n (λ i l. h i (omega arith)), h n (omega arith)) refl
