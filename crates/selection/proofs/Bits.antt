-- The bits of a number, lowest first: their count is the count of ones, a number made of bits has those it was made of, and the bits from k on are
-- all clear exactly where the number is below 2 ^ k.
use mathlib.Core.Bool.{Bool, true, false, cond}
use mathlib.Core.Path.{◌≡◌, refl, sym, ap, ◌∙◌}
use Prim.Native.Nat.{ℕ, zero, suc, ◌+◌, ◌*◌, ◌/◌, ◌%◌, ◌^◌, ◌≤◌, ◌<◌}
use native.Mathlib.Nat.{div-one, div-eq_of_lt, pow-suc}
use native.Mathlib.Numerals.{one-add}
use native.Mathlib.Omega.{arith}
use lib.Arith.{bin_ind}
use lib.Count.{ones, ones_step}
use lib.Dec.{eqb}
use lib.Pow.{pow_mono, shr-shr}
use Rattle.whole.specs.Sum.{count_to}
use Rattle.selection.specs.Selection.{names, selection_of}

-- ---- one bit and the rest
abbrev bit : Bool → ℕ
bit b = cond b 1 0

bit_most : (b : Bool) → bit b < 2
bit_most true = omega arith
bit_most false = omega arith

of_bit : (r : ℕ) → r < 2 → r ≡ bit (eqb r 1)
of_bit zero h = refl
of_bit (suc zero) h = refl
of_bit (suc (suc r)) h = absurd (omega arith)

is_bit : (b : Bool) → eqb (bit b) 1 ≡ b
is_bit true = refl
is_bit false = refl

lowest : (n : ℕ) → n % 2 ≡ bit (names n 0)
unfolding names
lowest n = of_bit (n % 2) (omega arith) ∙ ap (λ (x : ℕ). bit (eqb (x % 2) 1)) (sym (div-one n))

above_lowest : (n i : ℕ) → names n (suc i) ≡ names (n / 2) i
unfolding names
above_lowest n i = ap (λ (x : ℕ). eqb (x % 2) 1) (sym (shr-shr n 1 i ∙ ap (λ (x : ℕ). n / 2 ^ x) (one-add i)))

-- ---- how many bits are set
count_same : (f g : ℕ → Bool) (n : ℕ) → ((i : ℕ) → i < n → f i ≡ g i) → count_to f n ≡ count_to g n
unfolding count_to
count_same f g zero h = refl
count_same f g (suc n) h = rw (count_same f g n (λ i l. h i (omega arith)), h n (omega arith)) refl

pub count_most : (f : ℕ → Bool) (n : ℕ) → count_to f n ≤ n
unfolding count_to
count_most f zero = omega arith
count_most f (suc n) = omega (arith, count_most f n, bit_most (f n))

count_first : (f : ℕ → Bool) (n : ℕ) → count_to f (suc n) ≡ bit (f 0) + count_to (λ i. f (suc i)) n
unfolding count_to
count_first f zero = omega arith
count_first f (suc n) = ap (λ (x : ℕ). x + bit (f (suc n))) (count_first f n) ∙ omega arith

pub ones_counted : (k n : ℕ) → n < 2 ^ k → ones n ≡ count_to (names n) k
unfolding ones count_to
ones_counted zero zero h = refl
ones_counted zero (suc n) h = absurd (omega arith)
ones_counted (suc k) n h =
    ones_step n
    ∙ rw (lowest n, ones_counted k (n / 2) (omega (arith, pow-suc 2 k)), ← count_same (λ i. names n (suc i)) (names (n / 2)) k (λ i l. above_lowest n i)) refl
    ∙ sym (count_first (names n) k)

-- ---- a number made of bits
bits_first : (chosen : ℕ → Bool) (n : ℕ) → selection_of chosen (suc n) ≡ bit (chosen 0) + selection_of (λ i. chosen (suc i)) n * 2
unfolding selection_of
bits_first chosen zero = by (chosen 0)
  where
    by : (b : Bool) → 0 + cond b (2 ^ 0) 0 ≡ bit b + 0 * 2
    by true = refl
    by false = refl
bits_first chosen (suc n) = ap (λ (x : ℕ). x + cond (chosen (suc n)) (2 ^ suc n) 0) (bits_first chosen n) ∙ by (chosen (suc n))
  where
    by : (b : Bool) → bit (chosen 0) + selection_of (λ i. chosen (suc i)) n * 2 + cond b (2 ^ suc n) 0 ≡ bit (chosen 0) + (selection_of (λ i. chosen (suc i)) n + cond b (2 ^ n) 0) * 2
    by true = omega (arith, pow-suc 2 n)
    by false = omega arith

pub made_of : (chosen : ℕ → Bool) (n i : ℕ) → i < n → names (selection_of chosen n) i ≡ chosen i
unfolding names
made_of chosen zero i h = absurd (omega arith)
made_of chosen (suc n) zero h =
    let m = selection_of (λ i. chosen (suc i)) n in
    ap (λ (x : ℕ). eqb (x % 2) 1) (div-one (selection_of chosen (suc n)) ∙ bits_first chosen n)
    ∙ ap (λ (x : ℕ). eqb x 1) (let r : (bit (chosen 0) + m * 2) % 2 ≡ bit (chosen 0) = omega (arith, bit_most (chosen 0)) in r)
    ∙ is_bit (chosen 0)
made_of chosen (suc n) (suc i) h =
    let m = selection_of (λ i. chosen (suc i)) n in
    above_lowest (selection_of chosen (suc n)) i
    ∙ ap (λ (x : ℕ). names x i) (ap (λ (x : ℕ). x / 2) (bits_first chosen n) ∙ (let q : (bit (chosen 0) + m * 2) / 2 ≡ m = omega (arith, bit_most (chosen 0)) in q))
    ∙ made_of (λ i. chosen (suc i)) n i (omega arith)

-- ---- the bits from k on
pub clear_above : (k n : ℕ) → n < 2 ^ k → (i : ℕ) → k ≤ i → names n i ≡ false
unfolding names
clear_above k n h i l =
    let small : n < 2 ^ i = omega (arith, pow_mono l) in
    ap (λ (x : ℕ). eqb (x % 2) 1) (div-eq_of_lt small)

lowest_clear : (n : ℕ) → names n 0 ≡ false → n % 2 ≡ 0
lowest_clear n e = lowest n ∙ ap bit e

all_clear : (n : ℕ) → ((i : ℕ) → names n i ≡ false) → n ≡ 0
all_clear =
    bin_ind (λ (n : ℕ). ((i : ℕ) → names n i ≡ false) → n ≡ 0) (λ h. refl)
    (λ n ih h. let half = ih (λ i. sym (above_lowest n i) ∙ h (suc i)) in omega (arith, half, lowest_clear n (h 0)))

pub below : (k n : ℕ) → ((i : ℕ) → k ≤ i → names n i ≡ false) → n < 2 ^ k
below zero n h = let e = all_clear n (λ i. h i (omega arith)) in omega (arith, e)
below (suc k) n h = let b = below k (n / 2) (λ i l. sym (above_lowest n i) ∙ h (suc i) (omega arith)) in omega (arith, b, pow-suc 2 k)
