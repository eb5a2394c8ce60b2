-- Numbers held where they are below 2^64.
use Rattle.std.proofs.Common.{◌≡◌, ℕ, zero, suc, ◌+◌, ◌-◌, ◌*◌, ◌^◌, ◌<◌, ◌≤◌, min, List, ◌++◌, length, get_or, take, drop, Option, Some, None, sym, ap, ◌∙◌, mul_assoc, mul-le-mul_right, pow-suc, pow-add, add-one, arith, leb, leb-false, leb-true, subst}
use native.Mathlib.Nat.{mul-le-mul, one-le-pow, pow-le-pow_right}
use Rattle.std.proofs.lemmas.List.{take-take, take-append-drop}
use Rattle.icgem_decimal.specs.Decimal.{value_of, Held}
use Rattle.icgem_decimal.proofs.Digits.{value_next, read_append, read_more}
use Rattle.icgem_decimal.proofs.Tests.{either}

pub ten_pos : (k : ℕ) → 0 < 10 ^ k
ten_pos k = one-le-pow k 10 (omega arith)

-- times a power of ten a number is no smaller
pub grown : (n k : ℕ) → n ≤ n * 10 ^ k
grown n k =
    let h : n ≤ n = omega arith in
    let g : 1 ≤ 10 ^ k = ten_pos k in
    omega (arith, mul-le-mul h g)

pub none_larger : (m n : ℕ) → m ≤ n → Held None m → Held None n
none_larger m n h g = λ l. g (omega arith)

-- ---- powers of ten
large_power : (n k : ℕ) → 1 ≤ n → 20 ≤ k → 2 ^ 64 ≤ n * 10 ^ k
large_power n k N K = omega (arith, mul-le-mul_right (10 ^ k) N, pow-le-pow_right {n = 10} (omega arith) K)

power_next : (n i : ℕ) → n * 10 ^ (i + 1) ≡ n * 10 ^ i * 10
power_next n i = rw (add-one, pow-suc 10 i) (sym (mul_assoc n (10 ^ i) 10))

-- two numbers of 2^64 or more are held alike
held_large : (o : Option ℕ) (m n : ℕ) → 2 ^ 64 ≤ m → 2 ^ 64 ≤ n → Held o m → Held o n
held_large None m n M N h = λ l. omega arith
held_large (Some v) m n M N h = absurd (omega (arith, h.0))

-- twenty tens and more are held alike, of any number
pub held_far : (o : Option ℕ) (n j k : ℕ) → 20 ≤ j → 20 ≤ k → Held o (n * 10 ^ j) → Held o (n * 10 ^ k)
held_far o zero j k J K h = let e : zero * 10 ^ j ≡ zero * 10 ^ k = omega arith in subst (Held o) e h
held_far o (suc n) j k J K h = held_large o _ _ (large_power (suc n) j (omega arith) J) (large_power (suc n) k (omega arith) K) h

pub raise_next : (n i p q : ℕ) → p ≡ n * 10 ^ i → q ≡ p * 10 → q ≡ n * 10 ^ (i + 1)
raise_next n i p q e f = f ∙ ap (λ (t : ℕ). t * 10) e ∙ sym (power_next n i)

-- a product that is too large stays so with more tens
pub raise_stops : (n i k p : ℕ) → i < k → p ≡ n * 10 ^ i → Held None (p * 10) → Held None (n * 10 ^ k)
raise_stops n i k p h e g =
    let f : i + 1 + (k - (i + 1)) ≡ k = omega arith in
    let q : n * 10 ^ k ≡ n * 10 ^ (i + 1) * 10 ^ (k - (i + 1)) = ap (λ (j : ℕ). n * 10 ^ j) (sym f) ∙ ap (λ (t : ℕ). n * t) (pow-add 10 (i + 1) (k - (i + 1))) ∙ sym (mul_assoc n _ _) in
    none_larger (p * 10) (n * 10 ^ k) (omega (arith, q, e, power_next n i, grown (n * 10 ^ (i + 1)) (k - (i + 1)))) g

-- twenty tens are enough
pub raised_all : (n k p : ℕ) → p ≡ n * 10 ^ min k 20 → p < 2 ^ 64 → Held (Some p) (n * 10 ^ k)
raised_all zero k p e h = (omega arith, omega arith)
raised_all (suc n) k p e h =
    either (leb 20 k)
    (λ t. let l = leb-true 20 k t in absurd (omega (arith, large_power (suc n) (min k 20) (omega arith) (omega arith))))
    (λ t. let l = leb-false 20 k t in let q : min k 20 ≡ k = omega arith in subst (λ (j : ℕ). (suc n * 10 ^ j < 2 ^ 64) × (p ≡ suc n * 10 ^ j)) q (omega arith, e))

-- ---- digits read on
value_up : (l : List ℕ) (i j : ℕ) → i ≤ j → value_of (take i l) ≤ value_of (take j l)
value_up l i j h =
    let rest = drop i (take j l) in
    let e : value_of (take j l) ≡ value_of (take i l) * 10 ^ length rest + value_of rest =
    ap value_of (sym (take-append-drop i (take j l))) ∙ ap (λ (t : List ℕ). value_of (t ++ rest)) (take-take i j l h) ∙ read_append 0 (take i l) rest ∙ read_more (value_of (take i l)) rest in
    omega (arith, e, grown (value_of (take i l)) (length rest))

module _ (l : List ℕ) (i count n : ℕ) (h : i < count) (g : count ≤ length l) (e : n ≡ value_of (take i l)) where
  pub tens_stop : Held None (n * 10) → Held None (value_of (take count l))
  tens_stop m = none_larger (n * 10) _ (omega (arith, e, value_next l i (omega arith), value_up l (i + 1) count (omega arith))) m

  pub digits_stop : (d : ℕ) → d ≡ get_or l i 0 - 48 → Held None (n * 10 + d) → Held None (value_of (take count l))
  digits_stop d f m = none_larger (n * 10 + d) _ (omega (arith, e, f, value_next l i (omega arith), value_up l (i + 1) count (omega arith))) m
