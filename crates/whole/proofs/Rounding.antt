-- What is known of `nearest`, and all that proofs cite of it, but where a case is computed. Which way a half goes stands in the laws down to `only_nearest`.
use mathlib.Core.Path.{◌≡◌, refl, sym, ap, ◌∙◌}
use Prim.Native.Nat.{ℕ, zero, suc, ◌+◌, ◌*◌, ◌/◌, ◌≤◌, ◌<◌}
use mathlib.Core.Logic.{⊎_elim}
use native.Mathlib.Nat.{eq-or-lt_of_le, mul-le-mul_left, lt_of_mul-lt-mul_left, div-mul-le_self, lt-div-mul-add, div-eq_of_lt, div-div-eq-div-mul}
use native.Mathlib.Omega.{arith}
use mathlib.Core.List.{[], ◌∷◌}
use lib.IntN.{ℤ, pos, negsuc, neg_ℤ, nat_abs, ◌-ℤ◌, ◌*ℤ◌, -ℤ-+ℤ_cancel, neg_ℤ-neg_ℤ}
use Rattle.whole.specs.Nearest.{half_up, nearest, NearestTo}
use Rattle.whole.proofs.Parts.{up, dn, difference, product, abs, abs_neg, abs_twice, abs_sum, abs_product}
use Rattle.whole.proofs.Ring.{equal, !, ⊝, ◌⊕◌, ◌⊖◌, ◌⊗◌}

-- of nothing
pub nearest_zero : (n : ℕ) → 0 < n → nearest (pos 0) n ≡ pos 0
unfolding nearest
nearest_zero n l = ap pos (div-eq_of_lt (omega arith))

-- the nearest of minus a number is minus its nearest
pub nearest_reversed : (z : ℤ) (n : ℕ) → 0 < n → nearest (neg_ℤ z) n ≡ neg_ℤ (nearest z n)
unfolding nearest
nearest_reversed (pos zero) n l = nearest_zero n l ∙ sym (ap neg_ℤ (nearest_zero n l))
nearest_reversed (pos (suc a)) n l = refl
nearest_reversed (negsuc a) n l = sym (neg_ℤ-neg_ℤ (pos (half_up (suc a) n)))

-- of a number that is not negative: half the divisor is added
pub nearest_above : (a n : ℕ) → nearest (pos a) n ≡ pos ((a + n / 2) / n)
unfolding nearest
nearest_above a n =
    let whole : (2 * a + n) / 2 ≡ a + n / 2 = omega arith in
    ap pos (sym (div-div-eq-div-mul (2 * a + n) 2 n) ∙ ap (λ (k : ℕ). k / n) whole)

-- of one that is not positive: half the divisor is added to its size
pub nearest_below : (a n : ℕ) → 0 < n → nearest (neg_ℤ (pos a)) n ≡ neg_ℤ (pos ((a + n / 2) / n))
nearest_below a n l = nearest_reversed (pos a) n l ∙ ap neg_ℤ (nearest_above a n)

-- ---- the nearest is within one half, and away from zero where it is a half; no other whole number is
-- the same of both numbers with the other sign
nearest_to_reversed : (z : ℤ) (n : ℕ) (r : ℤ) → NearestTo z n r → NearestTo (neg_ℤ z) n (neg_ℤ r)
nearest_to_reversed z n r h =
    let off : nat_abs (neg_ℤ r *ℤ pos n -ℤ neg_ℤ z) ≡ nat_abs (r *ℤ pos n -ℤ z) =
    ap nat_abs (equal (⊝ (! 0) ⊗ ! 1 ⊖ ⊝ (! 2)) (⊝ (! 0 ⊗ ! 1 ⊖ ! 2)) (r ∷ pos n ∷ z ∷ []) (omega arith)) ∙ abs_neg (r *ℤ pos n -ℤ z) in
    record { near = rw off h.near; away = rw (off, abs_neg z, abs_neg r) h.away }

-- of a number that is not negative: w is how far m lies above a
module _ (a n m : ℕ) (l : 0 < n) where
  larger : (w : ℤ) → up w + a ≡ dn w + m → 2 * a < 2 * m + n → 2 * nat_abs w ≡ n → a < m
  larger (pos k) e h half = omega arith
  larger (negsuc k) e h half = absurd (omega arith)

  between : (w : ℤ) → up w + a ≡ dn w + m → 2 * nat_abs w ≤ n → (2 * nat_abs w ≡ n → a < m) → (2 * m ≤ 2 * a + n) × (2 * a < 2 * m + n)
  between (pos k) e near away = (omega arith, omega arith)
  between (negsuc k) e near away =
      (omega arith, ⊎_elim (λ half. absurd (omega (arith, away half))) (λ less. omega (arith, less)) (eq-or-lt_of_le near))

above : (a n : ℕ) → 0 < n → NearestTo (pos a) n (pos (half_up a n))
above a n l =
    let q = half_up a n in
    let w = pos (q * n) -ℤ pos a in
    let D = difference (pos (q * n)) (pos a) in
    let floor = div-mul-le_self (2 * a + n) (2 * n) in
    let roof = lt-div-mul-add {a = 2 * a + n} {b = 2 * n} (omega arith) in
    record {
      near = abs_twice w n (omega arith) (omega arith);
      away = larger a n (q * n) l w (omega arith) (omega arith);
    }

only_above : (a n : ℕ) (r : ℤ) → 0 < n → NearestTo (pos a) n r → r ≡ pos (half_up a n)
only_above a n (pos k) l h =
    let q = half_up a n in
    let b = between a n (k * n) l (pos (k * n) -ℤ pos a) (omega (arith, difference (pos (k * n)) (pos a))) h.near h.away in
    let floor = div-mul-le_self (2 * a + n) (2 * n) in
    let roof = lt-div-mul-add {a = 2 * a + n} {b = 2 * n} (omega arith) in
    let below : 2 * n * k < 2 * n * (q + 1) = omega (arith, b.0) in
    let over : 2 * n * q < 2 * n * (k + 1) = omega (arith, b.1) in
    ap pos (omega (arith, lt_of_mul-lt-mul_left (2 * n) below, lt_of_mul-lt-mul_left (2 * n) over))
only_above a n (negsuc k) l h =
    let z = negsuc k *ℤ pos n in
    absurd (omega (arith, h.near, difference z (pos a), product (negsuc k) (pos n), abs (z -ℤ pos a)))

pub is-nearest : (z : ℤ) (n : ℕ) → 0 < n → NearestTo z n (nearest z n)
unfolding nearest
is-nearest (pos a) n l = above a n l
is-nearest (negsuc a) n l = nearest_to_reversed (pos (suc a)) n (pos (half_up (suc a) n)) (above (suc a) n l)

pub only_nearest : (z : ℤ) (n : ℕ) (r : ℤ) → 0 < n → NearestTo z n r → r ≡ nearest z n
unfolding nearest
only_nearest (pos a) n r l h = only_above a n r l h
only_nearest (negsuc a) n r l h = sym (neg_ℤ-neg_ℤ r) ∙ ap neg_ℤ (only_above (suc a) n (neg_ℤ r) l (nearest_to_reversed (negsuc a) n r h))

-- the nearest is within one half
pub nearest_near : (z : ℤ) (n : ℕ) → 0 < n → 2 * nat_abs (nearest z n *ℤ pos n -ℤ z) ≤ n
nearest_near z n l = (is-nearest z n l).near

-- the nearest of at most k is at most k
pub nearest_size : (z : ℤ) (n k : ℕ) → 0 < n → nat_abs z ≤ k * n → nat_abs (nearest z n) ≤ k
nearest_size z n k l h =
    let r = nearest z n in
    let near : 2 * (nat_abs r * n) ≤ 2 * (k * n) + n =
    omega (arith, nearest_near z n l, abs_product r (pos n), abs_sum (r *ℤ pos n -ℤ z) z, ap nat_abs (-ℤ-+ℤ_cancel (r *ℤ pos n) z)) in
    let strict : n * (2 * nat_abs r) < n * (2 * k + 2) = omega (arith, near) in
    omega (arith, lt_of_mul-lt-mul_left n strict)

-- a rounded sum, nearest(t / n), against the exact u / (n * d): half a unit, and the sum's own error
pub rounded_near : (t u d : ℤ) (n e : ℕ) → 0 < n → nat_abs (t *ℤ d -ℤ u) ≤ e → 2 * nat_abs (nearest t n *ℤ pos n *ℤ d -ℤ u) ≤ n * nat_abs d + 2 * e
rounded_near t u d n e l h =
    rw (equal (! 0 ⊗ ! 1 ⊗ ! 2 ⊖ ! 3) ((! 0 ⊗ ! 1 ⊖ ! 4) ⊗ ! 2 ⊕ (! 4 ⊗ ! 2 ⊖ ! 3)) (nearest t n ∷ pos n ∷ d ∷ u ∷ t ∷ []) (omega arith))
    (omega (arith, abs_sum ((nearest t n *ℤ pos n -ℤ t) *ℤ d) (t *ℤ d -ℤ u), abs_product (nearest t n *ℤ pos n -ℤ t) d, mul-le-mul_left (nat_abs d) (nearest_near t n l)))
