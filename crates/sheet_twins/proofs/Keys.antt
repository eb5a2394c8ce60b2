-- What digits of base 27 write tells them.
use mathlib.Core.List.{List}
use mathlib.Core.Path.{◌≡◌, refl, sym, subst, ◌∙◌}
use mathlib.Core.Logic.{⊎_elim}
use Prim.Native.Nat.{ℕ, zero, suc, ◌+◌, ◌^◌, ◌≤◌, ◌<◌}
use native.Mathlib.Nat.{eq-or-lt_of_le, le_of_suc-le-suc, pow-zero, pow-suc}
use native.Mathlib.Omega.{arith}
use lib.IntN.{ℤ, pos, negsuc, nat_abs, ◌+ℤ◌}
use lib.ListN.{set, length-set, replicate, length-replicate, get_or-replicate}
use lib.Seq.{get_or-set_other}
use Rattle.whole.proofs.Listed.{stored}
use Rattle.whole.proofs.Parts.{up, dn, same, sum, abs, abs_sum}
use Rattle.sheet_twins.specs.Inner.{digit, written, key, no_key, Keyed}

-- ---- a digit
pub digit_small : (k : ℤ) → nat_abs k ≤ 13 → digit k ≤ 26
unfolding digit
digit_small k h = omega (arith, abs_sum k (pos 13))

raised_up : (k : ℤ) → nat_abs k ≤ 13 → dn (k +ℤ pos 13) ≤ up (k +ℤ pos 13)
raised_up k h = omega (arith, sum k (pos 13), abs k)

digit_up : (z : ℤ) → dn z ≤ up z → nat_abs z ≡ up z
digit_up (pos n) h = omega arith
digit_up (negsuc n) h = absurd (omega arith)

up_only : (z : ℤ) → dn z ≤ up z → dn z ≡ 0
up_only (pos n) h = omega arith
up_only (negsuc n) h = absurd (omega arith)

digit_one : (j k : ℤ) → nat_abs j ≤ 13 → nat_abs k ≤ 13 → digit j ≡ digit k → j ≡ k
unfolding digit
digit_one j k h g e =
    let a = j +ℤ pos 13 in
    let b = k +ℤ pos 13 in
    let p = raised_up j h in
    let q = raised_up k g in
    same j k (omega (arith, e, sum j (pos 13), sum k (pos 13), digit_up a p, digit_up b q, up_only a p, up_only b q))

-- ---- several of them
-- the first n in range
module _ (k : ℕ → ℤ) where
  pub written_small : (n : ℕ) → ((i : ℕ) → i < n → nat_abs (k i) ≤ 13) → written k n < 27 ^ n
  unfolding written
  written_small zero h = rw (pow-zero 27) (omega arith)
  written_small (suc n) h = rw (pow-suc 27 n) (omega (arith, written_small n (λ i l. h i (omega arith)), digit_small (k n) (h n (omega arith))))

-- numbers that write the same are the same
pub written_one : (j k : ℕ → ℤ) (n : ℕ) → ((i : ℕ) → i < n → nat_abs (j i) ≤ 13) → ((i : ℕ) → i < n → nat_abs (k i) ≤ 13) → written j n ≡ written k n → (i : ℕ) → i < n → j i ≡ k i
unfolding written
written_one j k zero h g e i l = absurd (omega arith)
written_one j k (suc n) h g e i l =
    let d = digit_small (j n) (h n (omega arith)) in
    let b = digit_small (k n) (g n (omega arith)) in
    ⊎_elim (λ q. subst (λ (m : ℕ). j m ≡ k m) (sym q) (digit_one (j n) (k n) (h n (omega arith)) (g n (omega arith)) (omega (arith, e, d, b))))
    (λ m. written_one j k n (λ o q. h o (omega arith)) (λ o q. g o (omega arith)) (omega (arith, e, d, b)) i m) (eq-or-lt_of_le (le_of_suc-le-suc l))

-- of the same numbers the same is written
pub written_same : (j k : ℕ → ℤ) (n : ℕ) → ((i : ℕ) → i < n → j i ≡ k i) → written j n ≡ written k n
unfolding written
written_same j k zero h = refl
written_same j k (suc n) h = rw (written_same j k n (λ i l. h i (omega arith)), h n (omega arith)) refl

-- ---- a list of them, filled from the front
pub keyed_none : (sheet : List ℕ) → Keyed sheet 0 (replicate 136 no_key)
keyed_none sheet = record {
  length = length-replicate 136 no_key;
  line = λ f h. absurd (omega arith);
  after = λ f h g. get_or-replicate 136 f no_key 0 g;
}

pub keyed_more : (sheet : List ℕ) (n : ℕ) (keys : List ℕ) {v : ℕ} → Keyed sheet n keys → n < 136 → v ≡ key sheet n → Keyed sheet (n + 1) (set keys n v)
keyed_more sheet n keys {v} K h e = record {
  length = length-set keys n v ∙ K.length;
  line = stored 0 (key sheet) n keys K.line (omega (arith, K.length)) e;
  after = λ f k g. get_or-set_other keys n f v 0 (λ q. omega arith) ∙ K.after f (omega arith) g;
}
