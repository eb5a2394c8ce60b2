-- The sizes of sums and corrections, which leave 64 bits ample room; and a sum with one line more. Lines have amplitudes of at most m counts, and waves
-- are signed 32-bit numbers.
use mathlib.Core.Path.{◌≡◌, refl, sym, ◌∙◌}
use Prim.Native.Nat.{ℕ, zero, suc, ◌+◌, ◌*◌, ◌^◌, ◌≤◌, ◌<◌}
use native.Mathlib.Nat.{mul-le-mul_right}
use native.Mathlib.Numerals.{add-one}
use native.Mathlib.Omega.{arith}
use lib.IntN.{ℤ, pos, nat_abs, ◌+ℤ◌}
use lib.ListN.{get_or}
use mir.Syntax.{w64}
use mir.Facts.{to_z-of_z}
use Rattle.whole.specs.Nearest.{nearest}
use Rattle.whole.specs.Sum.{sum_to}
use Rattle.whole.proofs.Machine.{read}
use Rattle.whole.proofs.Parts.{abs_sum, fits_abs}
use Rattle.whole.proofs.Rounding.{nearest_size}
use Rattle.whole.proofs.Sums.{sum_next}
use Rattle.bands.specs.declared.Corrections.{Corrections}
use Rattle.bands.specs.declared.Line.{Line}
use Rattle.bands.specs.declared.Sums.{Sums}
use Rattle.bands.specs.Bands.{Coefficient, C20, C21, S21, C22, S22, term, plus_line, sum_of, correction_of, corrections_of, for_c, for_s}
use Rattle.bands.specs.Inner.{Light, LineRoom, sums_of, Bounded, rounded_of, Small}
use Rattle.bands.proofs.Terms.{term_size}

-- one line more
module _ (lines : ℕ → Line) (C S : ℕ → ℤ) (m i : ℕ) (light : Light m (lines i)) (hc : nat_abs (C i) ≤ 2 ^ 31) (hs : nat_abs (S i) ≤ 2 ^ 31) where
  pub sum_grows : (k : Coefficient) → nat_abs (sum_of lines C S i k) ≤ i * (m * 2 ^ 32) → nat_abs (sum_of lines C S (i + 1) k) ≤ (i + 1) * (m * 2 ^ 32)
  unfolding sum_of
  sum_grows k h =
      let t = term k (lines i) (C i) (S i) in
      rw (sum_next (λ j. term k (lines j) (C j) (S j)) i)
      (omega (
        arith,
        abs_sum (sum_to (λ j. term k (lines j) (C j) (S j)) i) t,
        term_size k (lines i) (C i) (S i) (2 ^ 31) hc hs,
        mul-le-mul_right (2 ^ 31) light.ip,
        mul-le-mul_right (2 ^ 31) light.op,
      ))

pub none_yet : (lines : ℕ → Line) (C S : ℕ → ℤ) (m : ℕ) (k : Coefficient) → nat_abs (sum_of lines C S 0 k) ≤ 0 * (m * 2 ^ 32)
unfolding sum_of sum_to
none_yet lines C S m k = omega arith

pub sum-small : (lines : ℕ → Line) (C S : ℕ → ℤ) (m n : ℕ) → ((i : ℕ) → i < n → Light m (lines i)) → ((i : ℕ) → nat_abs (C i) ≤ 2 ^ 31) → ((i : ℕ) → nat_abs (S i) ≤ 2 ^ 31)
    → (k : Coefficient) → nat_abs (sum_of lines C S n k) ≤ n * (m * 2 ^ 32)
sum-small lines C S m zero light hc hs k = none_yet lines C S m k
sum-small lines C S m (suc n) light hc hs k =
    rw (add-one n) at (sum_grows lines C S m n (light n (omega arith)) (hc n) (hs n) k (sum-small lines C S m n (λ i l. light i (omega arith)) hc hs k))

pub sums_next : (lines : ℕ → Line) (C S : ℕ → ℤ) (n : ℕ) → plus_line (sums_of (sum_of lines C S n)) (lines n) (C n) (S n) ≡ sums_of (sum_of lines C S (n + 1))
unfolding plus_line sums_of sum_of
sums_next lines C S n =
    let next : (k : Coefficient) → sum_to (λ i. term k (lines i) (C i) (S i)) n +ℤ term k (lines n) (C n) (S n) ≡ sum_to (λ i. term k (lines i) (C i) (S i)) (n + 1)
    = λ k. sym (sum_next (λ i. term k (lines i) (C i) (S i)) n) in
    λ j. record { c20 = next C20 j; c21 = next C21 j; s21 = next S21 j; c22 = next C22 j; s22 = next S22 j }

-- 64 lines of 2^24 counts have room
room : (m i : ℕ) → m ≤ 2 ^ 24 → i ≤ 64 → i * (m * 2 ^ 32) ≤ 2 ^ 62
room m i hm h = omega (arith, mul-le-mul_right (m * 2 ^ 32) h, mul-le-mul_right (2 ^ 32) hm)

pub lighter : {m : ℕ} {line : Line} → m ≤ 2 ^ 24 → Light m line → Light (2 ^ 24) line
lighter h light = record { ip = omega (arith, light.ip); op = omega (arith, light.op) }

-- the five sums of i lines, as a loop has them, with the next line and its waves
module _ (lines : ℕ → Line) (C S : ℕ → ℤ) (m i : ℕ) (hm : m ≤ 2 ^ 24) (h : i ≤ 64) {sums : Sums} (E : sums ≡ sums_of (sum_of lines C S i))
    (most : (k : Coefficient) → nat_abs (sum_of lines C S i k) ≤ i * (m * 2 ^ 32))
  where
    pub bounded : Bounded sums
    unfolding sums_of
    bounded =
        let M : (k : Coefficient) → nat_abs (sum_of lines C S i k) ≤ 2 ^ 62 = λ k. omega (arith, most k, room m i hm h) in
        rw E (record { c20 = M C20; c21 = M C21; s21 = M S21; c22 = M C22; s22 = M S22 })

    pub line_room : {line : Line} {c s : ℤ} → line ≡ lines i → c ≡ C i → s ≡ S i → Light m (lines i) → nat_abs (C i) ≤ 2 ^ 31 → nat_abs (S i) ≤ 2 ^ 31 → LineRoom sums line c s
    line_room l x y light hc hs = record { sums_small = bounded; line_small = rw l (lighter hm light); cosine-small = rw x hc; sine-small = rw y hs }

    pub line_added : {line : Line} {c s : ℤ} {r : Sums} → line ≡ lines i → c ≡ C i → s ≡ S i → r ≡ plus_line sums line c s → r ≡ sums_of (sum_of lines C S (i + 1))
    line_added l x y e = e ∙ rw (E, l, x, y) (sums_next lines C S i)

-- a correction is far below an entry's range
pub rounded_small : (sums : Sums) → Bounded sums → Small (rounded_of sums)
unfolding rounded_of correction_of
rounded_small sums b =
    let s : (x : ℤ) → nat_abs x ≤ 2 ^ 62 → nat_abs (nearest x (2 ^ 30)) ≤ 2 ^ 33 = λ x h. omega (arith, nearest_size x (2 ^ 30) (2 ^ 32) (omega arith) (omega arith)) in
    record { c20 = s _ b.c20; c21 = s _ b.c21; s21 = s _ b.s21; c22 = s _ b.c22; s22 = s _ b.s22 }

-- the corrections of up to 64 lines
pub corrections_small : (lines : ℕ → Line) (C S : ℕ → ℤ) (m n : ℕ) → m ≤ 2 ^ 24 → n ≤ 64 → ((i : ℕ) → i < n → Light m (lines i)) → ((i : ℕ) → nat_abs (C i) ≤ 2 ^ 31) → ((i : ℕ) → nat_abs (S i) ≤ 2 ^ 31)
    → Small (corrections_of (sum_of lines C S n))
unfolding corrections_of rounded_of sums_of
corrections_small lines C S m n hm h light hc hs =
    rounded_small (sums_of (sum_of lines C S n)) (bounded lines C S m n hm h refl (sum-small lines C S m n light hc hs))

small_read : (z : ℤ) → nat_abs z ≤ 2 ^ 33 → read z ≡ z
small_read z h = to_z-of_z (fits_abs w64 z (omega (arith, h)))

-- each as the machine reads it, and all as lists
module _ (d : Corrections) (s : Small d) where
  pub read_c20 : read d.c20 ≡ d.c20
  read_c20 = small_read d.c20 s.c20

  pub read-c21 : read d.c21 ≡ d.c21
  read-c21 = small_read d.c21 s.c21

  pub read-s21 : read d.s21 ≡ d.s21
  read-s21 = small_read d.s21 s.s21

  pub read_c22 : read d.c22 ≡ d.c22
  read_c22 = small_read d.c22 s.c22

  pub read_s22 : read d.s22 ≡ d.s22
  read_s22 = small_read d.s22 s.s22

  pub for_c_small : (k : ℕ) → nat_abs (get_or (for_c d) k (pos 0)) ≤ 2 ^ 33
  for_c_small zero = s.c20
  for_c_small (suc zero) = s.c21
  for_c_small (suc (suc zero)) = s.c22
  for_c_small (suc (suc (suc k))) = omega arith

  pub for_s_small : (k : ℕ) → nat_abs (get_or (for_s d) k (pos 0)) ≤ 2 ^ 33
  for_s_small zero = s.s21
  for_s_small (suc zero) = s.s22
  for_s_small (suc (suc k)) = omega arith
