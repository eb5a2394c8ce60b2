-- The bits of several words together, 2^24 added to each: below 2^25, each word is a count in range.
use Rattle.std.proofs.Common.{◌≡◌, ℕ, ◌+◌, ◌*◌, ◌%◌, ◌^◌, ◌<◌, ◌≤◌, true, List, nat_abs, sym, ap, ◌∙◌, subst, ⊎_elim, eq-or-lt_of_le, arith, le-leb}
use lib.Bits.{bit_or}
use Rattle.whole.specs.Sum.{all_to}
use Rattle.limits.specs.Limits.{is_coefficient}
use Rattle.words.specs.Words.{word_at, twos_complement}
use Rattle.whole.proofs.Bits.{below_or}
use Rattle.whole.proofs.Counted.{all_same}
use Rattle.words.proofs.Signs.{raised_small}
use Rattle.sheet.specs.Sheet.{tide_count, place_start, coefficient}
use Rattle.sheet.specs.Accepted.{counts_valid}
use Rattle.sheet.proofs.Flat.{all_rows}
use Rattle.sheet_places.specs.Inner.{valid_at, Joined}

module _ (s : List ℕ) (at : ℕ) where
  raised_valid : (n v : ℕ) → v ≡ word_at s (at + 4 * n) → v < 2 ^ 32 → (v + 2 ^ 24) % 2 ^ 32 < 2 ^ 25 → valid_at s at n ≡ true
  unfolding valid_at
  raised_valid n v e h l = rw (← e) (le-leb (nat_abs (twos_complement (2 ^ 31) v)) (2 ^ 24) (raised_small (2 ^ 31) v h (2 ^ 24) (omega arith) l))

  pub joined_more : (n v : ℕ) {any w : ℕ} → Joined s at n any → v ≡ word_at s (at + 4 * n) → v < 2 ^ 32 → w ≡ (v + 2 ^ 24) % 2 ^ 32 → Joined s at (n + 1) (bit_or any w)
  joined_more n v {any} {w} J e h r = record {
    each = λ b i k.
        let m : i ≤ n = omega arith in
        let both = below_or any w b in
        ⊎_elim (λ q. subst (λ (j : ℕ). valid_at s at j ≡ true) (sym q) (raised_valid n v e h (subst (λ (x : ℕ). x < 2 ^ 25) r both.1)))
        (λ l. J.each both.0 i l) (eq-or-lt_of_le m);
  }

-- the words of a place after its two bytes, four to a tide
pub by_tides : (s : List ℕ) (j at count : ℕ) → at ≡ place_start s j + 2 → count ≡ 4 * tide_count s → all_to (valid_at s at) count ≡ all_to (counts_valid s j) (tide_count s)
unfolding valid_at counts_valid coefficient
by_tides s j at count e f =
    let words = valid_at s (place_start s j + 2) in
    rw (e, f)
    (all_rows 4 words (tide_count s)
    ∙ all_same (λ k. all_to (λ q. words (4 * k + q)) 4) (counts_valid s j) (tide_count s)
    (λ k h. all_same (λ q. words (4 * k + q)) (λ q. is_coefficient (coefficient s j k q)) 4
    (λ q g. ap (λ (x : ℕ). is_coefficient (twos_complement (2 ^ 31) (word_at s x))) (omega arith))))
