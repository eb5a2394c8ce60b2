-- The reversed sheet of one that is accepted, byte by byte: each coefficient's four bytes are those of its opposite, all others as they are.
use mathlib.Core.Bool.{Bool, true, false, cond}
use mathlib.Core.List.{List}
use mathlib.Core.Path.{◌≡◌, refl, sym, ap, ◌∙◌}
use Prim.Native.Nat.{ℕ, zero, suc, ◌+◌, ◌-◌, ◌*◌, ◌/◌, ◌%◌, ◌^◌, ◌≤◌, ◌<◌}
use native.Mathlib.Nat.{div-one, div-add-mod, div-div-eq-div-mul, mod-eq_of_lt, mul-add-mod_self_left, mul-le-mul_left}
use native.Mathlib.Omega.{arith}
use borrow.Author.Tests.{ltb-true, ltb-false, lt-ltb, le-ltb}
use lib.Dec.{ltb}
use lib.IntN.{ℤ, pos, negsuc, neg_ℤ, nat_abs, ◌-ℤ◌}
use lib.ListN.{length, get_or-eq_default}
use Rattle.sheet.specs.Accepted.{own_refusal}
use Rattle.sheet.specs.Sheet.{line_count, line_start, tides_start, tide_count, row_start, places_start, place_count, place_start, multiplier, admittance, degree, order, coefficient}
use Rattle.sheet.proofs.Acceptance.{Accepted, accepted}
use Rattle.whole.specs.Listed.{listed}
use Rattle.whole.proofs.Listed.{listed_length, at_listed}
use Rattle.whole.proofs.Parts.{same, difference, abs_neg}
use Rattle.words.specs.Words.{byte_at, half_at, word_at, twos_complement}
use Rattle.reversal.specs.Reversal.{Reversed}

-- ---- a word's opposite
-- a signed number in 32 bits
written : ℤ → ℕ
written (pos n) = n
written (negsuc n) = 2 ^ 32 - suc n

written_small : (z : ℤ) → nat_abs z < 2 ^ 31 → written z < 2 ^ 32
unfolding written
written_small (pos n) h = omega arith
written_small (negsuc n) h = omega arith

read_back : (z : ℤ) → nat_abs z < 2 ^ 31 → twos_complement (2 ^ 31) (written z) ≡ z
unfolding written twos_complement
read_back (pos n) h = rw (lt-ltb n (2 ^ 31) h) refl
read_back (negsuc n) h =
    let v = 2 ^ 32 - suc n in
    let above : 2 ^ 31 ≤ v = omega arith in
    rw (le-ltb v (2 ^ 31) above) (same (pos v -ℤ pos (2 ^ 32)) (negsuc n) (omega (arith, difference (pos v) (pos (2 ^ 32)))))

opposite : ℕ → ℕ
opposite word = written (neg_ℤ (twos_complement (2 ^ 31) word))

byte_of : ℕ → ℕ → ℕ
byte_of word b = word / 256 ^ b % 256

digits_of_lem : (w a b c x y z : ℕ) → 256 * a + x ≡ w → 256 * b + y ≡ a → 256 * c + z ≡ b → x + 256 * y + 65536 * z + 16777216 * c ≡ w
digits_of_lem w a b c x y z e f g = omega arith

four_bytes : (w : ℕ) → w < 2 ^ 32 → byte_of w 0 + 256 * byte_of w 1 + 65536 * byte_of w 2 + 16777216 * byte_of w 3 ≡ w
unfolding byte_of
four_bytes w h =
    let a = w / 256 in
    let b = w / 65536 in
    let c = w / 16777216 in
    let last : c % 256 ≡ c = mod-eq_of_lt (omega arith) in
    rw (div-one w, last)
    (digits_of_lem w a b c (w % 256) (a % 256) (b % 256) (div-add-mod w 256)
    (ap (λ (k : ℕ). 256 * k + a % 256) (sym (div-div-eq-div-mul w 256 256)) ∙ div-add-mod a 256)
    (ap (λ (k : ℕ). 256 * k + b % 256) (sym (div-div-eq-div-mul w 65536 256)) ∙ div-add-mod b 256))

-- ---- the bytes
module _ (s : List ℕ) where
  -- where the places stand, and how many bytes each has
  abbrev start : ℕ
  start = places_start s + 2

  abbrev stride : ℕ
  stride = 2 + 16 * tide_count s

  -- byte i, by its offset in its place: degree, order, then words
  in_place : ℕ → ℕ → ℕ
  in_place i zero = byte_at s i
  in_place i (suc zero) = byte_at s i
  in_place i (suc (suc o)) = byte_of (opposite (word_at s (i - o % 4))) (o % 4)

  byte : ℕ → ℕ
  byte i = cond (ltb i start) (byte_at s i) (in_place i ((i - start) % stride))

  pub reversed : List ℕ
  reversed = listed byte (length s)

  read : (i : ℕ) → i < length s → byte_at reversed i ≡ byte i
  unfolding reversed
  read i h = at_listed byte (length s) i 0 h

  -- before the places
  before : (i : ℕ) → i < start → byte_at reversed i ≡ byte_at s i
  unfolding reversed byte
  before i h = by_test (ltb i (length s)) refl
    where
      by_test : (t : Bool) → ltb i (length s) ≡ t → byte_at reversed i ≡ byte_at s i
      by_test true e = at_listed byte (length s) i 0 (ltb-true i (length s) e) ∙ rw (lt-ltb i start h) refl
      by_test false e =
          let l = ltb-false i (length s) e in
          get_or-eq_default (listed byte (length s)) 0 (omega (arith, listed_length byte (length s))) ∙ sym (get_or-eq_default s 0 l)

  half_before : (a : ℕ) → a + 1 < start → half_at reversed a ≡ half_at s a
  half_before a h = rw (before a (omega arith), before (a + 1) h) refl

  word_before : (a : ℕ) → a + 3 < start → word_at reversed a ≡ word_at s a
  word_before a h = rw (before a (omega arith), before (a + 1) (omega arith), before (a + 2) (omega arith), before (a + 3) h) refl

  lines_same : line_count reversed ≡ line_count s
  unfolding line_count
  lines_same = half_before 0 (omega arith)

  tides_same : tide_count reversed ≡ tide_count s
  unfolding tide_count
  tides_same = rw lines_same (half_before (tides_start s) (omega arith))

  places_same : place_count reversed ≡ place_count s
  unfolding place_count
  places_same = rw (lines_same, tides_same) (half_before (places_start s) (omega arith))

  line_same : (f i : ℕ) → f < line_count s → i < 6 → multiplier reversed f i ≡ multiplier s f i
  unfolding multiplier
  line_same f i F I = ap (twos_complement (2 ^ 7)) (before (line_start f + i) (omega arith))

  row_same : (k f : ℕ) → k < tide_count s → f < line_count s → admittance reversed k f ≡ admittance s k f
  unfolding admittance
  row_same k f K F = rw lines_same (ap (twos_complement (2 ^ 31)) (word_before (row_start s k + 4 * f) (omega (arith, mul-le-mul_left (line_count s) K))))

  -- ---- in a sheet that is accepted
  module _ (good : Accepted s) where
    -- byte i, at offset o of place j
    in_place_lem : (i j o : ℕ) → i ≡ place_start s j + o → j < place_count s → o < stride → byte_at reversed i ≡ in_place i o
    unfolding byte
    in_place_lem i j o e J O =
        let there : i < length s = omega (arith, good.shape.length, mul-le-mul_left stride J) in
        let offset : i - start ≡ stride * j + o = omega arith in
        let found : (i - start) % stride ≡ o = ap (λ (k : ℕ). k % stride) offset ∙ mul-add-mod_self_left stride j o ∙ mod-eq_of_lt O in
        let over : start ≤ i = omega arith in
        read i there ∙ rw (le-ltb i start over, found) refl

    place_same : (j : ℕ) → j < place_count s → (degree reversed j ≡ degree s j) × (order reversed j ≡ order s j)
    unfolding degree order in_place
    place_same j J =
        rw (lines_same, tides_same) (in_place_lem (place_start s j) j 0 (omega arith) J (omega arith), in_place_lem (place_start s j + 1) j 1 (omega arith) J (omega arith))

    module _ (j k q : ℕ) (J : j < place_count s) (K : k < tide_count s) (Q : q < 4) where
      abbrev at : ℕ
      at = place_start s j + 2 + 16 * k + 4 * q

      abbrev word : ℕ
      word = word_at s at

      byte_opposite : (i b : ℕ) → i ≡ at + b → b < 4 → byte_at reversed i ≡ byte_of (opposite word) b
      unfolding in_place
      byte_opposite i b e B =
          let o = 16 * k + 4 * q + b in
          let which : o % 4 ≡ b = omega arith in
          let first : i - b ≡ at = omega arith in
          in_place_lem i j (suc (suc o)) (omega arith) J (omega arith) ∙ rw (which, first) refl

      small : nat_abs (neg_ℤ (coefficient s j k q)) < 2 ^ 31
      small = omega (arith, abs_neg (coefficient s j k q), ((good.places j J).tide k K).small q Q)

      word_opposite : word_at reversed at ≡ opposite word
      unfolding opposite coefficient
      word_opposite =
          rw (byte_opposite at 0 (omega arith) (omega arith), byte_opposite (at + 1) 1 refl (omega arith), byte_opposite (at + 2) 2 refl (omega arith), byte_opposite (at + 3) 3 refl (omega arith))
          (four_bytes (opposite word) (written_small (neg_ℤ (coefficient s j k q)) small))

      count_opposite : coefficient reversed j k q ≡ neg_ℤ (coefficient s j k q)
      unfolding opposite coefficient
      count_opposite = rw (lines_same, tides_same) (ap (twos_complement (2 ^ 31)) word_opposite ∙ read_back (neg_ℤ (coefficient s j k q)) small)

pub sheet_there : (sheet : List ℕ) → own_refusal sheet ≡ 0 → (reversed : List ℕ) × Reversed sheet reversed
unfolding reversed
sheet_there sheet passed =
    let good = accepted sheet passed in (
      reversed sheet,
      record {
        size = listed_length (byte sheet) (length sheet);
        lines = lines_same sheet;
        tides = tides_same sheet;
        places = places_same sheet;
        line = line_same sheet;
        row = row_same sheet;
        place = place_same sheet good;
        count = count_opposite sheet good;
      },
    )
