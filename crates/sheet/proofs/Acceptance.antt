-- What a sheet that is not refused has.
use mathlib.Core.Path.{◌≡◌, refl, sym, subst}
use mathlib.Core.Bool.{Bool, true, false, cond, ◌&&◌, ◌||◌}
use mathlib.Core.List.{List}
use Prim.Native.Nat.{ℕ, zero, suc, ◌+◌, ◌-◌, ◌^◌, ◌≤◌, ◌<◌}
use native.Mathlib.Nat.{add-zero, mul-le-mul}
use native.Mathlib.Omega.{arith}
use borrow.Author.Tests.{leb-true, ltb-true, eqb-true, le-leb}
use lib.Dec.{leb, ltb, eqb}
use lib.IntN.{ℤ, pos, nat_abs}
use lib.ListN.{length}
use Rattle.whole.specs.Sum.{weight_to, all_to}
use Rattle.field.specs.Field.{place}
use Rattle.whole.proofs.Tests.{and_left, and_right, both_ends}
use Rattle.limits.specs.Limits.{is_line_count, is_tide_count, is_place_count, is_multiplier, is_sheet_degree}
use Rattle.sheet.specs.Sheet.{line_count, tide_count, place_count, sheet_end, multiplier, admittance, degree, order, s_cos, s_sin, coefficient}
use Rattle.sheet.specs.Accepted.{shaped, line_valid, row_valid, counts_valid, s_zero, place_valid, precedes, ascending, valid, untwinned, reached, own_refusal, sheet_refusal}
use Rattle.refusals.proofs.Outcomes.{first_none}
use Rattle.whole.proofs.Counted.{all_at, all_of}
use Rattle.whole.proofs.Parts.{no_size}

four : (a b c d : Bool) → (a && b && c && d) ≡ true → (a ≡ true) × (b ≡ true) × (c ≡ true) × (d ≡ true)
four a b c d e =
    let abc = and_left (a && b && c) d e in
    let ab = and_left (a && b) c abc in
    (and_left a b ab, and_right a b ab, and_right (a && b) c abc, and_right (a && b && c) d e)

-- a number that a test keeps from being 0
kept : (a : Bool) (x n : ℕ) → cond a x (suc n) ≡ 0 → (a ≡ true) × (x ≡ 0)
kept true x n e = (refl, e)
kept false x n e = absurd (omega arith)

-- two tests that pass together
pub same_test : (a b : Bool) → (a ≡ true → b ≡ true) → (b ≡ true → a ≡ true) → a ≡ b
same_test true b f g = sym (f refl)
same_test false true f g = g refl
same_test false false f g = refl

-- ---- 7
pub record Shape (s : List ℕ) : Type 0 where
  pub lines_least : 1 ≤ line_count s
  pub lines-most : line_count s ≤ 128
  pub tides_least : 1 ≤ tide_count s
  pub tides_most : tide_count s ≤ 32
  pub places_most : place_count s ≤ 90
  pub length : length s ≡ sheet_end s

pub shape : (s : List ℕ) → shaped s ≡ true → Shape s
unfolding shaped
shape s e =
    let t = four (is_line_count (line_count s)) (is_tide_count (tide_count s)) (is_place_count (place_count s)) (eqb (length s) (sheet_end s)) e in
    let lines = both_ends 1 128 (line_count s) t.0 in
    let tides = both_ends 1 32 (tide_count s) t.1 in
    record {
      lines_least = lines.0;
      lines-most = lines.1;
      tides_least = tides.0;
      tides_most = tides.1;
      places_most = leb-true (place_count s) 90 t.2;
      length = eqb-true (length s) (sheet_end s) t.3;
    }

-- ---- 8
-- one tide's counts at a place
pub record Counts (s : List ℕ) (j k : ℕ) : Type 0 where
  pub small : (q : ℕ) → q < 4 → nat_abs (coefficient s j k q) ≤ 2 ^ 24
  pub s-cos : order s j ≡ 0 → coefficient s j k s_cos ≡ pos 0
  pub s-sin : order s j ≡ 0 → coefficient s j k s_sin ≡ pos 0

zero_size : (z : ℤ) → eqb (nat_abs z) 0 ≡ true → z ≡ pos 0
zero_size z e = no_size z (omega (arith, eqb-true (nat_abs z) 0 e))

-- of "m is above 0, or b", b where m is 0
zonal : (m : ℕ) (b : Bool) → (ltb 0 m || b) ≡ true → m ≡ 0 → b ≡ true
zonal m b e z = subst (λ (n : ℕ). (ltb 0 n || b) ≡ true) z e

pub record Place (s : List ℕ) (j : ℕ) : Type 0 where
  pub degree_least : 1 ≤ degree s j
  pub degree_most : degree s j ≤ 12
  pub order_most : order s j ≤ degree s j
  pub tide : (k : ℕ) → k < tide_count s → Counts s j k

place_of : (s : List ℕ) (j : ℕ) → place_valid s j ≡ true → Place s j
unfolding place_valid counts_valid s_zero
place_of s j e =
    let within = is_sheet_degree (degree s j) in
    let ordered = leb (order s j) (degree s j) in
    let counts = all_to (counts_valid s j) (tide_count s) in
    let s-zero = all_to (s_zero s j) (tide_count s) in
    let t = four within ordered counts (ltb 0 (order s j) || s-zero) e in
    let ends = both_ends 1 12 (degree s j) t.0 in
    let small : (k : ℕ) → k < tide_count s → (q : ℕ) → q < 4 → nat_abs (coefficient s j k q) ≤ 2 ^ 24 =
    λ k h q g. leb-true (nat_abs (coefficient s j k q)) (2 ^ 24) (all_at (λ i. leb (nat_abs (coefficient s j k i)) (2 ^ 24)) 4 (all_at (counts_valid s j) (tide_count s) t.2 k h) q g) in
    let both : order s j ≡ 0 → s-zero ≡ true = zonal (order s j) s-zero t.3 in
    let a : ℕ → Bool = λ k. eqb (nat_abs (coefficient s j k s_cos)) 0 in
    let b : ℕ → Bool = λ k. eqb (nat_abs (coefficient s j k s_sin)) 0 in
    record {
      degree_least = ends.0;
      degree_most = ends.1;
      order_most = leb-true (order s j) (degree s j) t.1;
      tide = λ k h. record {
        small = small k h;
        s-cos = λ z. zero_size (coefficient s j k s_cos) (and_left (a k) (b k) (all_at (s_zero s j) (tide_count s) (both z) k h));
        s-sin = λ z. zero_size (coefficient s j k s_sin) (and_right (a k) (b k) (all_at (s_zero s j) (tide_count s) (both z) k h));
      };
    }

-- place i comes before place j, by degree then order
pub data Before (s : List ℕ) (i j : ℕ) : Type 0 where
  by-degree : degree s i < degree s j → Before s i j
  by_order : degree s i ≡ degree s j → order s i < order s j → Before s i j

before : (s : List ℕ) (i j : ℕ) → precedes s i j ≡ true → Before s i j
unfolding precedes
before s i j e = by_test (ltb (degree s i) (degree s j)) refl
  where
    by_test : (b : Bool) → ltb (degree s i) (degree s j) ≡ b → Before s i j
    by_test true l = by-degree (ltb-true (degree s i) (degree s j) l)
    by_test false l =
        let same = eqb (degree s i) (degree s j) in
        let less = ltb (order s i) (order s j) in
        let r : (same && less) ≡ true = subst (λ (b : Bool). (b || same && less) ≡ true) l e in
        by_order (eqb-true (degree s i) (degree s j) (and_left same less r)) (ltb-true (order s i) (order s j) (and_right same less r))

pub line_small : (s : List ℕ) (f : ℕ) → line_valid s f ≡ true → (i : ℕ) → i < 6 → nat_abs (multiplier s f i) ≤ 13
unfolding line_valid
line_small s f e i h = leb-true (nat_abs (multiplier s f i)) 13 (all_at (λ q. is_multiplier (multiplier s f q)) 6 e i h)

pub record Valid (s : List ℕ) : Type 0 where
  pub line : (f i : ℕ) → f < line_count s → i < 6 → nat_abs (multiplier s f i) ≤ 13
  pub row : (k : ℕ) → k < tide_count s → weight_to (admittance s k) (line_count s) ≤ 4000000
  pub places : (j : ℕ) → j < place_count s → Place s j
  pub before : (j : ℕ) → j + 1 < place_count s → Before s j (j + 1)

pub values : (s : List ℕ) → valid s ≡ true → Valid s
unfolding valid row_valid ascending
values s e =
    let t = four (all_to (line_valid s) (line_count s)) (all_to (row_valid s) (tide_count s)) (all_to (place_valid s) (place_count s)) (ascending s) e in
    record {
      line = λ f i h g. line_small s f (all_at (line_valid s) (line_count s) t.0 f h) i g;
      row = λ k h. leb-true (weight_to (admittance s k) (line_count s)) 4000000 (all_at (row_valid s) (tide_count s) t.1 k h);
      places = λ j h. place_of s j (all_at (place_valid s) (place_count s) t.2 j h);
      before = λ j h. before s j (j + 1) (all_at (λ i. precedes s i (i + 1)) (place_count s - 1) t.3 j (omega arith));
    }

pub valid_lines : (s : List ℕ) → valid s ≡ true → all_to (line_valid s) (line_count s) ≡ true
unfolding valid
valid_lines s e = (four (all_to (line_valid s) (line_count s)) (all_to (row_valid s) (tide_count s)) (all_to (place_valid s) (place_count s)) (ascending s) e).0

-- ---- both
-- where place j of the sheet stands in a list
abbrev pub index : List ℕ → ℕ → ℕ
index s j = place (degree s j) (order s j)

-- by degree then order is by index, where orders are at most their degrees
ranked : {s : List ℕ} {i j : ℕ} → order s i ≤ degree s i → Before s i j → index s i < index s j
unfolding place
ranked h (by-degree l) = omega (arith, mul-le-mul l l)
ranked h (by_order e l) = rw e (omega arith)

-- and the degree does not fall
not_fallen : {s : List ℕ} {i j : ℕ} → Before s i j → degree s i ≤ degree s j
not_fallen (by-degree l) = omega arith
not_fallen (by_order e l) = omega arith

pub record Accepted (s : List ℕ) : Type 0 where
  pub shape : Shape s
  pub line : (f i : ℕ) → f < line_count s → i < 6 → nat_abs (multiplier s f i) ≤ 13
  pub row : (k : ℕ) → k < tide_count s → weight_to (admittance s k) (line_count s) ≤ 4000000
  pub places : (j : ℕ) → j < place_count s → Place s j
  pub ascending : (j : ℕ) → j + 1 < place_count s → index s j < index s (j + 1)
  pub degrees : (j : ℕ) → j + 1 < place_count s → degree s j ≤ degree s (j + 1)

pub accepted : (s : List ℕ) → own_refusal s ≡ 0 → Accepted s
unfolding own_refusal
accepted s e =
    let a = kept (shaped s) (cond (valid s) (cond (untwinned s) 0 16) 8) 6 e in
    let v = values s (kept (valid s) (cond (untwinned s) 0 16) 7 a.1).0 in
    record {
      shape = shape s a.0;
      line = v.line;
      row = v.row;
      places = v.places;
      ascending = λ j h. ranked (v.places j (omega arith)).order_most (v.before j h);
      degrees = λ j h. not_fallen (v.before j h);
    }

-- ---- 9
pub accepted_for : (s : List ℕ) (n : ℕ) → sheet_refusal s n ≡ 0 → (own_refusal s ≡ 0) × ((j : ℕ) → j < place_count s → degree s j ≤ n)
unfolding sheet_refusal reached
accepted_for s n e =
    let p = first_none (own_refusal s) (cond (reached s n) 0 9) e in
    (p.0, λ j h. leb-true (degree s j) n (all_at (λ i. leb (degree s i) n) (place_count s) (kept (reached s n) 0 8 p.1).0 j h))

-- the last place has the highest degree
module _ {s : List ℕ} (A : Accepted s) where
  up_to : (d j : ℕ) → j + d < place_count s → degree s j ≤ degree s (j + d)
  up_to zero j h = rw add-zero (omega arith)
  up_to (suc d) j h =
      let e : j + suc d ≡ j + d + 1 = omega arith in
      rw e (omega (arith, up_to d j (omega arith), A.degrees (j + d) (omega arith)))

  pub last_reached : (n : ℕ) → 0 < place_count s → leb (degree s (place_count s - 1)) n ≡ reached s n
  unfolding reached
  last_reached n h = same_test (leb (degree s (place_count s - 1)) n) (all_to (λ j. leb (degree s j) n) (place_count s)) all last
    where
      all : leb (degree s (place_count s - 1)) n ≡ true → all_to (λ j. leb (degree s j) n) (place_count s) ≡ true
      all e = all_of (λ j. leb (degree s j) n) (place_count s) (λ j l.
          let i : j + (place_count s - 1 - j) ≡ place_count s - 1 = omega arith in
          le-leb (degree s j) n (omega (arith, leb-true (degree s (place_count s - 1)) n e, rw i at (up_to (place_count s - 1 - j) j (omega arith)))))

      last : all_to (λ j. leb (degree s j) n) (place_count s) ≡ true → leb (degree s (place_count s - 1)) n ≡ true
      last e = all_at (λ j. leb (degree s j) n) (place_count s) e (place_count s - 1) (omega arith)
