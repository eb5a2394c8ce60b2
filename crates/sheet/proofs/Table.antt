-- Refusals 7, 8 and 9 are given exactly when 01's table says, and 16 between 8 and 9 exactly when two lines are twins.
use mathlib.Core.Bool.{Bool, true, false, true≢false, false≢true, cond, not, ◌&&◌, ◌||◌}
use mathlib.Core.List.{List, [], ◌∷◌, map}
use mathlib.Core.Logic.{◌↔◌}
use mathlib.Core.Path.{◌≡◌, refl, sym, ap, ◌∙◌}
use Prim.Native.Nat.{ℕ, zero, suc, ◌+◌, ◌-◌, ◌^◌, ◌<◌}
use native.Mathlib.Omega.{arith}
use borrow.Author.Tests.{leb-true, leb-false, ltb-false, eqb-false, lt-ltb, le-ltb, eq-eqb, ne_eqb}
use lib.Dec.{leb, ltb, eqb}
use lib.IntN.{pos, nat_abs}
use lib.ListN.{length}
use Rattle.whole.specs.Sum.{weight_to, all_to}
use Rattle.whole.proofs.Counted.{all_at}
use Rattle.limits.specs.Limits.{is_line_count, is_tide_count, is_place_count, is_multiplier, is_sheet_degree, is_coefficient}
use Rattle.refusals.specs.Outcome.{first_of}
use Rattle.words.specs.Words.{twos_complement}
use Rattle.sheet.specs.Sheet.{line_count, tide_count, place_count, sheet_end, multiplier, multipliers, admittance, degree, order, s_cos, s_sin, coefficient}
use Rattle.sheet.specs.Accepted.{shaped, line_valid, row_valid, counts_valid, s_zero, place_valid, precedes, ascending, valid, twins, untwinned, reached, own_refusal, sheet_refusal}
use Rattle.sheet.proofs.Twins.{twins_same, same_twins}
use Rattle.sheet.proofs.Acceptance.{Shape, shape, Before, Valid, values}
use Rattle.sheet.proofs.Acceptance.Before.{by-degree, by_order}

-- 7: "a section count outside its range, or length not exact"
pub data ShapeFault (s : List ℕ) : Type 0 where
  no_line : line_count s ≡ 0 → ShapeFault s
  lines_beyond : 128 < line_count s → ShapeFault s
  no_tide : tide_count s ≡ 0 → ShapeFault s
  tides_beyond : 32 < tide_count s → ShapeFault s
  places_beyond : 90 < place_count s → ShapeFault s
  length_not_exact : (length s ≡ sheet_end s → ⊥) → ShapeFault s

-- 8: "a value or a row's total of absolute values out of range, an S not zero at order 0, or places not ascending"
pub data ValueFault (s : List ℕ) : Type 0 where
  multiplier_beyond : (f i : ℕ) → f < line_count s → i < 6 → 13 < nat_abs (multiplier s f i) → ValueFault s
  total_beyond : (k : ℕ) → k < tide_count s → 4000000 < weight_to (admittance s k) (line_count s) → ValueFault s
  degree_zero : (j : ℕ) → j < place_count s → degree s j ≡ 0 → ValueFault s
  degree_beyond : (j : ℕ) → j < place_count s → 12 < degree s j → ValueFault s
  order_beyond : (j : ℕ) → j < place_count s → degree s j < order s j → ValueFault s
  count_beyond : (j k q : ℕ) → j < place_count s → k < tide_count s → q < 4 → 2 ^ 24 < nat_abs (coefficient s j k q) → ValueFault s
  s_cos_not_zero : (j k : ℕ) → j < place_count s → k < tide_count s → order s j ≡ 0 → (coefficient s j k s_cos ≡ pos 0 → ⊥) → ValueFault s
  s_sin_not_zero : (j k : ℕ) → j < place_count s → k < tide_count s → order s j ≡ 0 → (coefficient s j k s_sin ≡ pos 0 → ⊥) → ValueFault s
  not_ascending : (j : ℕ) → j + 1 < place_count s → (Before s j (j + 1) → ⊥) → ValueFault s

-- 16: "the same six multipliers in two rows"
pub data TwinFault (s : List ℕ) : Type 0 where
  twin_lines : (e f : ℕ) → e < line_count s → f < line_count s → (e ≡ f → ⊥) → multipliers s e ≡ multipliers s f → TwinFault s

-- 9: "a place of degree above N"
pub data DegreeFault (s : List ℕ) (n : ℕ) : Type 0 where
  above : (j : ℕ) → j < place_count s → n < degree s j → DegreeFault s n

-- ---- tests that fail
refuted : (b : Bool) → (b ≡ true → ⊥) → b ≡ false
refuted true h = absurd (h refl)
refuted false h = refl

module _ {X : Type 0} where
  and_fails : (a b : Bool) → (a && b) ≡ false → (a ≡ false → X) → (b ≡ false → X) → X
  and_fails true b e f g = g e
  and_fails false b e f g = f refl

  four_fail : (a b c d : Bool) → (a && b && c && d) ≡ false → (a ≡ false → X) → (b ≡ false → X) → (c ≡ false → X) → (d ≡ false → X) → X
  four_fail a b c d e f g h k = and_fails (a && b && c) d e (λ x. and_fails (a && b) c x (λ y. and_fails a b y f g) h) k

  ends_fail : (least most n : ℕ) → (leb least n && leb n most) ≡ false → (n < least → X) → (most < n → X) → X
  ends_fail least most n e f g = and_fails (leb least n) (leb n most) e (λ x. f (leb-false least n x)) (λ x. g (leb-false n most x))

  all_fails : (f : ℕ → Bool) (n : ℕ) → all_to f n ≡ false → ((i : ℕ) → i < n → f i ≡ false → X) → X
  unfolding all_to
  all_fails f zero e k = absurd (true≢false e)
  all_fails f (suc n) e k = and_fails (all_to f n) (f n) e (λ x. all_fails f n x (λ i l y. k i (omega arith) y)) (λ x. k n (omega arith) x)

or_fails : (a b : Bool) → (a || b) ≡ false → (a ≡ false) × (b ≡ false)
or_fails true b e = absurd (true≢false e)
or_fails false b e = (refl, e)

not_fails : (a : Bool) → not a ≡ false → a ≡ true
not_fails true e = refl
not_fails false e = absurd (true≢false e)

-- ---- each test fails exactly where its fault is
shape_fault : (s : List ℕ) → shaped s ≡ false → ShapeFault s
unfolding shaped
shape_fault s e =
    four_fail (is_line_count (line_count s)) (is_tide_count (tide_count s)) (is_place_count (place_count s)) (eqb (length s) (sheet_end s)) e
    (λ x. ends_fail 1 128 (line_count s) x (λ l. no_line (omega arith)) lines_beyond)
    (λ x. ends_fail 1 32 (tide_count s) x (λ l. no_tide (omega arith)) tides_beyond)
    (λ x. places_beyond (leb-false (place_count s) 90 x))
    (λ x. length_not_exact (eqb-false (length s) (sheet_end s) x))

no_shape : {s : List ℕ} → ShapeFault s → Shape s → ⊥
no_shape (no_line e) h = omega arith
no_shape (lines_beyond l) h = omega arith
no_shape (no_tide e) h = omega arith
no_shape (tides_beyond l) h = omega arith
no_shape (places_beyond l) h = omega arith
no_shape (length_not_exact f) h = f h.length

before_test : {s : List ℕ} {i j : ℕ} → Before s i j → precedes s i j ≡ true
unfolding precedes
before_test {s} {i} {j} (by-degree l) = rw (lt-ltb (degree s i) (degree s j) l)
before_test {s} {i} {j} (by_order e l) = rw (le-ltb (degree s i) (degree s j) (omega arith), eq-eqb (degree s i) (degree s j) e, lt-ltb (order s i) (order s j) l)

place_fault : (s : List ℕ) (j : ℕ) → j < place_count s → place_valid s j ≡ false → ValueFault s
unfolding place_valid counts_valid s_zero
place_fault s j l e =
    four_fail (is_sheet_degree (degree s j)) (leb (order s j) (degree s j)) (all_to (counts_valid s j) (tide_count s)) (ltb 0 (order s j) || all_to (s_zero s j) (tide_count s)) e
    (λ x. ends_fail 1 12 (degree s j) x (λ d. degree_zero j l (omega arith)) (degree_beyond j l))
    (λ x. order_beyond j l (leb-false (order s j) (degree s j) x))
    (λ x. all_fails (counts_valid s j) (tide_count s) x
    (λ k m y. all_fails (λ q. is_coefficient (coefficient s j k q)) 4 y (λ q n z. count_beyond j k q l m n (leb-false (nat_abs (coefficient s j k q)) (2 ^ 24) z))))
    (λ x.
    let o = or_fails (ltb 0 (order s j)) (all_to (s_zero s j) (tide_count s)) x in
    let zonal : order s j ≡ 0 = omega (arith, ltb-false 0 (order s j) o.0) in
    all_fails (s_zero s j) (tide_count s) o.1
    (λ k m y. and_fails (eqb (nat_abs (coefficient s j k s_cos)) 0) (eqb (nat_abs (coefficient s j k s_sin)) 0) y
    (λ z. s_cos_not_zero j k l m zonal (λ c. eqb-false (nat_abs (coefficient s j k s_cos)) 0 z (ap nat_abs c)))
    (λ z. s_sin_not_zero j k l m zonal (λ c. eqb-false (nat_abs (coefficient s j k s_sin)) 0 z (ap nat_abs c)))))

value_fault : (s : List ℕ) → valid s ≡ false → ValueFault s
unfolding valid line_valid row_valid ascending
value_fault s e =
    four_fail (all_to (line_valid s) (line_count s)) (all_to (row_valid s) (tide_count s)) (all_to (place_valid s) (place_count s)) (ascending s) e
    (λ x. all_fails (line_valid s) (line_count s) x
    (λ f l y. all_fails (λ i. is_multiplier (multiplier s f i)) 6 y (λ i m z. multiplier_beyond f i l m (leb-false (nat_abs (multiplier s f i)) 13 z))))
    (λ x. all_fails (row_valid s) (tide_count s) x (λ k l y. total_beyond k l (leb-false (weight_to (admittance s k) (line_count s)) 4000000 y)))
    (λ x. all_fails (place_valid s) (place_count s) x (place_fault s))
    (λ x. all_fails (λ j. precedes s j (j + 1)) (place_count s - 1) x (λ j l y. not_ascending j (omega arith) (λ b. true≢false (sym (before_test b) ∙ y))))

no_values : {s : List ℕ} → ValueFault s → Valid s → ⊥
no_values (multiplier_beyond f i l m h) v = omega (arith, v.line f i l m)
no_values (total_beyond k l h) v = omega (arith, v.row k l)
no_values (degree_zero j l e) v = omega (arith, (v.places j l).degree_least)
no_values (degree_beyond j l h) v = omega (arith, (v.places j l).degree_most)
no_values (order_beyond j l h) v = omega (arith, (v.places j l).order_most)
no_values (count_beyond j k q l m n h) v = omega (arith, ((v.places j l).tide k m).small q n)
no_values (s_cos_not_zero j k l m z f) v = f (((v.places j l).tide k m).s-cos z)
no_values (s_sin_not_zero j k l m z f) v = f (((v.places j l).tide k m).s-sin z)
no_values (not_ascending j l f) v = f (v.before j l)

twin_fault : (s : List ℕ) → untwinned s ≡ false → TwinFault s
unfolding untwinned
twin_fault s x =
    all_fails (λ e. all_to (λ f. eqb e f || not (twins s e f)) (line_count s)) (line_count s) x
    (λ e l y. all_fails (λ f. eqb e f || not (twins s e f)) (line_count s) y
    (λ f m z. let o = or_fails (eqb e f) (not (twins s e f)) z in twin_lines e f l m (eqb-false e f o.0) (twins_same s e f (not_fails (twins s e f) o.1))))

no_twins : {s : List ℕ} → TwinFault s → untwinned s ≡ true → ⊥
unfolding untwinned
no_twins {s} (twin_lines e f l m other same) x =
    let either = all_at (λ i. eqb e i || not (twins s e i)) (line_count s) (all_at (λ i. all_to (λ j. eqb i j || not (twins s i j)) (line_count s)) (line_count s) x e l) f m in
    false≢true (rw (ne_eqb e f other, same_twins s e f same) at either)

degree_fault : (s : List ℕ) (n : ℕ) → reached s n ≡ false → DegreeFault s n
unfolding reached
degree_fault s n e = all_fails (λ j. leb (degree s j) n) (place_count s) e (λ j l x. above j l (leb-false (degree s j) n x))

no_degrees : {s : List ℕ} {n : ℕ} → DegreeFault s n → reached s n ≡ true → ⊥
unfolding reached
no_degrees {s} {n} (above j l h) e = omega (arith, leb-true (degree s j) n (all_at (λ i. leb (degree s i) n) (place_count s) e j l))

-- ---- of four tests in their order, each with its fault
free : {F : Type 0} → true ≡ false ↔ F → F → ⊥
free p f = true≢false (p.1 f)

abbrev first : Bool → Bool → Bool → Bool → ℕ
first a b c d = first_of (cond a (cond b (cond c 0 16) 8) 7) (cond d 0 9)

module _ {A B C D : Type 0} where
  in_order : (a b c d : Bool) → a ≡ false ↔ A → b ≡ false ↔ B → c ≡ false ↔ C → d ≡ false ↔ D
      → (first a b c d ≡ 0 ↔ ((A → ⊥) × (B → ⊥) × (C → ⊥) × (D → ⊥)))
      × (first a b c d ≡ 7 ↔ A)
      × (first a b c d ≡ 8 ↔ ((A → ⊥) × B))
      × (first a b c d ≡ 16 ↔ ((A → ⊥) × (B → ⊥) × C))
      × (first a b c d ≡ 9 ↔ ((A → ⊥) × (B → ⊥) × (C → ⊥) × D))
  unfolding first_of
  in_order true true true true p q t r = (
    (λ e. (free p, free q, free t, free r), λ h. refl),
    (λ e. absurd (omega arith), λ h. absurd (free p (h))),
    (λ e. absurd (omega arith), λ h. absurd (free q h.1)),
    (λ e. absurd (omega arith), λ h. absurd (free t h.2)),
    (λ e. absurd (omega arith), λ h. absurd (free r h.3)),
  )
  in_order true true true false p q t r = (
    (λ e. absurd (omega arith), λ h. absurd (h.3 (r.0 refl))),
    (λ e. absurd (omega arith), λ h. absurd (free p (h))),
    (λ e. absurd (omega arith), λ h. absurd (free q h.1)),
    (λ e. absurd (omega arith), λ h. absurd (free t h.2)),
    (λ e. (free p, free q, free t, r.0 refl), λ h. refl),
  )
  in_order true true false d p q t r = (
    (λ e. absurd (omega arith), λ h. absurd (h.2 (t.0 refl))),
    (λ e. absurd (omega arith), λ h. absurd (free p (h))),
    (λ e. absurd (omega arith), λ h. absurd (free q h.1)),
    (λ e. (free p, free q, t.0 refl), λ h. refl),
    (λ e. absurd (omega arith), λ h. absurd (h.2 (t.0 refl))),
  )
  in_order true false c d p q t r = (
    (λ e. absurd (omega arith), λ h. absurd (h.1 (q.0 refl))),
    (λ e. absurd (omega arith), λ h. absurd (free p (h))),
    (λ e. (free p, q.0 refl), λ h. refl),
    (λ e. absurd (omega arith), λ h. absurd (h.1 (q.0 refl))),
    (λ e. absurd (omega arith), λ h. absurd (h.1 (q.0 refl))),
  )
  in_order false b c d p q t r = (
    (λ e. absurd (omega arith), λ h. absurd (h.0 (p.0 refl))),
    (λ e. p.0 refl, λ h. refl),
    (λ e. absurd (omega arith), λ h. absurd (h.0 (p.0 refl))),
    (λ e. absurd (omega arith), λ h. absurd (h.0 (p.0 refl))),
    (λ e. absurd (omega arith), λ h. absurd (h.0 (p.0 refl))),
  )

-- 0: nothing; 7, 8, 16 and 9: its own fault, and none that comes before it
pub sheet_table : (s : List ℕ) (n : ℕ)
    → (sheet_refusal s n ≡ 0 ↔ ((ShapeFault s → ⊥) × (ValueFault s → ⊥) × (TwinFault s → ⊥) × (DegreeFault s n → ⊥)))
    × (sheet_refusal s n ≡ 7 ↔ ShapeFault s)
    × (sheet_refusal s n ≡ 8 ↔ ((ShapeFault s → ⊥) × ValueFault s))
    × (sheet_refusal s n ≡ 16 ↔ ((ShapeFault s → ⊥) × (ValueFault s → ⊥) × TwinFault s))
    × (sheet_refusal s n ≡ 9 ↔ ((ShapeFault s → ⊥) × (ValueFault s → ⊥) × (TwinFault s → ⊥) × DegreeFault s n))
unfolding sheet_refusal own_refusal
sheet_table s n =
    in_order (shaped s) (valid s) (untwinned s) (reached s n)
    (shape_fault s, λ f. refuted (shaped s) (λ e. no_shape f (shape s e)))
    (value_fault s, λ f. refuted (valid s) (λ e. no_values f (values s e)))
    (twin_fault s, λ f. refuted (untwinned s) (no_twins f))
    (degree_fault s n, λ f. refuted (reached s n) (no_degrees f))

-- ---- computed: two lines that share P9's admittance, the second with another first multiplier or the same, and one place of order 2
abbrev halved : ℕ → ℕ → List ℕ
halved tau n =
    2 ∷ 0 ∷ 2 ∷ 0 ∷ 0 ∷ 0 ∷ 0 ∷ 0 ∷ tau ∷ 0 ∷ 0 ∷ 0 ∷ 0 ∷ 0 ∷ 1 ∷ 0 ∷ 32 ∷ 161 ∷ 7 ∷ 0 ∷ 32 ∷ 161 ∷ 7 ∷ 0
    ∷ 1 ∷ 0 ∷ n ∷ 2 ∷ 232 ∷ 3 ∷ 0 ∷ 0 ∷ 0 ∷ 0 ∷ 0 ∷ 0 ∷ 0 ∷ 0 ∷ 0 ∷ 0 ∷ 12 ∷ 254 ∷ 255 ∷ 255 ∷ []

-- twins are refused, and before a degree above the field's
pub twins_refused : map (λ s. sheet_refusal s 4) (halved 1 2 ∷ halved 2 2 ∷ halved 1 5 ∷ halved 2 5 ∷ []) ≡ 0 ∷ 16 ∷ 9 ∷ 16 ∷ []
unfolding sheet_refusal first_of own_refusal shaped valid twins untwinned reached line_valid row_valid place_valid counts_valid s_zero ascending precedes twos_complement line_count tide_count place_count multiplier admittance degree order coefficient weight_to all_to
twins_refused = refl
