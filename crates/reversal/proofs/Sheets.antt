-- A reversed sheet has the factors of the sheet, so that each sum over tides, and each correction, has the other sign; and it is refused as the sheet is, since
-- its lines are the sheet's and every test of a coefficient is of its size.
use mathlib.Core.Bool.{Bool, true, false, cond, not, ◌||◌}
use mathlib.Core.List.{List, [], ◌∷◌}
use mathlib.Core.Path.{◌≡◌, refl, ap, ◌∙◌}
use Prim.Native.Nat.{ℕ, ◌+◌, ◌-◌, ◌^◌, ◌<◌}
use native.Mathlib.Omega.{arith}
use lib.Dec.{leb, eqb}
use lib.IntN.{ℤ, pos, neg_ℤ, nat_abs, ◌+ℤ◌, ◌-ℤ◌, ◌*ℤ◌}
use Rattle.arguments.specs.declared.Phases.{Phases}
use Rattle.choices.specs.declared.Frame.{Frame}
use Rattle.field.specs.Field.{field_refusal}
use Rattle.limits.specs.Limits.{is_multiplier, is_row_total}
use Rattle.ocean.specs.Ocean.{d_c, d_s}
use Rattle.places.specs.Places.{place_sum, skipped, unless_skipped, correction, index_of}
use Rattle.refusals.specs.Outcome.{first_of}
use Rattle.sheet.specs.Accepted.{shaped, line_valid, row_valid, counts_valid, s_zero, place_valid, precedes, ascending, valid, twins, untwinned, reached, own_refusal, sheet_refusal}
use Rattle.sheet.specs.Sheet.{line_count, tide_count, place_count, multiplier, multipliers, admittance, degree, coefficient}
use Rattle.surfgimlet.specs.Calls.{ocean_refusal, ocean_tide}
use Rattle.tides.specs.Tides.{line_phase, line_sum, factor, fcos, fsin}
use Rattle.wave.specs.Wave.{sin, cos}
use Rattle.whole.specs.Nearest.{nearest}
use Rattle.whole.specs.Sum.{all_to}
use Rattle.whole.proofs.Counted.{all_same, weight_same}
use Rattle.whole.proofs.Parts.{abs_neg}
use Rattle.whole.proofs.Ring.{equal, !, ⊝, ◌⊕◌, ◌⊗◌}
use Rattle.whole.proofs.Rounding.{nearest_reversed}
use Rattle.whole.proofs.Sums.{sum_same, sum_reversed}
use Rattle.reversal.specs.Reversal.{Reversed, Opposite}
use Rattle.reversal.proofs.Written.{added_opposite, opposite_calls}

module _ {s t : List ℕ} (r : Reversed s t) where
  -- ---- the corrections
  multipliers_same : (f : ℕ) → f < line_count s → multipliers t f ≡ multipliers s f
  unfolding multipliers
  multipliers_same f h =
      rw (r.line f 0 h (omega arith), r.line f 1 h (omega arith), r.line f 2 h (omega arith), r.line f 3 h (omega arith), r.line f 4 h (omega arith), r.line f 5 h (omega arith)) refl

  -- of a wave w of the phase, the cosine or the sine
  factor_same : (phases : Phases) (w : ℕ → ℤ) (k : ℕ) → k < tide_count s → factor t (λ f. w (line_phase t phases f)) k ≡ factor s (λ f. w (line_phase s phases f)) k
  unfolding factor line_sum
  factor_same phases w k h =
      rw r.lines
      (ap (λ (z : ℤ). nearest z (10 ^ 6))
      (sum_same (λ f. admittance t k f *ℤ w (line_phase t phases f)) (λ f. admittance s k f *ℤ w (line_phase s phases f)) (line_count s)
      (λ f g. rw (r.row k f h g, multipliers_same f g) refl)))

  sum_opposite : (phases : Phases) (p q j : ℕ) → p < 4 → q < 4 → j < place_count s → place_sum t (fcos t phases) (fsin t phases) p q j ≡ neg_ℤ (place_sum s (fcos s phases) (fsin s phases) p q j)
  unfolding place_sum fcos fsin
  sum_opposite phases p q j P Q h =
      rw r.tides
      (sum_same (λ k. fcos t phases k *ℤ coefficient t j k p +ℤ fsin t phases k *ℤ coefficient t j k q) (λ k. neg_ℤ (fcos s phases k *ℤ coefficient s j k p +ℤ fsin s phases k *ℤ coefficient s j k q)) (tide_count s)
      (λ k g.
      rw (factor_same phases cos k g, factor_same phases sin k g, r.count j k p h g P, r.count j k q h g Q)
      (equal (! 0 ⊗ ⊝ (! 2) ⊕ ! 1 ⊗ ⊝ (! 3)) (⊝ (! 0 ⊗ ! 2 ⊕ ! 1 ⊗ ! 3)) (fcos s phases k ∷ fsin s phases k ∷ coefficient s j k p ∷ coefficient s j k q ∷ []) (omega arith)))
      ∙ sum_reversed (λ k. fcos s phases k *ℤ coefficient s j k p +ℤ fsin s phases k *ℤ coefficient s j k q) (tide_count s))

  correction_opposite : (phases : Phases) (frame : Frame) (p q j : ℕ) → p < 4 → q < 4 → j < place_count s
      → correction t frame (fcos t phases) (fsin t phases) p q j ≡ neg_ℤ (correction s frame (fcos s phases) (fsin s phases) p q j)
  unfolding correction unless_skipped
  correction_opposite phases frame p q j P Q h =
      let sum = place_sum s (fcos s phases) (fsin s phases) p q j in
      rw ((r.place j h).0, sum_opposite phases p q j P Q h, nearest_reversed sum (2 ^ 30) (omega arith)) (by_test (skipped frame (degree s j)) (nearest sum (2 ^ 30)))
    where
      by_test : (b : Bool) (z : ℤ) → cond b (pos 0) (neg_ℤ z) ≡ neg_ℤ (cond b (pos 0) z)
      by_test true z = refl
      by_test false z = refl

  -- ---- the refusals
  shaped_same : shaped t ≡ shaped s
  unfolding shaped
  shaped_same = rw (r.lines, r.tides, r.places, r.size) refl

  lines_same : (f : ℕ) → f < line_count s → line_valid t f ≡ line_valid s f
  unfolding line_valid
  lines_same f h = all_same (λ i. is_multiplier (multiplier t f i)) (λ i. is_multiplier (multiplier s f i)) 6 (λ i g. ap is_multiplier (r.line f i h g))

  rows_same : (k : ℕ) → k < tide_count s → row_valid t k ≡ row_valid s k
  unfolding row_valid
  rows_same k h = rw r.lines (ap is_row_total (weight_same (admittance t k) (admittance s k) (line_count s) (λ f g. r.row k f h g)))

  -- a coefficient's size
  module _ (j k : ℕ) (h : j < place_count s) (g : k < tide_count s) where
    size_same : (q : ℕ) → q < 4 → nat_abs (coefficient t j k q) ≡ nat_abs (coefficient s j k q)
    size_same q Q = ap nat_abs (r.count j k q h g Q) ∙ abs_neg (coefficient s j k q)

    counts_same : counts_valid t j k ≡ counts_valid s j k
    unfolding counts_valid
    counts_same =
        all_same (λ q. leb (nat_abs (coefficient t j k q)) (2 ^ 24)) (λ q. leb (nat_abs (coefficient s j k q)) (2 ^ 24)) 4
        (λ q Q. ap (λ (n : ℕ). leb n (2 ^ 24)) (size_same q Q))

    zero_same : s_zero t j k ≡ s_zero s j k
    unfolding s_zero
    zero_same = rw (size_same 1 (omega arith), size_same 3 (omega arith)) refl

  places_same : (j : ℕ) → j < place_count s → place_valid t j ≡ place_valid s j
  unfolding place_valid
  places_same j h =
      rw
      (r.tides, (r.place j h).0, (r.place j h).1, all_same (counts_valid t j) (counts_valid s j) (tide_count s) (λ k g. counts_same j k h g), all_same (s_zero t j) (s_zero s j) (tide_count s) (λ k g. zero_same j k h g))
      refl

  ascending_same : ascending t ≡ ascending s
  unfolding ascending precedes
  ascending_same =
      rw r.places
      (all_same (λ j. precedes t j (j + 1)) (λ j. precedes s j (j + 1)) (place_count s - 1)
      (λ j h. rw ((r.place j (omega arith)).0, (r.place j (omega arith)).1, (r.place (j + 1) (omega arith)).0, (r.place (j + 1) (omega arith)).1) refl))

  valid_same : valid t ≡ valid s
  unfolding valid
  valid_same =
      rw
      (r.lines, r.tides, r.places, all_same (line_valid t) (line_valid s) (line_count s) lines_same, all_same (row_valid t) (row_valid s) (tide_count s) rows_same, all_same (place_valid t) (place_valid s) (place_count s) places_same, ascending_same)
      refl

  twins_same : (e f : ℕ) → e < line_count s → f < line_count s → twins t e f ≡ twins s e f
  unfolding twins
  twins_same e f h g =
      all_same (λ i. eqb (nat_abs (multiplier t e i -ℤ multiplier t f i)) 0) (λ i. eqb (nat_abs (multiplier s e i -ℤ multiplier s f i)) 0) 6
      (λ i q. rw (r.line e i h q, r.line f i g q) refl)

  untwinned_same : untwinned t ≡ untwinned s
  unfolding untwinned
  untwinned_same =
      rw r.lines
      (all_same (λ e. all_to (λ f. eqb e f || not (twins t e f)) (line_count s)) (λ e. all_to (λ f. eqb e f || not (twins s e f)) (line_count s)) (line_count s)
      (λ e h. all_same (λ f. eqb e f || not (twins t e f)) (λ f. eqb e f || not (twins s e f)) (line_count s) (λ f g. ap (λ (b : Bool). eqb e f || not b) (twins_same e f h g))))

  reached_same : (n : ℕ) → reached t n ≡ reached s n
  unfolding reached
  reached_same n =
      rw r.places (all_same (λ j. leb (degree t j) n) (λ j. leb (degree s j) n) (place_count s) (λ j h. ap (λ (d : ℕ). leb d n) (r.place j h).0))

  pub sheet_refused : (n : ℕ) → sheet_refusal t n ≡ sheet_refusal s n
  unfolding sheet_refusal own_refusal
  sheet_refused n = rw (shaped_same, valid_same, untwinned_same, reached_same n) refl

  -- ---- the call
  index_same : (j : ℕ) → j < place_count s → index_of t j ≡ index_of s j
  index_same j h = rw ((r.place j h).0, (r.place j h).1) refl

  pub ocean-tide : (n : ℕ) (c s' : List ℤ) (phases : Phases) (frame : Frame) → Opposite c s' (ocean_tide n c s' s phases frame) (ocean_tide n c s' t phases frame)
  unfolding ocean_tide ocean_refusal d_c d_s
  ocean-tide n c s' phases frame =
      opposite_calls (first_of (field_refusal n c s') (sheet_refusal s n)) (first_of (field_refusal n c s') (sheet_refusal t n)) c s' _ _ _ _
      (ap (first_of (field_refusal n c s')) (sheet_refused n))
      (rw r.places
      (added_opposite (index_of s) (index_of t) (d_c s phases frame) (d_c t phases frame) c (place_count s) index_same (λ j h. correction_opposite phases frame 0 2 j (omega arith) (omega arith) h)))
      (rw r.places
      (added_opposite (index_of s) (index_of t) (d_s s phases frame) (d_s t phases frame) s' (place_count s) index_same (λ j h. correction_opposite phases frame 1 3 j (omega arith) (omega arith) h)))
