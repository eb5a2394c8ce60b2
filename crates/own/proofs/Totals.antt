-- The first records of a list that is not too long: where each is in range their sums are the definition's, and 64 of them have room; at the first that is
-- not, the list is refused with 13.
use Rattle.std.proofs.Common.{◌≡◌, ℕ, zero, suc, cond, ◌+◌, ◌≤◌, ◌<◌, Bool, true, false, List, length, ℤ, pos, Result, Ok, Err, refl, sym, subst, ◌∙◌, arith, add-one}
use borrow.Author.Tests.{leb-true}
use Rattle.arguments.specs.declared.Phases.{Phases}
use Rattle.bands.specs.declared.Line.{Line}
use Rattle.bands.specs.declared.Sums.{Sums}
use Rattle.bands.specs.Bands.{sum_of}
use Rattle.bands.specs.Inner.{Light, Bounded, sums_of}
use Rattle.bands.proofs.Sizes.{sum-small, sums_next, bounded}
use Rattle.limits.specs.Limits.{is_record_count}
use Rattle.refusals.specs.declared.Refusal.{Refusal}
use Rattle.refusals.specs.declared.Refusal.TheVariants.{RecordCount, RecordValue}
use Rattle.refusals.specs.Numbers.{refusal_number}
use Rattle.wave.specs.Wave.{sin, cos}
use Rattle.wave.proofs.Size.{sin_size, cos_size}
use Rattle.whole.specs.Sum.{sum_to, all_to}
use Rattle.whole.proofs.Counted.{all_none, all_at}
use Rattle.own.specs.declared.OwnLine.{OwnLine}
use Rattle.own.specs.Own.{line_of, in_range, record_at, own_phase, records_refusal}
use Rattle.own.specs.Inner.{plus_record, with_record, next_sums, summed_to, Totals}
use Rattle.own.proofs.Records.{record_light}

module _ (phases : Phases) (l : List OwnLine) where
  abbrev lines : ℕ → Line
  lines i = line_of (record_at l i)

  abbrev C : ℕ → ℤ
  C i = cos (own_phase phases l i)

  abbrev S : ℕ → ℤ
  S i = sin (own_phase phases l i)

  abbrev good : ℕ → Bool
  good i = in_range (record_at l i)

  -- what i records in range add up to
  abbrev summed : ℕ → Sums
  summed i = sums_of (sum_of lines C S i)

  light : (n : ℕ) → all_to good n ≡ true → (i : ℕ) → i < n → Light 10000000 (lines i)
  light n e i h = record_light (record_at l i) (all_at good n e i h)

  summed_bounded : (n : ℕ) → n ≤ 64 → all_to good n ≡ true → Bounded (summed n)
  summed_bounded n h e =
      bounded lines C S 10000000 n (omega arith) h refl
      (sum-small lines C S 10000000 n (light n e) (λ i. omega (arith, cos_size (own_phase phases l i))) (λ i. omega (arith, sin_size (own_phase phases l i))))

  -- the first n records are in range, and the sums are theirs
  pub record SoFar (n : ℕ) (sums : Sums) : Type 0 where
    pub in-range : all_to good n ≡ true
    pub sums_are : sums ≡ summed n

  pub none_read : SoFar zero (record { c20 = pos 0; c21 = pos 0; s21 = pos 0; c22 = pos 0; s22 = pos 0 })
  unfolding sums_of sum_of sum_to
  none_read = record { in-range = sym (all_none good); sums_are = refl }

  pub room : (n : ℕ) (sums : Sums) → n ≤ 64 → SoFar n sums → Bounded sums
  room n sums h so_far = rw so_far.sums_are (summed_bounded n h so_far.in-range)

  -- one record more
  pub added : (n : ℕ) (sums r : Sums) → SoFar n sums → with_record phases sums (record_at l n) ≡ Ok r → SoFar (n + 1) r
  unfolding with_record all_to
  added n sums r so_far e = by_test (good n) refl
    where
      by_test : (b : Bool) → good n ≡ b → SoFar (n + 1) r
      by_test true t =
          let f : ◌≡◌ {A = Result Sums Refusal} (Ok (plus_record phases sums (record_at l n))) (Ok r) = rw t at e in
          let same : plus_record phases sums (record_at l n) ≡ r = cc in
          record { in-range = rw (add-one, so_far.in-range, t) refl; sums_are = sym same ∙ rw so_far.sums_are (sums_next lines C S n) }
      by_test false t = absurd (let f : ◌≡◌ {A = Result Sums Refusal} (Err RecordValue) (Ok r) = rw t at e in cc)

  -- one that is out of range
  pub ended : (n : ℕ) (sums : Sums) (why : Refusal) → is_record_count (length l) ≡ true → n < length l
      → with_record phases sums (record_at l n) ≡ Err why → refusal_number why ≡ records_refusal l
  unfolding with_record records_refusal
  ended n sums why few h e = by_test (good n) refl
    where
      not_all : good n ≡ false → all_to good (length l) ≡ false
      not_all t = by_all (all_to good (length l)) refl
        where
          by_all : (b : Bool) → all_to good (length l) ≡ b → all_to good (length l) ≡ false
          by_all true a = absurd (let g = all_at good (length l) a n h in cc)
          by_all false a = a

      by_test : (b : Bool) → good n ≡ b → refusal_number why ≡ records_refusal l
      by_test true t = absurd (let f : ◌≡◌ {A = Result Sums Refusal} (Ok (plus_record phases sums (record_at l n))) (Err why) = rw t at e in cc)
      by_test false t =
          let f : ◌≡◌ {A = Result Sums Refusal} (Err RecordValue) (Err why) = rw t at e in
          let same : why ≡ RecordValue = cc in
          rw (same, few, not_all t) refl

  -- all of them
  pub whole : (sums : Sums) → is_record_count (length l) ≡ true → SoFar (length l) sums → Totals phases l (Ok sums)
  unfolding records_refusal
  whole sums few so_far =
      (rw (few, so_far.in-range) refl, (so_far.sums_are, room (length l) sums (leb-true (length l) 64 few) so_far))

-- the records one after the other, the first i of them
module _ (phases : Phases) (l : List OwnLine) (few : is_record_count (length l) ≡ true) where
  abbrev State : ℕ → Result Sums Refusal → Type 0
  State i (Ok sums) = SoFar phases l i sums
  State i (Err why) = refusal_number why ≡ records_refusal l

  step : (i : ℕ) → i < length l → (r : Result Sums Refusal) → State i r → State (suc i) (next_sums phases (record_at l i) r)
  step i h (Err why) e = e
  step i h (Ok sums) so_far = next (with_record phases sums (record_at l i)) refl
    where
      next : (r : Result Sums Refusal) → with_record phases sums (record_at l i) ≡ r → State (suc i) r
      next (Ok r) e = rw (← add-one) (added phases l i sums r so_far e)
      next (Err why) e = ended phases l i sums why few h e

  state : (i : ℕ) → i ≤ length l → State i (summed_to phases l i)
  unfolding summed_to
  state zero h = rw few (none_read phases l)
  state (suc i) h = step i (omega arith) (summed_to phases l i) (state i (omega arith))

  -- so after the first i of them the sums are the definition's, or the number is
  pub so_far : (i : ℕ) → i ≤ length l → (sums : Sums) → summed_to phases l i ≡ Ok sums → SoFar phases l i sums
  so_far i h sums e = subst (State i) e (state i h)

  pub refused_at : (i : ℕ) → i ≤ length l → (why : Refusal) → summed_to phases l i ≡ Err why → refusal_number why ≡ records_refusal l
  refused_at i h why e = subst (State i) e (state i h)

too_many : (l : List OwnLine) → is_record_count (length l) ≡ false → 12 ≡ records_refusal l
unfolding records_refusal
too_many l many = rw many refl

-- and so of a whole list
pub totals : (phases : Phases) (l : List OwnLine) → Totals phases l (summed_to phases l (cond (is_record_count (length l)) (length l) 0))
unfolding summed_to
totals phases l = by_test (is_record_count (length l)) refl
  where
    by_state : (few : is_record_count (length l) ≡ true) (r : Result Sums Refusal) → State phases l few (length l) r → Totals phases l r
    by_state few (Ok sums) so_far = whole phases l sums few so_far
    by_state few (Err why) e = e

    by_test : (b : Bool) → is_record_count (length l) ≡ b → Totals phases l (summed_to phases l (cond b (length l) 0))
    by_test true few = by_state few (summed_to phases l (length l)) (state phases l few (length l) (omega arith))
    by_test false many = rw many (too_many l many)

-- the first record, and one record more
pub none_taken : (phases : Phases) (l : List OwnLine) → is_record_count (length l) ≡ true
    → summed_to phases l 0 ≡ Ok (record { c20 = pos 0; c21 = pos 0; s21 = pos 0; c22 = pos 0; s22 = pos 0 })
unfolding summed_to
none_taken phases l few = rw few refl

pub one_taken : (phases : Phases) (l : List OwnLine) (i : ℕ) (sums : Sums) (r : Result Sums Refusal) → summed_to phases l i ≡ Ok sums
    → with_record phases sums (record_at l i) ≡ r → summed_to phases l (i + 1) ≡ r
unfolding summed_to
one_taken phases l i sums r e f = rw (add-one, e) f

-- all of them, and none of too many
pub all_taken : (phases : Phases) (l : List OwnLine) (sums : Sums) → is_record_count (length l) ≡ true → summed_to phases l (length l) ≡ Ok sums
    → Totals phases l (Ok sums)
all_taken phases l sums few e = subst (Totals phases l) e (rw few at (totals phases l))

none_begun : (phases : Phases) (l : List OwnLine) → is_record_count (length l) ≡ false → summed_to phases l 0 ≡ Err RecordCount
unfolding summed_to
none_begun phases l many = rw many refl

pub none_of_many : (phases : Phases) (l : List OwnLine) → is_record_count (length l) ≡ false → Totals phases l (Err RecordCount)
none_of_many phases l many = subst (Totals phases l) (none_begun phases l many) (rw many at (totals phases l))
