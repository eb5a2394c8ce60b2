-- Every entry after an accepted solid tide: the ten places have the counts of both steps; every other entry, and S at order 0, is as it was.
use mathlib.Core.Path.{◌≡◌, refl, ap, subst, ◌∙◌}
use borrow.Author.Tests.{leb-true, leb-false}
use mathlib.Core.Bool.{Bool, true, false}
use mathlib.Core.List.{List, ◌∷◌}
use mathlib.Core.Logic.{◌⊎◌, inl, inr}
use Prim.Native.Nat.{ℕ, zero, suc, ◌+◌, ◌*◌, ◌/◌, ◌^◌, ◌≤◌, ◌<◌}
use lib.Dec.{leb}
use native.Mathlib.Nat.{mul-le-mul}
use native.Mathlib.Omega.{arith}
use lib.IntN.{ℤ, pos, nat_abs, ◌+ℤ◌, +ℤ_idr}
use lib.ListN.{get_or, length}
use Rattle.bands.specs.declared.Corrections.{Corrections}
use Rattle.bands.specs.Inner.{Small as SmallCorrections}
use Rattle.bands.specs.Bands.{Coefficient, C20, C21, S21, C22, S22, for_c, for_s}
use Rattle.choices.specs.declared.LoveModel.{LoveModel}
use Rattle.refusals.specs.Told.{Told}
use Rattle.refusals.specs.Told.Told.{accepted, refused}
use Rattle.refusals.specs.Outcome.{Outcome, unless_refused}
use Rattle.refusals.proofs.Outcomes.{first_none}
use Rattle.field.specs.Field.{place, every_in_range, field_refusal}
use Rattle.field.specs.Added.{added_at}
use Rattle.field.proofs.Added.{at_here, at_elsewhere, at_rises}
use Rattle.field.proofs.Accepted.{accepted_field, place_below}
use Rattle.field.proofs.Entries.{entry_in_range}
use Rattle.bodies.specs.declared.Body.{Body}
use Rattle.step_one.specs.StepOne.{places, Counts, corrections as body_corrections}
use Rattle.step_one.proofs.Places.{place_at}
use Rattle.step_one.specs.Inner.{Small}
use Rattle.step_one.proofs.Counted.{WhereAccepted, SmallCounts, accepted_small, NoOrderZero, no_order_zero}
use Rattle.hour.specs.declared.Hour.{Hour}
use Rattle.hour.specs.Hour.{HourCall, reached}
use Rattle.hour.proofs.Reached.{reached_fresh}
use Rattle.step_two.specs.StepTwo.{corrections as line_corrections, kept_corrections}
use Rattle.step_two.proofs.Kept.{fresh_corrections}
use Rattle.step_two.proofs.Sizes.{In32Bits, kept_small}
use Rattle.step_two.proofs.Unnamed.{no_lines}
use Rattle.solid.specs.Solid.{line_counts, with_lines, counts_of, solid_counts}
use Rattle.solid.proofs.Plus.{plus_at}
use Rattle.solid.specs.Inner.{Room}
use Rattle.solid.proofs.Sizes.{with_lines_c, with_lines_s, still_no_order_zero}
use Rattle.surfgimlet.specs.Calls.{solid_tide_refusal, solid_by, solid_tide}
use Rattle.whole.proofs.Parts.{abs_sum}
use Rattle.demands.specs.Demands.{at, entry_of, of_bodies, of_lines, SolidEntries}
use Rattle.demands.proofs.Five.{read}

module _ (by l : List ℤ) where
  pub outside : (k : ℕ) → (k < 3) ⊎ (13 ≤ k) → get_or (added_at places by l) k (pos 0) ≡ get_or l k (pos 0)
  unfolding places
  outside k (inl h) = at_elsewhere places by l k (λ j b e. omega (arith, place_at j b))
  outside k (inr h) = at_elsewhere places by l k (λ j b e. omega (arith, place_at j b))

  module _ (room : 13 ≤ length l) where
    here : (j : ℕ) → j < 10 → get_or (added_at places by l) (get_or places j 0) (pos 0) ≡ get_or l (get_or places j 0) (pos 0) +ℤ get_or by j (pos 0)
    unfolding places
    here j b = at_here places by l (at_rises places by l 3 place_at) j b (omega (arith, place_at j b))

    pub at_ten : (j : ℕ) → j < 10 → get_or (added_at places by l) (3 + j) (pos 0) ≡ get_or l (3 + j) (pos 0) +ℤ get_or by j (pos 0)
    at_ten j b = subst (λ (p : ℕ). get_or (added_at places by l) p (pos 0) ≡ get_or l p (pos 0) +ℤ get_or by j (pos 0)) (place_at j b) (here j b)

    by_nothing : (j k : ℕ) → j < 10 → 3 + j ≡ k → get_or by j (pos 0) ≡ pos 0 → get_or (added_at places by l) k (pos 0) ≡ get_or l k (pos 0)
    by_nothing j k b e z =
        subst (λ (p : ℕ). get_or (added_at places by l) p (pos 0) ≡ get_or l p (pos 0)) (place_at j b ∙ e)
        (here j b ∙ ap (λ (x : ℤ). get_or l (get_or places j 0) (pos 0) +ℤ x) z ∙ +ℤ_idr (get_or l (get_or places j 0) (pos 0)))

-- a place is one of the ten, or none of them
pub by_place : (P : ℕ → Type 0) → ((j : ℕ) → j < 10 → P (3 + j)) → ((k : ℕ) → (k < 3) ⊎ (13 ≤ k) → P k) → (k : ℕ) → P k
by_place P ten rest zero = rest 0 (inl (omega arith))
by_place P ten rest (suc zero) = rest 1 (inl (omega arith))
by_place P ten rest (suc (suc zero)) = rest 2 (inl (omega arith))
by_place P ten rest (suc (suc (suc j))) = by_test (leb 10 j) refl
  where
    by_test : (b : Bool) → leb 10 j ≡ b → P (suc (suc (suc j)))
    by_test true e = rest _ (inr (omega (arith, leb-true 10 j e)))
    by_test false e = let three : 3 + j ≡ suc (suc (suc j)) = omega arith in subst P three (ten j (leb-false 10 j e))

-- ---- S at order 0
far : (d : ℕ) → 13 ≤ (5 + d) * (5 + d + 1) / 2 + 0
far d =
    let a : 5 ≤ 5 + d = omega arith in
    let b : 6 ≤ 5 + d + 1 = omega arith in
    omega (arith, mul-le-mul a b)

zeros : (t : Told Counts) → WhereAccepted NoOrderZero t → NoOrderZero (counts_of t)
zeros (accepted k) h = h
zeros (refused number) h = record { s20 = refl; s30 = refl; s40 = refl }

order_zero : (s : List ℤ) (by : Counts) → 13 ≤ length s → NoOrderZero by → (d : ℕ)
    → get_or (added_at places by.s s) (place d 0) (pos 0) ≡ get_or s (place d 0) (pos 0)
unfolding place
order_zero s by room z zero = outside by.s s 0 (inl (omega arith))
order_zero s by room z (suc zero) = outside by.s s 1 (inl (omega arith))
order_zero s by room z (suc (suc zero)) = by_nothing by.s s room 0 3 (omega arith) refl z.s20
order_zero s by room z (suc (suc (suc zero))) = by_nothing by.s s room 3 6 (omega arith) refl z.s30
order_zero s by room z (suc (suc (suc (suc zero)))) = by_nothing by.s s room 7 10 (omega arith) refl z.s40
order_zero s by room z (suc (suc (suc (suc (suc d))))) = outside by.s s (place (suc (suc (suc (suc (suc d))))) 0) (inr (omega (arith, far d)))

-- an accepted field has the ten places
pub has_room : (n : ℕ) (c s : List ℤ) → field_refusal n c s ≡ 0 → (13 ≤ length c) × (13 ≤ length s)
unfolding place
has_room n c s e =
    let a = accepted_field n c s e in
    let p = place_below n 4 2 a.least (omega arith) in
    (omega (arith, a.c_size), omega (arith, a.s_size))

-- where nothing is refused
module _ (n : ℕ) (c s : List ℤ) (moon sun : Body) (love : LoveModel) (selection : ℕ) (two : Corrections) (passed : solid_tide_refusal n c s moon sun love selection ≡ 0) where
  abbrev one : Counts
  one = counts_of (body_corrections moon sun love)

  abbrev counts : Counts
  counts = solid_counts moon sun love two

  abbrev o : Outcome
  o = solid_by n c s moon sun love selection two

  c_is : o.c ≡ added_at places counts.c c
  unfolding solid_by unless_refused
  c_is = rw passed

  s_is : o.s ≡ added_at places counts.s s
  unfolding solid_by unless_refused
  s_is = rw passed

  room : (13 ≤ length c) × (13 ≤ length s)
  unfolding solid_tide_refusal
  room = has_room n c s (first_none (field_refusal n c s) _ passed).0

  -- each of the ten places has the sum of both steps' counts
  c_here : (j : ℕ) → j < 10 → at o.c (get_or places j 0) ≡ at c (get_or places j 0) +ℤ (at one.c j +ℤ at (for_c two) j)
  unfolding solid_counts with_lines line_counts
  c_here j b = read c_is (get_or places j 0) ∙ here counts.c c room.0 j b ∙ ap (λ (x : ℤ). at c (get_or places j 0) +ℤ x) (plus_at one.c (for_c two) j)

  s_here : (j : ℕ) → j < 10 → at o.s (get_or places j 0) ≡ at s (get_or places j 0) +ℤ (at one.s j +ℤ at (pos 0 ∷ for_s two) j)
  unfolding solid_counts with_lines line_counts
  s_here j b = read s_is (get_or places j 0) ∙ here counts.s s room.1 j b ∙ ap (λ (x : ℤ). at s (get_or places j 0) +ℤ x) (plus_at one.s (pos 0 ∷ for_s two) j)

  five : (k : Coefficient) → entry_of o.c o.s k ≡ entry_of c s k +ℤ (of_bodies one k +ℤ of_lines two k)
  unfolding places
  five C20 = c_here 0 (omega arith)
  five C21 = c_here 1 (omega arith)
  five S21 = s_here 1 (omega arith)
  five C22 = c_here 2 (omega arith)
  five S22 = s_here 2 (omega arith)

  -- step two has nothing beyond degree two
  alone : (j : ℕ) → 3 ≤ j → j < 10
      → (at o.c (get_or places j 0) ≡ at c (get_or places j 0) +ℤ at one.c j) × (at o.s (get_or places j 0) ≡ at s (get_or places j 0) +ℤ at one.s j)
  alone zero h b = absurd (omega arith)
  alone (suc zero) h b = absurd (omega arith)
  alone (suc (suc zero)) h b = absurd (omega arith)
  alone (suc (suc (suc j))) h b =
      let k = suc (suc (suc j)) in (
        c_here k b ∙ ap (λ (x : ℤ). at c (get_or places k 0) +ℤ x) (+ℤ_idr (at one.c k)),
        s_here k b ∙ ap (λ (x : ℤ). at s (get_or places k 0) +ℤ x) (+ℤ_idr (at one.s k)),
      )

  no_zonal : NoOrderZero counts
  unfolding solid_counts
  no_zonal = still_no_order_zero one two (zeros (body_corrections moon sun love) (no_order_zero moon sun love))

  pub solid_entries : SolidEntries c s o one two
  unfolding place
  solid_entries = record {
    degree_two = five;
    beyond = alone;
    elsewhere = λ k h. (read c_is k ∙ outside counts.c c k h, read s_is k ∙ outside counts.s s k h);
    -- "S(n,0) is never changed."
    order_zero = λ d. read s_is (place d 0) ∙ order_zero s counts room.1 no_zonal d;
  }

  -- no sum leaves 64 bits: entries of at most 2^60, and counts of at most 2^54
  small_bodies : (t : Told Counts) → body_corrections moon sun love ≡ t → SmallCounts (counts_of t)
  small_bodies (accepted k) e = accepted_small moon sun love k e
  small_bodies (refused number) e = record { in_c = record { size = λ k. omega arith }; in-s = record { size = λ k. omega arith } }

  both_small : SmallCorrections two → Room one two
  both_small lines = let small = small_bodies (body_corrections moon sun love) refl in record { in_c = small.in_c; in-s = small.in-s; lines = lines }

  entry-small : (by l : List ℤ) → Small 54 by → every_in_range l ≡ true → 13 ≤ length l → (k : ℕ) → nat_abs (get_or (added_at places by l) k (pos 0)) ≤ 2 ^ 60 + 2 ^ 54
  entry-small by l small range long =
      by_place (λ k. nat_abs (get_or (added_at places by l) k (pos 0)) ≤ 2 ^ 60 + 2 ^ 54)
      (λ j b. rw (at_ten by l long j b) (omega (arith, abs_sum (get_or l (3 + j) (pos 0)) (get_or by j (pos 0)), entry_in_range l range (3 + j), small.size j)))
      (λ k h. rw (outside by l k h) (omega (arith, entry_in_range l range k)))

  no_sum_leaves_by : SmallCorrections two → (k : ℕ) → (nat_abs (at o.c k) ≤ 2 ^ 60 + 2 ^ 54) × (nat_abs (at o.s k) ≤ 2 ^ 60 + 2 ^ 54)
  unfolding solid_tide_refusal solid_counts
  no_sum_leaves_by lines k =
      let a = accepted_field n c s (first_none (field_refusal n c s) _ passed).0 in
      let small = both_small lines in (
        rw c_is (entry-small counts.c c (with_lines_c one two small) a.c_range room.0 k),
        rw s_is (entry-small counts.s s (with_lines_s one two small) a.s_range room.1 k),
      )

-- of any hour record
module _ (n : ℕ) (c s : List ℤ) (moon sun : Body) (love : LoveModel) (hour : Hour) (selection : ℕ) (passed : solid_tide_refusal n c s moon sun love selection ≡ 0) where
  abbrev after : Outcome
  after = solid_tide n c s moon sun love hour selection

  pub any_hour : SolidEntries c s after (counts_of (body_corrections moon sun love)) (kept_corrections hour love selection)
  unfolding solid_tide
  any_hour = solid_entries n c s moon sun love selection (kept_corrections hour love selection) passed

  -- nothing wraps, for any signed 32-bit values
  pub no_sum_leaves : In32Bits hour → (k : ℕ) → (nat_abs (at after.c k) ≤ 2 ^ 60 + 2 ^ 54) × (nat_abs (at after.s k) ≤ 2 ^ 60 + 2 ^ 54)
  unfolding solid_tide
  no_sum_leaves held k = no_sum_leaves_by n c s moon sun love selection (kept_corrections hour love selection) passed (kept_small hour held love selection) k

-- no line named: step one alone
pub none_named : (n : ℕ) (c s : List ℤ) (moon sun : Body) (love : LoveModel) (hour : Hour) → solid_tide_refusal n c s moon sun love 0 ≡ 0
    → SolidEntries c s (solid_tide n c s moon sun love hour 0) (counts_of (body_corrections moon sun love)) (record { c20 = pos 0; c21 = pos 0; s21 = pos 0; c22 = pos 0; s22 = pos 0 })
none_named n c s moon sun love hour passed =
    subst (SolidEntries c s (solid_tide n c s moon sun love hour 0) (counts_of (body_corrections moon sun love))) (no_lines hour love) (any_hour n c s moon sun love hour 0 passed)

-- of those reached: what step two gives from their phases
pub solid-tide : (n : ℕ) (c s : List ℤ) (moon sun : Body) (love : LoveModel) (calls : List HourCall) (selection : ℕ) → solid_tide_refusal n c s moon sun love selection ≡ 0
    → SolidEntries c s (solid_tide n c s moon sun love (reached calls) selection) (counts_of (body_corrections moon sun love)) (line_corrections (reached calls).phases love selection)
solid-tide n c s moon sun love calls selection passed =
    subst (SolidEntries c s (solid_tide n c s moon sun love (reached calls) selection) (counts_of (body_corrections moon sun love)))
    (fresh_corrections (reached calls) (reached_fresh calls) love selection) (any_hour n c s moon sun love (reached calls) selection passed)
