-- Every entry after a call that nothing refuses: a place of the sheet has its correction added, every other entry is as before, and so is S(n,0).
use mathlib.Core.List.{List}
use mathlib.Core.Bool.{Bool, true, false}
use mathlib.Core.Path.{◌≡◌, refl, sym, ap, subst, ◌∙◌}
use Prim.Native.Nat.{ℕ, zero, suc, ◌≤◌, ◌<◌}
use native.Mathlib.Omega.{arith}
use borrow.Author.Tests.{eqb-true, eqb-false}
use lib.Dec.{eqb}
use lib.IntN.{ℤ, pos, ◌+ℤ◌, +ℤ_idr}
use lib.ListN.{length, get_or}
use Rattle.arguments.specs.declared.Phases.{Phases}
use Rattle.choices.specs.declared.Frame.{Frame}
use Rattle.field.specs.Field.{place, field_refusal}
use Rattle.refusals.specs.Outcome.{unless_refused}
use Rattle.field.proofs.Accepted.{accepted_field, place_below}
use Rattle.refusals.proofs.Outcomes.{first_none}
use Rattle.field.specs.Added.{corrected, added}
use Rattle.field.proofs.Entries.{corrected_here, corrected_elsewhere}
use Rattle.field.proofs.Added.{added_length, added_here, added_elsewhere}
use Rattle.places.specs.Places.{index_of}
use Rattle.places.proofs.Zonal.{no_correction, zonal_place}
use Rattle.sheet.specs.Accepted.{sheet_refusal}
use Rattle.sheet.specs.Sheet.{place_count, order}
use Rattle.sheet.proofs.Acceptance.{Accepted, accepted}
use Rattle.ocean.specs.Ocean.{d_c, d_s}
use Rattle.surfgimlet.specs.Calls.{ocean_refusal, ocean_tide}
use Rattle.surfgimlet.proofs.OceanTide.{passing}
use Rattle.ocean.proofs.Rises.{rises}

-- an entry is as it was where each of the first n places that stands there is corrected by zero
module _ (at : ℕ → ℕ) (d : ℕ → ℤ) (l : List ℤ) where
  added_kept : (k n : ℕ) → k < length l → ((j : ℕ) → j < n → k ≡ at j → d j ≡ pos 0) → get_or (added at d n l) k (pos 0) ≡ get_or l k (pos 0)
  unfolding added
  added_kept k zero m h = refl
  added_kept k (suc n) m h = by_test (added_kept k n m (λ j g. h j (omega arith))) (eqb k (at n)) refl
    where
      by_test : get_or (added at d n l) k (pos 0) ≡ get_or l k (pos 0) → (t : Bool) → eqb k (at n) ≡ t → get_or (corrected (added at d n l) (at n) (d n)) k (pos 0) ≡ get_or l k (pos 0)
      by_test before true e =
          let q : k ≡ at n = eqb-true k (at n) e in
          ap (λ (i : ℕ). get_or (corrected (added at d n l) i (d n)) k (pos 0)) (sym q)
          ∙ corrected_here (added at d n l) k (d n) (omega (arith, added_length at d l n))
          ∙ ap (λ (z : ℤ). get_or (added at d n l) k (pos 0) +ℤ z) (h n (omega arith) q)
          ∙ +ℤ_idr (get_or (added at d n l) k (pos 0))
          ∙ before
      by_test before false e = corrected_elsewhere (added at d n l) (at n) (d n) k (eqb-false k (at n) e) ∙ before

module _ (n : ℕ) (c s : List ℤ) (sheet : List ℕ) (phases : Phases) (frame : Frame) (e : ocean_refusal n c s sheet ≡ 0) where
  good : Accepted sheet
  good = accepted sheet (passing n c s sheet e).0

  c_is : (ocean_tide n c s sheet phases frame).c ≡ added (index_of sheet) (d_c sheet phases frame) (place_count sheet) c
  unfolding ocean_tide unless_refused
  c_is = rw e

  s_is : (ocean_tide n c s sheet phases frame).s ≡ added (index_of sheet) (d_s sheet phases frame) (place_count sheet) s
  unfolding ocean_tide unless_refused
  s_is = rw e

  field_passed : field_refusal n c s ≡ 0
  unfolding ocean_refusal
  field_passed = (first_none (field_refusal n c s) (sheet_refusal sheet n) e).0

  -- an entry of a list that an equation gives
  read : {l m : List ℤ} → l ≡ m → (at : ℕ) → get_or l at (pos 0) ≡ get_or m at (pos 0)
  read q at = ap (λ (x : List ℤ). get_or x at (pos 0)) q

  pub c_here : (j : ℕ) → j < place_count sheet
      → get_or (ocean_tide n c s sheet phases frame).c (index_of sheet j) (pos 0) ≡ get_or c (index_of sheet j) (pos 0) +ℤ d_c sheet phases frame j
  c_here j h =
      read c_is (index_of sheet j) ∙ added_here (index_of sheet) (d_c sheet phases frame) c (place_count sheet) (rises good (place_count sheet) (omega arith)) j h ((passing n c s sheet e).1.0.has j h)

  pub s_here : (j : ℕ) → j < place_count sheet
      → get_or (ocean_tide n c s sheet phases frame).s (index_of sheet j) (pos 0) ≡ get_or s (index_of sheet j) (pos 0) +ℤ d_s sheet phases frame j
  s_here j h =
      read s_is (index_of sheet j) ∙ added_here (index_of sheet) (d_s sheet phases frame) s (place_count sheet) (rises good (place_count sheet) (omega arith)) j h ((passing n c s sheet e).1.1.has j h)

  pub c_elsewhere : (at : ℕ) → ((j : ℕ) → j < place_count sheet → at ≡ index_of sheet j → ⊥) → get_or (ocean_tide n c s sheet phases frame).c at (pos 0) ≡ get_or c at (pos 0)
  c_elsewhere at h = read c_is at ∙ added_elsewhere (index_of sheet) (d_c sheet phases frame) c (place_count sheet) at h

  pub s_elsewhere : (at : ℕ) → ((j : ℕ) → j < place_count sheet → at ≡ index_of sheet j → ⊥) → get_or (ocean_tide n c s sheet phases frame).s at (pos 0) ≡ get_or s at (pos 0)
  s_elsewhere at h = read s_is at ∙ added_elsewhere (index_of sheet) (d_s sheet phases frame) s (place_count sheet) at h

  -- the S counts of order 0 are zero, and no other place stands there
  zonal_d_s : (j : ℕ) → j < place_count sheet → order sheet j ≡ 0 → d_s sheet phases frame j ≡ pos 0
  unfolding d_s
  zonal_d_s j h z =
      no_correction sheet _ _ _ _ j (λ k g. ((good.places j h).tide k g).s-cos z) (λ k g. ((good.places j h).tide k g).s-sin z) frame

  pub s_zonal : (m : ℕ) → m ≤ n → get_or (ocean_tide n c s sheet phases frame).s (place m 0) (pos 0) ≡ get_or s (place m 0) (pos 0)
  s_zonal m h =
      let long : place m 0 < length s =
      subst (λ (k : ℕ). place m 0 < k) (sym (accepted_field n c s field_passed).s_size) (place_below n m 0 h (omega arith)) in
      read s_is (place m 0)
      ∙ added_kept (index_of sheet) (d_s sheet phases frame) s (place m 0) (place_count sheet) long
      (λ j g q. zonal_d_s j g (zonal_place m _ (order sheet j) (good.places j g).order_most q))
