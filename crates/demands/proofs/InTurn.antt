-- Where the calls of step one and step two were accepted one after the other, the one call leaves what they left.
use mathlib.Core.List.{List, ◌∷◌}
use mathlib.Core.Logic.{◌⊎◌, inl, inr}
use mathlib.Core.Path.{◌≡◌, refl, sym, ap, ◌∙◌}
use Prim.Native.Nat.{ℕ, zero, suc, ◌+◌, ◌≤◌, ◌<◌}
use native.Mathlib.Omega.{arith}
use lib.IntN.{ℤ, pos, ◌+ℤ◌, +ℤ_idr, +ℤ_assoc}
use lib.ListN.{length}
use lib.Seq.{ext_get_or}
use Rattle.arguments.specs.declared.Phases.{Phases}
use Rattle.bands.specs.declared.Corrections.{Corrections}
use Rattle.bands.specs.Bands.{for_c, for_s}
use Rattle.bodies.specs.declared.Body.{Body}
use Rattle.choices.specs.declared.LoveModel.{LoveModel}
use Rattle.field.specs.Added.{added_at}
use Rattle.field.specs.Field.{field_refusal}
use Rattle.field.proofs.Added.{at_length}
use Rattle.refusals.specs.Outcome.{Outcome, unless_refused}
use Rattle.refusals.specs.Told.{told_number}
use Rattle.refusals.proofs.Outcomes.{outcome_number, first_none, first_passed}
use Rattle.selection.specs.Selection.{selection_refusal}
use Rattle.solid.specs.Solid.{plus, line_counts, with_lines, counts_of, solid_counts}
use Rattle.solid.proofs.Plus.{plus_at}
use Rattle.step_one.specs.StepOne.{Counts, places, corrections as body_corrections}
use Rattle.step_two.specs.StepTwo.{corrections as line_corrections}
use Rattle.surfgimlet.specs.Calls.{places_c, places_s, five_corrected, solid_tide_refusal, solid_by}
use Rattle.demands.specs.Demands.{at}
use Rattle.demands.specs.InTurn.{step_one_call, step_two_call, solid_tide_at}
use Rattle.demands.proofs.Five.{c_entry, s_entry, c_other, s_other}
use Rattle.demands.proofs.Solid.{outside, at_ten, by_place, has_room}

-- ---- a list with ten counts added, and ten more: the sum added once
module _ (by more l m : List ℤ) (room : 13 ≤ length l) (long : length m ≡ length l)
    (ten : (j : ℕ) → j < 10 → at m (3 + j) ≡ at (added_at places by l) (3 + j) +ℤ at more j)
    (rest : (k : ℕ) → (k < 3) ⊎ (13 ≤ k) → at m k ≡ at (added_at places by l) k)
  where
    each_ten : (j : ℕ) → j < 10 → at (added_at places (plus by more) l) (3 + j) ≡ at m (3 + j)
    each_ten j b =
        at_ten (plus by more) l room j b
        ∙ ap (λ (x : ℤ). at l (3 + j) +ℤ x) (plus_at by more j)
        ∙ sym (+ℤ_assoc (at l (3 + j)) (at by j) (at more j))
        ∙ ap (λ (x : ℤ). x +ℤ at more j) (sym (at_ten by l room j b))
        ∙ sym (ten j b)

    each_rest : (k : ℕ) → (k < 3) ⊎ (13 ≤ k) → at (added_at places (plus by more) l) k ≡ at m k
    each_rest k h = outside (plus by more) l k h ∙ sym (outside by l k h) ∙ sym (rest k h)

    at_once : added_at places (plus by more) l ≡ m
    at_once = ext_get_or (pos 0) _ _ (at_length places (plus by more) l ∙ sym long) (λ k b. by_place (λ k. at (added_at places (plus by more) l) k ≡ at m k) each_ten each_rest k)

-- of C and of S
module _ (l : List ℤ) (d : Corrections) (long : 5 < length l) where
  c_ten : (j : ℕ) → j < 10 → at (added_at places_c (for_c d) l) (3 + j) ≡ at l (3 + j) +ℤ at (for_c d) j
  unfolding places_c
  c_ten zero b = c_entry l d long 0 (omega arith)
  c_ten (suc zero) b = c_entry l d long 1 (omega arith)
  c_ten (suc (suc zero)) b = c_entry l d long 2 (omega arith)
  c_ten (suc (suc (suc j))) b = c_other l d _ (inr (omega arith)) ∙ sym (+ℤ_idr _)

  s_ten : (j : ℕ) → j < 10 → at (added_at places_s (for_s d) l) (3 + j) ≡ at l (3 + j) +ℤ at (pos 0 ∷ for_s d) j
  unfolding places_s
  s_ten zero b = s_other l d 3 (inl (omega arith)) ∙ sym (+ℤ_idr _)
  s_ten (suc zero) b = s_entry l d long 0 (omega arith)
  s_ten (suc (suc zero)) b = s_entry l d long 1 (omega arith)
  s_ten (suc (suc (suc j))) b = s_other l d _ (inr (omega arith)) ∙ sym (+ℤ_idr _)

  c_rest : (k : ℕ) → (k < 3) ⊎ (13 ≤ k) → at (added_at places_c (for_c d) l) k ≡ at l k
  c_rest k (inl h) = c_other l d k (inl h)
  c_rest k (inr h) = c_other l d k (inr (omega arith))

  s_rest : (k : ℕ) → (k < 3) ⊎ (13 ≤ k) → at (added_at places_s (for_s d) l) k ≡ at l k
  s_rest k (inl h) = s_other l d k (inl (omega arith))
  s_rest k (inr h) = s_other l d k (inr (omega arith))

module _ (by l : List ℤ) (d : Corrections) (room : 13 ≤ length l) where
  abbrev first : List ℤ
  first = added_at places by l

  first_length : length first ≡ length l
  first_length = at_length places by l

  c_at_once : added_at places (plus by (for_c d)) l ≡ added_at places_c (for_c d) first
  c_at_once =
      at_once by (for_c d) l (added_at places_c (for_c d) first) room (at_length places_c (for_c d) first ∙ first_length)
      (c_ten first d (omega (arith, first_length))) (c_rest first d (omega (arith, first_length)))

  s_at_once : added_at places (plus by (pos 0 ∷ for_s d)) l ≡ added_at places_s (for_s d) first
  s_at_once =
      at_once by (pos 0 ∷ for_s d) l (added_at places_s (for_s d) first) room (at_length places_s (for_s d) first ∙ first_length)
      (s_ten first d (omega (arith, first_length))) (s_rest first d (omega (arith, first_length)))

-- ---- the outcomes
module _ (n : ℕ) (c s : List ℤ) (moon sun : Body) (love : LoveModel) (phases : Phases) (selection : ℕ) where
  abbrev one : Outcome
  one = step_one_call n c s moon sun love

  abbrev two : Outcome
  two = step_two_call n one.c one.s phases love selection

  module _ (one-Passes : one.number ≡ 0) (two-passes : two.number ≡ 0) where
    one_none : (field_refusal n c s ≡ 0) × (told_number (body_corrections moon sun love) ≡ 0)
    unfolding step_one_call
    one_none = first_none _ _ (sym (outcome_number _ c s _ _) ∙ one-Passes)

    two_none : (field_refusal n one.c one.s ≡ 0) × (selection_refusal selection ≡ 0)
    unfolding step_two_call five_corrected
    two_none = first_none _ _ (sym (outcome_number _ one.c one.s _ _) ∙ two-passes)

    passes : solid_tide_refusal n c s moon sun love selection ≡ 0
    unfolding solid_tide_refusal
    passes = first_passed _ _ one_none.0 ∙ first_passed _ _ two_none.1 ∙ one_none.1

    abbrev counts : Counts
    counts = counts_of (body_corrections moon sun love)

    abbrev lines : Corrections
    lines = line_corrections phases love selection

    one_is : one ≡ record { number = 0; c = added_at places counts.c c; s = added_at places counts.s s }
    unfolding step_one_call unless_refused
    one_is = rw (first_passed _ (told_number (body_corrections moon sun love)) one_none.0, one_none.1) refl

    two_is : two ≡ record { number = 0; c = added_at places_c (for_c lines) one.c; s = added_at places_s (for_s lines) one.s }
    unfolding step_two_call five_corrected unless_refused
    two_is = rw (first_passed (field_refusal n one.c one.s) (selection_refusal selection) two_none.0, two_none.1) refl

    once_is : solid_tide_at n c s moon sun love phases selection
        ≡ record { number = 0; c = added_at places (plus counts.c (for_c lines)) c; s = added_at places (plus counts.s (pos 0 ∷ for_s lines)) s }
    unfolding solid_tide_at solid_by unless_refused solid_counts with_lines line_counts
    once_is = rw passes refl

    in_c : added_at places (plus counts.c (for_c lines)) c ≡ added_at places_c (for_c lines) one.c
    in_c = c_at_once counts.c c lines (has_room n c s one_none.0).0 ∙ ap (λ (o : Outcome). added_at places_c (for_c lines) o.c) (sym one_is)

    in-s : added_at places (plus counts.s (pos 0 ∷ for_s lines)) s ≡ added_at places_s (for_s lines) one.s
    in-s = s_at_once counts.s s lines (has_room n c s one_none.0).1 ∙ ap (λ (o : Outcome). added_at places_s (for_s lines) o.s) (sym one_is)

    pub in_turn : solid_tide_at n c s moon sun love phases selection ≡ two
    in_turn = once_is ∙ (λ i. record { number = 0; c = in_c i; s = in-s i }) ∙ sym two_is
