-- Each entry after own lines, where nothing is refused: five moved by their corrections, every other as before.
use mathlib.Core.Path.{◌≡◌, ap, ◌∙◌}
use mathlib.Core.List.{List}
use mathlib.Core.Logic.{◌⊎◌, inl, inr}
use Prim.Native.Nat.{ℕ, ◌≤◌, ◌<◌}
use native.Mathlib.Omega.{arith}
use lib.IntN.{ℤ, ◌+ℤ◌}
use lib.ListN.{length, get_or}
use Rattle.arguments.specs.declared.Phases.{Phases}
use Rattle.bands.specs.declared.Corrections.{Corrections}
use Rattle.bands.specs.Bands.{Coefficient, C20, C21, S21, C22, S22, for_c, for_s}
use Rattle.field.specs.Added.{added_at}
use Rattle.field.specs.Field.{place, field_refusal}
use Rattle.field.proofs.Accepted.{accepted_field, degree_two}
use Rattle.field.proofs.Added.{at_here, at_elsewhere, at_rises}
use Rattle.own.specs.declared.OwnLine.{OwnLine}
use Rattle.own.specs.Own.{records_refusal, own_corrections}
use Rattle.refusals.specs.Outcome.{unless_refused}
use Rattle.refusals.proofs.Outcomes.{first_none}
use Rattle.surfgimlet.specs.Calls.{places_c, places_s, five_corrected, own_lines_refusal, own_lines}
use Rattle.surfgimlet.proofs.Five.{c_run, s_run}
use Rattle.demands.specs.Demands.{at, entry_of, of_lines, FiveEntries}

module _ (l : List ℤ) (d : Corrections) where
  pub c_entry : 5 < length l → (j : ℕ) → j < length places_c → at (added_at places_c (for_c d) l) (get_or places_c j 0) ≡ at l (get_or places_c j 0) +ℤ at (for_c d) j
  unfolding places_c
  c_entry long j h = at_here places_c (for_c d) l (at_rises places_c (for_c d) l 3 c_run) j h (omega (arith, c_run j h))

  pub s_entry : 5 < length l → (j : ℕ) → j < length places_s → at (added_at places_s (for_s d) l) (get_or places_s j 0) ≡ at l (get_or places_s j 0) +ℤ at (for_s d) j
  unfolding places_s
  s_entry long j h = at_here places_s (for_s d) l (at_rises places_s (for_s d) l 4 s_run) j h (omega (arith, s_run j h))

  pub c_other : (k : ℕ) → (k < 3) ⊎ (6 ≤ k) → at (added_at places_c (for_c d) l) k ≡ at l k
  unfolding places_c
  c_other k (inl h) = at_elsewhere places_c (for_c d) l k (λ j b e. omega (arith, c_run j b))
  c_other k (inr h) = at_elsewhere places_c (for_c d) l k (λ j b e. omega (arith, c_run j b))

  pub s_other : (k : ℕ) → (k < 4) ⊎ (6 ≤ k) → at (added_at places_s (for_s d) l) k ≡ at l k
  unfolding places_s
  s_other k (inl h) = at_elsewhere places_s (for_s d) l k (λ j b e. omega (arith, s_run j b))
  s_other k (inr h) = at_elsewhere places_s (for_s d) l k (λ j b e. omega (arith, s_run j b))

-- an entry of a list that an equation gives
pub read : {l m : List ℤ} → l ≡ m → (k : ℕ) → at l k ≡ at m k
read e k = ap (λ (x : List ℤ). at x k) e

module _ (number : ℕ) (c s : List ℤ) (d : Corrections) (passed : number ≡ 0) where
  c_is : (five_corrected number c s d).c ≡ added_at places_c (for_c d) c
  unfolding five_corrected unless_refused
  c_is = rw passed

  s_is : (five_corrected number c s d).s ≡ added_at places_s (for_s d) s
  unfolding five_corrected unless_refused
  s_is = rw passed

  module _ (long-c : 5 < length c) (long-s : 5 < length s) where
    moved : (k : Coefficient) → entry_of (five_corrected number c s d).c (five_corrected number c s d).s k ≡ entry_of c s k +ℤ of_lines d k
    unfolding places_c places_s place
    moved C20 = read c_is _ ∙ c_entry c d long-c 0 (omega arith)
    moved C21 = read c_is _ ∙ c_entry c d long-c 1 (omega arith)
    moved S21 = read s_is _ ∙ s_entry s d long-s 0 (omega arith)
    moved C22 = read c_is _ ∙ c_entry c d long-c 2 (omega arith)
    moved S22 = read s_is _ ∙ s_entry s d long-s 1 (omega arith)

    entries : FiveEntries c s (five_corrected number c s d) d
    unfolding place
    entries = record {
      five = moved;
      c_elsewhere = λ k h. read c_is k ∙ c_other c d k h;
      s_elsewhere = λ k h. read s_is k ∙ s_other s d k h;
    }

-- of a field that is not refused
on_field : (n number : ℕ) (c s : List ℤ) (d : Corrections) → field_refusal n c s ≡ 0 → number ≡ 0 → FiveEntries c s (five_corrected number c s d) d
on_field n number c s d field passed =
    let a = accepted_field n c s field in
    entries number c s d passed (degree_two n c a.least a.c_size) (degree_two n s a.least a.s_size)

-- of an accepted call the list is accepted
pub own_passed : (n : ℕ) (c s : List ℤ) (lines : List OwnLine) → own_lines_refusal n c s lines ≡ 0 → records_refusal lines ≡ 0
unfolding own_lines_refusal
own_passed n c s lines e = (first_none (field_refusal n c s) (records_refusal lines) e).1

pub own-lines : (n : ℕ) (c s : List ℤ) (lines : List OwnLine) (phases : Phases) → own_lines_refusal n c s lines ≡ 0 → FiveEntries c s (own_lines n c s lines phases) (own_corrections phases lines)
unfolding own_lines own_lines_refusal
own-lines n c s lines phases passed = on_field n _ c s (own_corrections phases lines) (first_none _ _ passed).0 passed
