-- What a field written is, from its tests and from the text that is put.
use mathlib.Core.Bool.{cond}
use mathlib.Core.Path.{◌≡◌, refl, sym, ap, ◌∙◌}
use mathlib.Core.List.{List, ◌++◌}
use Prim.Native.Nat.{ℕ, ◌≤◌, ◌<◌}
use native.Mathlib.Nat.{zero-add}
use native.Mathlib.Omega.{arith}
use borrow.Author.Tests.{le-leb, lt-leb, ne_eqb}
use lib.Dec.{leb}
use lib.IntN.{ℤ}
use lib.ListN.{length, drop}
use lib.Seq.{sets-eq}
use Rattle.choices.specs.declared.PermanentSystem.{PermanentSystem}
use Rattle.field.specs.Field.{field_refusal}
use Rattle.refusals.specs.Outcome.{first_of, told_unless}
use Rattle.refusals.specs.Told.Told.{accepted, refused}
use Rattle.refusals.proofs.Outcomes.{first_passed, first_kept}
use Rattle.text.specs.Inner.{Put}
use Rattle.icgem_write.specs.Written.{file_text}
use Rattle.icgem_write.specs.Outcome.{write_refusal, bytes_after, Writes}

module _ (n : ℕ) (c s : List ℤ) (constant radius : ℕ) (system : PermanentSystem) (out : List ℕ) where
  abbrev text : List ℕ
  text = file_text n c s constant radius system

  -- by the call's number
  by_number : (number : ℕ) → write_refusal n c s text (length out) ≡ number → (number ≡ 0 → ⊥) → Writes n c s constant radius system out (refused number) out
  unfolding told_unless bytes_after
  by_number number e other = record { answer = rw (e, ne_eqb number 0 other) refl; bytes_are = rw (e, ne_eqb number 0 other) refl }

  pub writes_refused : (number : ℕ) → number ≡ field_refusal n c s → (number ≡ 0 → ⊥) → Writes n c s constant radius system out (refused number) out
  unfolding write_refusal
  writes_refused number e other = by_number number (first_kept _ _ (λ z. other (e ∙ z)) ∙ sym e) other

  pub writes_short : field_refusal n c s ≡ 0 → length out < length text → Writes n c s constant radius system out (refused 21) out
  unfolding write_refusal
  writes_short e h = by_number 21 (first_passed _ _ e ∙ rw (lt-leb (length text) (length out) h) refl) (λ z. omega arith)

  pub writes_text : field_refusal n c s ≡ 0 → length text ≤ length out → {after : List ℕ} {count : ℕ} → Put out 0 text after count
      → Writes n c s constant radius system out (accepted count) after
  unfolding write_refusal told_unless bytes_after
  writes_text e h {after} {count} p = record {
    answer = rw (number, p.next_is, zero-add (length text)) refl;
    bytes_are = rw number (p.bytes_are ∙ sets-eq text out 0 (omega arith) ∙ ap (λ (k : ℕ). text ++ drop k out) (zero-add (length text)));
  }
    where
      number : first_of (field_refusal n c s) (cond (leb (length text) (length out)) 0 21) ≡ 0
      number = first_passed _ _ e ∙ rw (le-leb (length text) (length out) h) refl
