-- A field written (document 02, T-10): its refusals 1, 2 and 21 in this order, the answer, and every byte of the output afterwards.
use Rattle.std.specs.Prelude.{cond, List, ◌++◌, ◌≡◌, ℕ, eqb, leb, ℤ, length, drop}
use Rattle.choices.specs.declared.PermanentSystem.{PermanentSystem}
use Rattle.field.specs.Field.{field_refusal}
use Rattle.refusals.specs.Outcome.{first_of, told_unless}
use Rattle.refusals.specs.Told.{Told}
use Rattle.icgem_write.specs.Written.{file_text}

-- 21: "an output too small", after the field's 1 and 2
unfoldable pub write_refusal : ℕ → List ℤ → List ℤ → List ℕ → ℕ → ℕ
write_refusal n c s text room = first_of (field_refusal n c s) (cond (leb (length text) room) 0 21)

-- a text stands at the output's start, and every byte after it stays; where a number refuses the call, every byte stays
unfoldable pub bytes_after : ℕ → List ℕ → List ℕ → List ℕ
bytes_after number text out = cond (eqb number 0) (text ++ drop (length text) out) out

-- the call's answer, how many bytes were written, and the output as it returns
pub record Writes (n : ℕ) (c s : List ℤ) (constant radius : ℕ) (system : PermanentSystem) (out : List ℕ) (told : Told ℕ) (after : List ℕ) : Type 0 where
  pub answer : told ≡ told_unless (write_refusal n c s (file_text n c s constant radius system) (length out)) (length (file_text n c s constant radius system))
  pub bytes_are : after ≡ bytes_after (write_refusal n c s (file_text n c s constant radius system) (length out)) (file_text n c s constant radius system) out
