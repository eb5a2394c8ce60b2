-- Document 02, T-10: "Write a field back with 15 decimals, and show that reading it returns the field". The field and what stands in its header beside it
-- are any that are written: a field that is not refused, constants of 64 bits, any permanent system.
use Rattle.std.specs.Prelude.{List, ◌≡◌, ℕ, ◌^◌, ◌<◌, ℤ, length}
use Rattle.choices.specs.declared.PermanentSystem.{PermanentSystem}
use Rattle.field.specs.Field.{size, field_refusal}
use Rattle.icgem_file.specs.declared.FileHead.{FileHead}
use Rattle.icgem_file.specs.File.{file_head, read_file}
use Rattle.icgem_write.specs.Written.{file_text}
use Rattle.refusals.specs.Told.{Told}
use Rattle.refusals.specs.Told.Told.{accepted}

-- what the header says
abbrev pub told : ℕ → ℕ → ℕ → PermanentSystem → Told FileHead
told n constant radius system = accepted (record { degree = n; constant = constant; radius = radius; system = system })

pub record Return : Type 0 where
  pub head : (n : ℕ) (c s : List ℤ) (constant radius : ℕ) (system : PermanentSystem) → field_refusal n c s ≡ 0 → constant < 2 ^ 64 → radius < 2 ^ 64
      → file_head (file_text n c s constant radius system) ≡ told n constant radius system
  -- whatever the lists of its size held
  pub field : (n : ℕ) (c s : List ℤ) (constant radius : ℕ) (system : PermanentSystem) → field_refusal n c s ≡ 0 → constant < 2 ^ 64 → radius < 2 ^ 64
      → (c₀ s₀ : List ℤ) → length c₀ ≡ size n → length s₀ ≡ size n
      → read_file (file_text n c s constant radius system) c₀ s₀ ≡ record { head = told n constant radius system; c = c; s = s }
