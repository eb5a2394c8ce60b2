-- What a call without lent lists answers (document 01, "Refusal numbers").
use Rattle.std.specs.Prelude.{ℕ}

-- what a call without lent lists answers: a value, or a refusal that carries only its number
pub data Told (A : Type 0) : Type 0 where
  accepted : A → Told A
  refused : ℕ → Told A

-- its number, 0 where it is accepted
abbrev pub told_number : {A : Type 0} → Told A → ℕ
told_number (accepted a) = 0
told_number (refused number) = number

-- what comes next, unless the first was refused
abbrev pub next : {A B : Type 0} → Told A → (A → Told B) → Told B
next (accepted a) f = f a
next (refused number) f = refused number
