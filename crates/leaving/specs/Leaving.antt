-- What a call leaves in lent memory: its answer's number, and the value that it tells.
use Rattle.std.specs.Prelude.{List, ◌≡◌, ℕ, ℤ}
use Rattle.arguments.specs.declared.Multipliers.{Multipliers}
use Rattle.arguments.specs.Phase.{listed}
use Rattle.choices.specs.Numbers.{system_number}
use Rattle.icgem_file.specs.declared.FileHead.{FileHead}
use Rattle.lines.specs.declared.Found.{Found}
use Rattle.refusals.specs.Outcome.{Outcome, told_unless}
use Rattle.refusals.specs.Told.{Told, told_number, next}
use Rattle.refusals.specs.Told.Told.{accepted, refused}

abbrev pub listed_of : Told Multipliers → Told (List ℤ)
listed_of told = next told (λ m. accepted (listed m))

-- a printed line's three results
abbrev pub found : ℕ → ℤ → ℤ → Found
found index first second = record { index = index; first = first; second = second }

-- what a file says, as four numbers
pub record HeadNumbers : Type 0 where
  pub degree : ℕ
  pub constant : ℕ
  pub radius : ℕ
  pub system : ℕ

abbrev pub head_numbers : ℕ → ℕ → ℕ → ℕ → HeadNumbers
head_numbers degree constant radius system = record { degree = degree; constant = constant; radius = radius; system = system }

abbrev pub numbers_of : Told FileHead → Told HeadNumbers
numbers_of told = next told (λ h. accepted (head_numbers h.degree h.constant h.radius (system_number h.system)))

-- what lent memory holds afterwards: the value told, or where the call is refused what it held
abbrev pub told_or : {A : Type 0} → A → Told A → A
told_or before (accepted a) = a
told_or before (refused number) = before

-- a call leaves what it tells: its answer, and the lent results as it returns
pub record Leaves {A : Type 0} (told : Told A) (before : A) (number : ℕ) (after : A) : Type 0 where
  pub answer : number ≡ told_number told
  pub result : after ≡ told_or before told

-- a call over a field that answers a value besides gives an outcome and leaves the value: none where the outcome is a refusal
pub record GivesAndLeaves {A : Type 0} (o : Outcome) (value : A) (number : ℕ) (c s : List ℤ) (before after : A) : Type 0 where
  pub left : Leaves (told_unless o.number value) before number after
  pub list_c : c ≡ o.c
  pub list_s : s ≡ o.s
