-- What each call answers to C, and every lent entry afterwards: the unit's own call, or 100 and nothing changed.
use Rattle.std.specs.Prelude.{List, ◌≡◌, ℕ, ◌+◌, ◌*◌, ℤ, length}
use Rattle.arguments.specs.declared.Phases.{Phases}
use Rattle.refusals.specs.Told.{Told, next}
use Rattle.refusals.specs.Told.Told.{accepted, refused}
use Rattle.doodson.specs.Doodson.{read_doodson}
use Rattle.hour.specs.declared.Hour.{Hour}
use Rattle.hour.specs.Hour.{moved_hour}
use Rattle.refusals.specs.Outcome.{Outcome, told_unless}
use Rattle.icgem_file.specs.File.{FileRead}
use Rattle.icgem_write.specs.Outcome.{write_refusal, bytes_after}
use Rattle.icgem_write.specs.Written.{file_text}
use Rattle.leaving.specs.Leaving.{HeadNumbers, numbers_of, Leaves, listed_of}
use Rattle.permanent.specs.Systems.{moved_c20}
use Rattle.surfgimlet.specs.Calls.{solid_tide, pole_tide, ocean_tide}
use Rattle.choices.specs.declared.PermanentSystem.{PermanentSystem}
use Rattle.crossing.specs.declared.GivenBody.{GivenBody}
use Rattle.arguments.specs.Phase.{argument_of}
use Rattle.choices.specs.Numbers.{love_model, frame_of, permanent_system}
use Rattle.crossing.specs.Bodies.{body_of}

-- a version's number, of its major, minor and patch number
abbrev pub version_number : ℕ → ℕ → ℕ → ℕ
version_number major minor patch = 1000000 * major + 1000 * minor + patch

-- a call over a field, told where every choice names a case: its outcome, or the number and both lists as they were
abbrev pub outcome_of : List ℤ → List ℤ → Told Outcome → Outcome
outcome_of c s (accepted outcome) = outcome
outcome_of c s (refused number) = record { number = number; c = c; s = s }

unfoldable pub solid_given : ℕ → List ℤ → List ℤ → GivenBody → GivenBody → ℕ → Hour → ℕ → Outcome
solid_given n c s moon sun love hour selection =
    outcome_of c s (next (love_model love) (λ k. next (body_of moon) (λ m. next (body_of sun) (λ b. accepted (solid_tide n c s m b k hour selection)))))

abbrev pub hour_given : Hour → ℕ → ℤ → Told Hour
hour_given hour argument amount = next (argument_of argument) (λ a. accepted (moved_hour hour a amount))

unfoldable pub pole_given : ℕ → List ℤ → List ℤ → ℤ → ℤ → ℕ → Outcome
pole_given n c s xp yp love = outcome_of c s (next (love_model love) (λ k. accepted (pole_tide n c s xp yp k)))

unfoldable pub ocean_given : ℕ → List ℤ → List ℤ → List ℕ → Phases → ℕ → Outcome
ocean_given n c s sheet phases frame = outcome_of c s (next (frame_of frame) (λ f. accepted (ocean_tide n c s sheet phases f)))

unfoldable pub move_given : ℤ → ℕ → ℕ → ℕ → Told ℤ
move_given c20 from to love =
    next (permanent_system from) (λ f. next (permanent_system to) (λ t. next (love_model love) (λ k. moved_c20 c20 f t k)))

-- a file read: the answer, both lists, and what the file says as the call returns
pub record LeavesField (read : FileRead) (c s : List ℤ) (before : HeadNumbers) (number : ℕ) (after : HeadNumbers) : Type 0 where
  pub left : Leaves (numbers_of read.head) before number after
  pub list_c : c ≡ read.c
  pub list_s : s ≡ read.s

-- what a call that writes tells, and its output afterwards
pub record GivenBytes : Type 0 where
  pub told : Told ℕ
  pub bytes : List ℕ

-- the call in a system that is named, or the number and every byte as it was
abbrev pub bytes_of : List ℕ → Told GivenBytes → GivenBytes
bytes_of out (accepted given) = given
bytes_of out (refused number) = record { told = refused number; bytes = out }

abbrev pub written : ℕ → List ℤ → List ℤ → ℕ → ℕ → List ℕ → PermanentSystem → GivenBytes
written n c s constant radius out system =
    let text = file_text n c s constant radius system in
    let number = write_refusal n c s text (length out) in
    record { told = told_unless number (length text); bytes = bytes_after number text out }

unfoldable pub write_given : ℕ → List ℤ → List ℤ → ℕ → ℕ → ℕ → List ℕ → GivenBytes
write_given n c s constant radius system out =
    bytes_of out (next (permanent_system system) (λ p. accepted (written n c s constant radius out p)))

-- the answer, how many bytes were written, and the output as the call returns
pub record LeavesBytes (given : GivenBytes) (out : List ℕ) (before number after : ℕ) : Type 0 where
  pub left : Leaves given.told before number after
  pub bytes_are : out ≡ given.bytes

abbrev pub multipliers_given : ℕ → Told (List ℤ)
multipliers_given number = listed_of (read_doodson number)
