-- What is told goes to the lent memory, and what is written too; a number that names no case is answered by 100, and nothing has changed.
use Rattle.std.proofs.Common.{◌≡◌, ℕ, List, ℤ, true, false, ◌&&◌, ap, subst}
use Rattle.choices.specs.Numbers.{chosen, love_model, permanent_system, names, Converts}
use Rattle.choices.specs.declared.PermanentSystem.{PermanentSystem}
use Rattle.choices.proofs.Choices.{hundred, one_named, one_missing, three_missing}
use Rattle.crossing.specs.Bodies.{body_of}
use Rattle.crossing.specs.declared.GivenBody.{GivenBody}
use Rattle.hour.specs.declared.Hour.{Hour}
use Rattle.permanent.specs.Systems.{moved_c20}
use Rattle.surfgimlet.specs.Calls.{solid_tide}
use Rattle.icgem_write.specs.Outcome.{Writes}
use Rattle.leaving.specs.Leaving.{Leaves, GivesAndLeaves}
use Rattle.refusals.specs.Outcome.{Outcome, GivesValue}
use Rattle.refusals.specs.Told.{Told, next}
use Rattle.refusals.specs.Told.Told.{accepted, refused}
use Rattle.boundary.specs.Calls.{outcome_of, solid_given, move_given, written, LeavesBytes}

-- a value that is told, left
pub told_and_left : {A : Type 0} {o : Outcome} {value : A} {told : Told A} {c s : List ℤ} {number : ℕ} {before after : A} → GivesValue o value told c s → Leaves told before number after → GivesAndLeaves o value number c s before after
told_and_left {A} {o} {value} {told} {c} {s} {number} {before} {after} g l = record { left = subst (λ (t : Told A). Leaves t before number after) g.answer l; list_c = g.list_c; list_s = g.list_s }

-- what is written, left
pub writes_and_leaves : {n : ℕ} {c s : List ℤ} {constant radius : ℕ} {out : List ℕ} {system : PermanentSystem} {told : Told ℕ} {after : List ℕ} {before number left : ℕ}
    → Writes n c s constant radius system out told after → Leaves told before number left → LeavesBytes (written n c s constant radius out system) after before number left
writes_and_leaves w l = record { left = rw (← w.answer) l; bytes_are = w.bytes_are }

-- refused with 100, and nothing has changed
abbrev pub kept : List ℤ → List ℤ → Outcome
kept c s = record { number = 100; c = c; s = s }

-- a call over a field of one choice
module _ {A : Type 0} (c s : List ℤ) (cases : List A) (number : ℕ) (call : A → Outcome) where
  pub choice_named : (a : A) → names (chosen cases number) ≡ true → Converts (chosen cases number) a → outcome_of c s (next (chosen cases number) (λ a. accepted (call a))) ≡ call a
  choice_named a e h = ap (outcome_of c s) (one_named (chosen cases number) (λ a. accepted (call a)) a e h)

  pub choice_missing : names (chosen cases number) ≡ false → outcome_of c s (next (chosen cases number) (λ a. accepted (call a))) ≡ kept c s
  choice_missing e = ap (outcome_of c s) (one_missing (chosen cases number) (λ a. accepted (call a)) (hundred cases number) e)

module _ (n : ℕ) (c s : List ℤ) (moon sun : GivenBody) (love : ℕ) (hour : Hour) (selection : ℕ) where
  pub solid_missing : (names (love_model love) && names (body_of moon) && names (body_of sun)) ≡ false → solid_given n c s moon sun love hour selection ≡ kept c s
  unfolding solid_given
  solid_missing e =
      ap (outcome_of c s)
      (three_missing (love_model love) (body_of moon) (body_of sun) (λ k m b. accepted (solid_tide n c s m b k hour selection)) (hundred _ love) (hundred _ moon.kind) (hundred _ sun.kind) e)

module _ (c20 : ℤ) (from to love : ℕ) where
  pub move_missing : (names (permanent_system from) && names (permanent_system to) && names (love_model love)) ≡ false → move_given c20 from to love ≡ refused 100
  unfolding move_given
  move_missing e = three_missing (permanent_system from) (permanent_system to) (love_model love) (moved_c20 c20) (hundred _ from) (hundred _ to) (hundred _ love) e
