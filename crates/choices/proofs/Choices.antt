-- A number past the cases names none.
use Rattle.std.proofs.Common.{◌≡◌, ℕ, zero, suc, ◌≤◌, true, false, ◌&&◌, List, [], ◌∷◌, length, refl, sym, ap, subst, arith}
use lib.Dec.{T}
use Rattle.refusals.specs.Told.{Told, next}
use Rattle.refusals.specs.Told.Told.{accepted, refused}
use Rattle.choices.specs.Numbers.{chosen, names, Converts}

pub past_the_cases : {A : Type 0} (cases : List A) (number : ℕ) → length cases ≤ number → chosen cases number ≡ refused 100
unfolding chosen
past_the_cases [] number h = refl
past_the_cases (case ∷ cases) zero h = absurd (omega arith)
past_the_cases (case ∷ cases) (suc number) h = past_the_cases cases number (omega arith)

-- where it names no case it is answered by 100
abbrev pub Hundred : {A : Type 0} → Told A → Type 0
Hundred (accepted a) = Unit {0}
Hundred (refused number) = number ≡ 100

pub hundred : {A : Type 0} (cases : List A) (number : ℕ) → Hundred (chosen cases number)
unfolding chosen
hundred [] number = refl
hundred (case ∷ cases) zero = tt
hundred (case ∷ cases) (suc number) = hundred cases number

-- a call of one choice
pub one_named : {A D : Type 0} (t : Told A) (call : A → Told D) (a : A) → names t ≡ true → Converts t a → next t call ≡ call a
one_named (accepted x) call a e h = ap call h
one_named (refused number) call a e h = absurd (subst T (sym e) tt)

pub one_missing : {A D : Type 0} (t : Told A) (call : A → Told D) → Hundred t → names t ≡ false → next t call ≡ refused 100
one_missing (accepted a) call h e = absurd (subst T e tt)
one_missing (refused number) call h e = ap refused h

-- three choices, which are tested one after the other
pub three_missing : {A B C D : Type 0} (t : Told A) (u : Told B) (v : Told C) (call : A → B → C → Told D) → Hundred t → Hundred u → Hundred v → (names t && names u && names v) ≡ false
    → next t (λ x. next u (λ y. next v (λ z. call x y z))) ≡ refused 100
three_missing (accepted x) (accepted y) (accepted z) call h i j e = absurd (subst T e tt)
three_missing (accepted x) (accepted y) (refused l) call h i j e = ap refused j
three_missing (accepted x) (refused k) v call h i j e = ap refused i
three_missing (refused n) u v call h i j e = ap refused h
