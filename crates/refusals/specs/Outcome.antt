-- What a call over two lent lists answers and leaves (document 01, "What the promises settle").
use Rattle.std.specs.Prelude.{cond, List, ◌≡◌, ℕ, eqb, ℤ}
use Rattle.refusals.specs.Told.{Told}
use Rattle.refusals.specs.Told.Told.{accepted, refused}

-- the answer's number, 0 where the call is accepted, and every entry of both lists afterwards
pub record Outcome : Type 0 where
  pub number : ℕ
  pub c : List ℤ
  pub s : List ℤ

-- of two refusals in their order, each 0 where it does not apply, the first that applies
unfoldable pub first_of : ℕ → ℕ → ℕ
first_of first second = cond (eqb first 0) second first

-- where nothing refuses the call, the new lists; where a number does, that number and the lists as they were
unfoldable pub unless_refused : ℕ → List ℤ → List ℤ → List ℤ → List ℤ → Outcome
unless_refused number c s c' s' =
    cond (eqb number 0) (record { number = 0; c = c'; s = s' }) (record { number = number; c = c; s = s })

-- a call gives an outcome: its answer and both lists as it returns are the outcome's
pub record Gives (o : Outcome) (number : ℕ) (c s : List ℤ) : Type 0 where
  pub answer : number ≡ o.number
  pub list_c : c ≡ o.c
  pub list_s : s ≡ o.s

-- where nothing refuses the call, a value; where a number does, that number alone
unfoldable pub told_unless : {A : Type 0} → ℕ → A → Told A
told_unless number value = cond (eqb number 0) (accepted value) (refused number)

-- a call that answers a value besides gives an outcome and the value: no value where the outcome is a refusal
pub record GivesValue {A : Type 0} (o : Outcome) (value : A) (told : Told A) (c s : List ℤ) : Type 0 where
  pub answer : told ≡ told_unless o.number value
  pub list_c : c ≡ o.c
  pub list_s : s ≡ o.s
