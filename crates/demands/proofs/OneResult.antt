-- Document 01, "What the promises settle": any two results that a call's promise allows for one input are equal.
use mathlib.Core.Path.{◌≡◌, refl, sym, ap, ◌∙◌}
use mathlib.Core.List.{List}
use lib.IntN.{ℤ}
use Rattle.std.specs.Prelude.{Result, Ok, Err}
use Rattle.refusals.specs.declared.Refusal.{Refusal}
use Rattle.refusals.specs.Numbers.{answer_number, tells}
use Rattle.refusals.specs.Outcome.{Outcome, Gives, GivesValue}
use Rattle.refusals.specs.Told.{Told}
use Rattle.refusals.specs.Told.Told.{accepted, refused}
use Rattle.refusals.proofs.Numbers.{refusal_of, refusal_again, same_answer}

-- ---- own lines, the pole tide and the ocean tide: the answer and both lists
pub one_outcome : (o : Outcome) (a b : Result Unit Refusal) (c c' s s' : List ℤ) → Gives o (answer_number a) c s → Gives o (answer_number b) c' s' → (a ≡ b) × (c ≡ c') × (s ≡ s')
one_outcome o a b c c' s s' g h =
    (same_answer a b (g.answer ∙ sym h.answer), g.list_c ∙ sym h.list_c, g.list_s ∙ sym h.list_s)

-- ---- a call that answers a value: what it answers is known by what it tells
module _ {A : Type 0} where
  answered : Told A → Result A Refusal
  answered (accepted a) = Ok a
  answered (refused number) = Err (refusal_of number)

  answered_again : (r : Result A Refusal) → answered (tells r) ≡ r
  unfolding answered
  answered_again (Ok a) = refl
  answered_again (Err why) = ap Err (refusal_again why)

  pub one_told : (r q : Result A Refusal) → tells r ≡ tells q → r ≡ q
  one_told r q e = sym (answered_again r) ∙ ap answered e ∙ answered_again q

  -- the solid tide: the answer with its count, and both lists
  pub one_named : (o : Outcome) (value : A) (a b : Result A Refusal) (c c' s s' : List ℤ) → GivesValue o value (tells a) c s → GivesValue o value (tells b) c' s' → (a ≡ b) × (c ≡ c') × (s ≡ s')
  one_named o value a b c c' s s' g h =
      (one_told a b (g.answer ∙ sym h.answer), g.list_c ∙ sym h.list_c, g.list_s ∙ sym h.list_s)
