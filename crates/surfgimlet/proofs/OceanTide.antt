-- What an ocean tide has that nothing refuses, and the number of one that is refused.
use mathlib.Core.List.{List}
use mathlib.Core.Path.{◌≡◌, sym, ap, ap₂, subst, ◌∙◌}
use Prim.Native.Nat.{ℕ, ◌<◌}
use lib.IntN.{ℤ}
use lib.ListN.{length}
use Rattle.field.specs.Field.{size, field_refusal}
use Rattle.field.proofs.Accepted.{accepted_field, place_below}
use Rattle.places.specs.Places.{index_of}
use Rattle.std.specs.Prelude.{Result, Ok, Err}
use Rattle.std.specs.Result.{result_and, MatchResult}
use Rattle.refusals.specs.declared.Refusal.{Refusal}
use Rattle.refusals.specs.Numbers.{refusal_number, answer_number, tells}
use Rattle.refusals.specs.Outcome.{first_of}
use Rattle.refusals.specs.Told.{told_number}
use Rattle.refusals.proofs.Outcomes.{first_none, first_passed, and_first, and_ok}
use Rattle.sheet.specs.Accepted.{own_refusal, sheet_refusal}
use Rattle.sheet.specs.Sheet.{place_count, degree, order}
use Rattle.sheet.proofs.Acceptance.{accepted, accepted_for}
use Rattle.ocean.specs.Inner.{Wide}
use Rattle.surfgimlet.specs.Calls.{ocean_refusal}

pub passing : (n : ℕ) (c s : List ℤ) (sheet : List ℕ) → ocean_refusal n c s sheet ≡ 0 → (own_refusal sheet ≡ 0) × (Wide sheet c × Wide sheet s)
unfolding ocean_refusal
passing n c s sheet e =
    let p = first_none (field_refusal n c s) (sheet_refusal sheet n) e in
    let field = accepted_field n c s p.0 in
    let reach = accepted_for sheet n p.1 in
    let has : (l : List ℤ) → length l ≡ size n → (j : ℕ) → j < place_count sheet → index_of sheet j < length l = λ l m j h.
    subst (λ (k : ℕ). index_of sheet j < k) (sym m) (place_below n (degree sheet j) (order sheet j) (reach.1 j h) ((accepted sheet reach.0).places j h).order_most) in
    (reach.0, (record { range = field.c_range; has = has c field.c_size }, record { range = field.s_range; has = has s field.s_size }))

-- the field's test is f, the sheet's r: what it hands out where it passes has P
module _ {A : Type 0} (P : A → Type 0) (n : ℕ) (c s : List ℤ) (sheet : List ℕ) where
  sheet_number : (r : Result A Refusal) → MatchResult r (λ a. P a × (sheet_refusal sheet n ≡ 0)) (λ why. sheet_refusal sheet n ≡ refusal_number why) → told_number (tells r) ≡ sheet_refusal sheet n
  sheet_number (Ok a) t = sym t.1
  sheet_number (Err why) t = sym t

  module _ (f : Result Unit Refusal) (r : Result A Refusal) (field : answer_number f ≡ field_refusal n c s)
      (tested : MatchResult r (λ a. P a × (sheet_refusal sheet n ≡ 0)) (λ why. sheet_refusal sheet n ≡ refusal_number why)) where
    pub refused_ocean : (why : Refusal) → Err why ≡ result_and f r → refusal_number why ≡ ocean_refusal n c s sheet
    unfolding ocean_refusal
    refused_ocean why e = ap (λ (x : Result A Refusal). told_number (tells x)) e ∙ and_first f r ∙ ap₂ first_of field (sheet_number r tested)

    module _ (a : A) (both : Ok a ≡ result_and f r) where
      handed : P a × (sheet_refusal sheet n ≡ 0)
      handed = subst (λ (r : Result A Refusal). MatchResult r (λ a. P a × (sheet_refusal sheet n ≡ 0)) (λ why. sheet_refusal sheet n ≡ refusal_number why)) (and_ok f r a (sym both)).1 tested

      pub ocean_sheet : P a
      ocean_sheet = handed.0

      pub ocean_number : ocean_refusal n c s sheet ≡ 0
      unfolding ocean_refusal
      ocean_number = first_passed (field_refusal n c s) (sheet_refusal sheet n) (sym field ∙ (and_ok f r a (sym both)).0) ∙ handed.1
