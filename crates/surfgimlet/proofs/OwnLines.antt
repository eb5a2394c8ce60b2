-- What a list's sums tell: accepted, they are the definition's, so their nearest are its corrections; refused, the list's number is the call's where the
-- field passes.
use mathlib.Core.Path.{◌≡◌, sym, ap, ap₂, subst, ◌∙◌}
use mathlib.Core.List.{List}
use Prim.Native.Nat.{ℕ}
use lib.IntN.{ℤ}
use Rattle.std.specs.Prelude.{Result, Ok, Err}
use Rattle.std.specs.Result.{result_and}
use Rattle.arguments.specs.declared.Phases.{Phases}
use Rattle.bands.specs.declared.Sums.{Sums}
use Rattle.bands.specs.Bands.{corrections_of}
use Rattle.bands.specs.Inner.{sums_of, rounded_of, Bounded}
use Rattle.field.specs.Field.{field_refusal}
use Rattle.refusals.specs.declared.Refusal.{Refusal}
use Rattle.refusals.specs.Numbers.{refusal_number, answer_number, tells}
use Rattle.refusals.specs.Outcome.{first_of}
use Rattle.refusals.specs.Told.{told_number}
use Rattle.refusals.proofs.Outcomes.{first_passed, and_first, and_ok}
use Rattle.own.specs.declared.OwnLine.{OwnLine}
use Rattle.own.specs.Own.{records_refusal, own_corrections}
use Rattle.own.specs.Inner.{Totals}
use Rattle.surfgimlet.specs.Calls.{own_lines_refusal}

module _ (phases : Phases) (lines : List OwnLine) where
  totals_number : (r : Result Sums Refusal) → Totals phases lines r → told_number (tells r) ≡ records_refusal lines
  totals_number (Ok sums) t = sym t.0
  totals_number (Err why) t = t

  -- the field's test is f, the list's sums are r
  module _ (n : ℕ) (c s : List ℤ) (f : Result Unit Refusal) (r : Result Sums Refusal) (field : answer_number f ≡ field_refusal n c s) (total : Totals phases lines r) where
    pub refused_own : (why : Refusal) → Err why ≡ result_and f r → refusal_number why ≡ own_lines_refusal n c s lines
    unfolding own_lines_refusal
    refused_own why e = ap (λ (x : Result Sums Refusal). told_number (tells x)) e ∙ and_first f r ∙ ap₂ first_of field (totals_number r total)

    module _ (sums : Sums) (both : Ok sums ≡ result_and f r) where
      listed : Totals phases lines (Ok sums)
      listed = subst (Totals phases lines) (and_ok f r sums (sym both)).1 total

      pub field_passed : field_refusal n c s ≡ 0
      field_passed = sym field ∙ (and_ok f r sums (sym both)).0

      pub own_number : 0 ≡ own_lines_refusal n c s lines
      unfolding own_lines_refusal
      own_number = sym (first_passed (field_refusal n c s) (records_refusal lines) field_passed ∙ listed.0)

      -- the nearest of its sums are its corrections
      pub own_same : rounded_of sums ≡ own_corrections phases lines
      unfolding rounded_of sums_of corrections_of own_corrections
      own_same = ap rounded_of listed.1.0

      pub own_bounded : Bounded sums
      own_bounded = listed.1.1
