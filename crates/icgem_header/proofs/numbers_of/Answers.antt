-- Each entry, and what its word writes.
use mathlib.Core.Path.{sym, ap, ◌∙◌}
use lib.IntN.{nat_abs}
use Rattle.std.proofs.lemmas.Result.{MatchResult-from_err}
use Rattle.text.specs.Text.{ascii}
use Rattle.icgem_decimal.specs.Decimal.{in_units}
use Rattle.icgem_header.specs.Inner.{numbers_fit}
use Rattle.icgem_header.proofs.numbers_of.Goals as goal

pub returns-in_err-constant : goal.returns-in_err-constant
unfolding ascii numbers_fit
returns-in_err-constant c = MatchResult-from_err _ _ _ c.from_residual.ensures.0 (λ _. rw c.in_err-constant.ensures)

pub returns-in_err-radius : goal.returns-in_err-radius
unfolding ascii numbers_fit
returns-in_err-radius c =
    MatchResult-from_err _ _ _ c.from_residual-in_err-radius.ensures.0 (λ _. rw (c.in_ok-constant.ensures.0, c.in_err-radius.ensures))

pub returns-in_err-degree : goal.returns-in_err-degree
unfolding ascii numbers_fit
returns-in_err-degree c =
    MatchResult-from_err _ _ _ c.from_residual-in_err-degree.ensures.0
    (λ _. rw (c.in_ok-constant.ensures.0, c.in_ok-radius.ensures.0, c.in_err-degree.ensures))

pub returns-then-not-is_whole : goal.returns-then-not-is_whole
unfolding ascii numbers_fit
returns-then-not-is_whole c =
    rw (c.in_ok-constant.ensures.0, c.in_ok-radius.ensures.0, c.in_ok-degree.ensures.0, ← c.in_ok-degree.ensures.1.value_is, ← c.is_whole.ensures, c.if-not-is_whole.true)

pub returns-in_err-constant-2 : goal.returns-in_err-constant-2
unfolding ascii numbers_fit
returns-in_err-constant-2 c =
    MatchResult-from_err _ _ _ c.from_residual-in_err-constant-2.ensures.0
    (λ _.
    rw (
      c.in_ok-constant.ensures.0,
      c.in_ok-radius.ensures.0,
      c.in_ok-degree.ensures.0,
      ← c.in_ok-degree.ensures.1.value_is,
      ← c.is_whole.ensures,
      c.if-not-is_whole.false,
      ← c.in_ok-constant.ensures.1.value_is,
      c.in_err-constant-2.ensures,
    ))

pub returns-in_err-radius-2 : goal.returns-in_err-radius-2
unfolding ascii numbers_fit
returns-in_err-radius-2 c =
    MatchResult-from_err _ _ _ c.from_residual-in_err-radius-2.ensures.0
    (λ _.
    rw (
      c.in_ok-constant.ensures.0,
      c.in_ok-radius.ensures.0,
      c.in_ok-degree.ensures.0,
      ← c.in_ok-degree.ensures.1.value_is,
      ← c.is_whole.ensures,
      c.if-not-is_whole.false,
      ← c.in_ok-constant.ensures.1.value_is,
      c.in_ok-constant-2.ensures.0,
      ← c.in_ok-radius.ensures.1.value_is,
      c.in_err-radius-2.ensures,
    ))

pub returns : goal.returns
unfolding ascii numbers_fit
returns c = record {
  fit =
      rw (
        c.in_ok-constant.ensures.0,
        c.in_ok-radius.ensures.0,
        c.in_ok-degree.ensures.0,
        ← c.in_ok-degree.ensures.1.value_is,
        ← c.is_whole.ensures,
        c.if-not-is_whole.false,
        ← c.in_ok-constant.ensures.1.value_is,
        c.in_ok-constant-2.ensures.0,
        ← c.in_ok-radius.ensures.1.value_is,
        c.in_ok-radius-2.ensures.0,
      );
  degree_is = c.in_ok-degree.ensures.1.value_is;
  degree_whole = rw (← c.in_ok-degree.ensures.1.value_is) (sym c.is_whole.ensures ∙ c.if-not-is_whole.false);
  constant_is = c.in_ok-constant-2.ensures.1 ∙ ap (λ w. nat_abs (in_units 0 w)) c.in_ok-constant.ensures.1.value_is;
  radius_is = c.in_ok-radius-2.ensures.1 ∙ ap (λ w. nat_abs (in_units 3 w)) c.in_ok-radius.ensures.1.value_is;
}
