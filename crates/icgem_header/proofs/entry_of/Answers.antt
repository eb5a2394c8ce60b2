-- Where the line stands once, its second word.
use mathlib.Core.Path.{sym, ap, ◌∙◌}
use native.Mathlib.Omega.{arith}
use Rattle.std.specs.Prelude.{option_copied}
use Rattle.std.proofs.lemmas.Result.{MatchResult-from_err}
use Rattle.icgem_header.proofs.Known.{unkept, twice, valueless, valued, value_is}
use Rattle.icgem_header.proofs.entry_of.Goals as goal

pub returns-in_err-line : goal.returns-in_err-line
returns-in_err-line c =
    MatchResult-from_err _ _ _ c.from_residual.ensures.0 (λ _. twice _ _ c.in_err-line.ensures.0 c.in_err-line.ensures.1)

pub returns-in_err-ok_or-in-Some : goal.returns-in_err-ok_or-in-Some
returns-in_err-ok_or-in-Some c =
    let found = rw c.in-Some.is at c.in_ok-line.ensures in
    MatchResult-from_err _ _ _ c.from_residual-in_err-ok_or-in-Some.ensures.0
    (λ _. valueless found.0 (sym c.second_word.ensures.word ∙ ap option_copied c.in_err-ok_or-in-Some.ensures.ok_part))

pub returns-in-None : goal.returns-in-None
returns-in-None c = let none = rw c.in-None.is at c.in_ok-line.ensures in (unkept _ _ none, none)

pub returns-in_ok-ok_or-in-Some : goal.returns-in_ok-ok_or-in-Some
returns-in_ok-ok_or-in-Some c =
    let found = rw c.in-Some.is at c.in_ok-line.ensures in
    let some = sym c.second_word.ensures.word ∙ ap option_copied c.in_ok-ok_or-in-Some.ensures.ok_part in
    let short = rw c.in_ok-ok_or-in-Some.ensures.ok_part at c.second_word.ensures.short in
    (valued found.0 found.1 some, (found.0.has_is, record { short = omega (arith, short, found.0.line_short); value_is = value_is found.0 found.1 some }))
