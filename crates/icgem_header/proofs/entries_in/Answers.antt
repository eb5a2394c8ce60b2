-- After the line, or with the head.
use mathlib.Core.Path.{refl, sym}
use native.Mathlib.Omega.{arith}
use Rattle.std.proofs.lemmas.Result.{MatchResult-from_err}
use Rattle.text.specs.Text.{ascii}
use Rattle.icgem_file.specs.Header.{entries_of}
use Rattle.icgem_header.proofs.Known.{never_twice}
use Rattle.icgem_header.proofs.Lines.{after_short}
use Rattle.icgem_header.proofs.entries_in.Goals as goal

pub returns-in_err-begin : goal.returns-in_err-begin
unfolding ascii
returns-in_err-begin c = MatchResult-from_err _ _ _ c.from_residual.ensures.0 (λ _. c.in_err-begin.ensures.1)

pub returns-in-None : goal.returns-in-None
unfolding ascii entries_of
returns-in-None c = let none = rw c.in-None.is at c.in_ok-begin.ensures in (never_twice _ _ none, (omega arith, rw none refl))

pub returns-in-Some : goal.returns-in-Some
unfolding ascii entries_of
returns-in-Some c =
    let found = rw c.in-Some.is at c.in_ok-begin.ensures in
    (found.1, (after_short found.0, rw found.0.has_is (sym found.0.after_is)))
