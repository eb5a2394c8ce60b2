-- The head up to its end, its entries, and what they say.
use mathlib.Core.Path.{refl, ◌∙◌}
use Rattle.std.proofs.lemmas.Result.{MatchResult-from_err}
use Rattle.text.specs.Text.{ascii}
use Rattle.icgem_header.proofs.Head.{endless, begun_twice, formed_is, header_is}
use Rattle.icgem_header.proofs.header_of.Goals as goal

pub returns-in_err-end : goal.returns-in_err-end
unfolding ascii
returns-in_err-end c =
    MatchResult-from_err _ _ _ c.from_residual.ensures.0 (λ _. endless _ (rw c.in_err-end.ensures.ok_part at c.find_line.ensures))

pub returns-in_err-entries : goal.returns-in_err-entries
unfolding ascii
returns-in_err-entries c =
    let cut = rw c.in_ok-end.ensures.ok_part at c.find_line.ensures in
    MatchResult-from_err _ _ _ c.from_residual-in_err-entries.ensures.0 (λ _. begun_twice cut c.in_err-entries.ensures)

pub returns-in_err-system : goal.returns-in_err-system
unfolding ascii
returns-in_err-system c =
    let cut = rw c.in_ok-end.ensures.ok_part at c.find_line.ensures in
    let e = c.in_ok-entries.ensures in
    MatchResult-from_err _ _ _ c.from_residual-in_err-system.ensures.0 (λ _. formed_is cut _ e.0 e.1.1 ∙ rw c.in_err-system.ensures)

pub returns-in_err-degree : goal.returns-in_err-degree
unfolding ascii
returns-in_err-degree c =
    let cut = rw c.in_ok-end.ensures.ok_part at c.find_line.ensures in
    let e = c.in_ok-entries.ensures in
    MatchResult-from_err _ _ _ c.from_residual-in_err-degree.ensures.0 (λ _. formed_is cut _ e.0 e.1.1 ∙ rw (c.in_ok-system.ensures.0, c.in_err-degree.ensures))

pub returns : goal.returns
unfolding ascii
returns c =
    let cut = rw c.in_ok-end.ensures.ok_part at c.find_line.ensures in
    let e = c.in_ok-entries.ensures in
    header_is cut _ e.0 e.1.1 c.in_ok-system.ensures.0 c.in_ok-degree.ensures c.in_ok-system.ensures.1 _ refl refl refl refl refl
