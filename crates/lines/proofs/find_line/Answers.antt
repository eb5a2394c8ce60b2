-- The loop keeps that the search of the whole table is the search of the lines not yet passed.
use Rattle.std.proofs.Common.{ℕ, ℤ, refl, sym, ap, ◌∙◌, arith}
use Rattle.lines.specs.Inner.{number_in}
use Rattle.lines.specs.Lines.{find_line}
use Rattle.lines.proofs.Search.{found, passed, none_left}
use Rattle.lines.proofs.Table.{number_read, first_read, second_read}
use Rattle.lines.proofs.find_line.Goals as goal

pub returns-then-not-is_doodson : goal.returns-then-not-is_doodson
unfolding find_line
returns-then-not-is_doodson c = rw (sym c.is_doodson.ensures ∙ c.if-not-is_doodson.true) refl

pub loop-index-init : goal.loop-index-init
unfolding find_line
loop-index-init c = rw (sym c.is_doodson.ensures ∙ c.if-not-is_doodson.false) refl

pub returns-then-number_in-number : goal.returns-then-number_in-number
returns-then-number_in-number c =
    let i = c.loop-index.index in
    let l = c.loop-index-test.true in
    let e = c.row-digits.ensures in
    let n = c.number_in.ensures ∙ ap (λ (r : ℕ × ℤ × ℤ). number_in r.0) e ∙ number_read i l in
    rw (first_read i e c.from.ensures, second_read i e c.from-then-number_in-number.ensures)
    (sym (c.loop-index.invariant ∙ found _ i l (sym n ∙ c.if-number_in-number.true)))

pub loop-index-preserved : goal.loop-index-preserved
loop-index-preserved c =
    let i = c.loop-index.index in
    let l = c.loop-index-test.true in
    let n = c.number_in.ensures ∙ ap (λ (r : ℕ × ℤ × ℤ). number_in r.0) c.row-digits.ensures ∙ number_read i l in
    c.loop-index.invariant ∙ passed _ i l (λ e. c.if-number_in-number.false (n ∙ e))

pub returns : goal.returns
returns c = sym (c.loop-index.invariant ∙ none_left _ c.loop-index.index c.loop-index-test.false (omega arith))
