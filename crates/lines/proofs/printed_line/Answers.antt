-- The amplitudes read are the line's.
use Rattle.std.proofs.Common.{refl, ◌∙◌}
use Rattle.lines.specs.Lines.{printed_line}
use Rattle.lines.proofs.Table.{amplitudes_small, first_read, second_read}
use Rattle.lines.proofs.printed_line.Goals as goal

pub line_in-requires : goal.line_in-requires
line_in-requires c =
    let i = c.args.i in
    let small = amplitudes_small i in
    (rw (first_read i c.row-first.ensures c.from.ensures) small.0, rw (second_read i c.row-first.ensures c.from-2.ensures) small.1)

pub returns : goal.returns
unfolding printed_line
returns c =
    let i = c.args.i in
    c.line_in.ensures
    ∙ rw (c.band_at.ensures, first_read i c.row-first.ensures c.from.ensures, second_read i c.row-first.ensures c.from-2.ensures) refl
