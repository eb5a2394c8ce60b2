-- The lists are the columns of the printed lines, whose amplitudes 16 bits hold.
use Rattle.std.proofs.Common.{◌≡◌, ◌≤◌, ℤ, pos, nat_abs, arith, w16, to_z, of_z, to_z-of_z}
use Rattle.whole.proofs.Parts.{fits_abs}
use Rattle.lines.specs.Lines.{diurnal, long_period, semidiurnal, printed, Printed}
use Rattle.lines.specs.Inner.{digits_of}
use Rattle.lines.proofs.Table.{amplitudes_small, column}
use Rattle.lines.proofs.row.Goals as goal

held : {x z : ℤ} → x ≡ z → nat_abs z ≤ 4720 → to_z w16 (of_z w16 x) ≡ z
held {x} {z} e h = rw e (to_z-of_z (fits_abs w16 z (omega arith)))

pub returns : goal.returns
unfolding digits_of printed diurnal long_period semidiurnal
returns c =
    let i = c.args.i in
    let h = c.requires in
    let small = amplitudes_small i in
    let first = held (column (λ (l : Printed). l.first) i (pos 0) h) small.0 in
    let second = held (column (λ (l : Printed). l.second) i (pos 0) h) small.1 in
    λ j. (column (λ (l : Printed). digits_of l.number) i 0 h j, first j, second j)
