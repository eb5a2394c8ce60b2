-- The bytes of the part are the last digits, as many as it has.
use Rattle.std.proofs.Common.{◌+◌, ◌-◌, refl, sym, ap, ◌∙◌, arith, drop, length-take, length-drop}
use Rattle.text.specs.Text.{last_digits}
use Rattle.text.proofs.Puts.{puts_part}
use Rattle.text.proofs.Columns.{last_length}
use Rattle.text.proofs.Page.put_last.Goals as goal

pub returns : goal.returns
returns c =
    let p = c.args.self.now in
    let rest = drop p.at p.out.now in
    let filled =
    c.put_digits.ensures
    ∙ ap (λ k. last_digits k c.args.n) (omega (arith, length-take (p.at + c.args.count - p.at) rest, length-drop p.at p.out.now)) in
    puts_part p _ _ _ c.requires (sym (last_length c.args.count c.args.n)) filled _ refl refl refl
