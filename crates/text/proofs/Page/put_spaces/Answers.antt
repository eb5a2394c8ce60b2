-- The bytes of the part are spaces, as many as it has.
use mathlib.Core.Path.{refl, sym, ap, ◌∙◌}
use Prim.Native.Nat.{◌+◌, ◌-◌}
use native.Mathlib.Omega.{arith}
use lib.ListN.{drop, length-take, length-drop}
use Rattle.text.specs.Text.{spaces}
use Rattle.text.proofs.Puts.{puts_part}
use Rattle.text.proofs.Columns.{spaces_length}
use Rattle.text.proofs.Page.put_spaces.Goals as goal

pub returns : goal.returns
returns c =
    let p = c.args.self.now in
    let rest = drop p.at p.out.now in
    let filled = c.fill.ensures.after (λ y e. e) ∙ ap spaces (omega (arith, length-take (p.at + c.args.count - p.at) rest, length-drop p.at p.out.now)) in
    puts_part p _ _ _ c.requires (sym (spaces_length c.args.count)) filled _ refl refl refl
