-- A place has four words for each tide after its two bytes, all within a whole sheet.
use mathlib.Core.Path.{refl, ◌∙◌}
use mir.Syntax.{w64}
use Rattle.whole.proofs.Machine.{back}
use Rattle.sheet.specs.Sheet.{coefficient}
use Rattle.sheet.proofs.Sheet.coefficient_at.Goals as goal

pub returns : goal.returns
unfolding coefficient
returns c =
    let r = c.signed_at in
    rw (back w64 r.result r.type_inv) (r.ensures.0 ∙ rw (c.place_start.ensures, c.number.ensures.0) refl, r.ensures.1)
