-- A float between the edges is no NaN, so its bits are its own and have its count.
use mathlib.Core.Path.{sym, subst, ap, ◌∙◌}
use lib.Dec.{T}
use lib.Ieee.{binary64, fits}
use lib.Ieee.Bits.{of_bits-to_bits}
use mir.Syntax.{w64}
use Rattle.whole.proofs.Machine.{back}
use Rattle.count.specs.Count.{count}
use Rattle.count.proofs.Edge.{field_of}
use Rattle.count.proofs.nearest_count.Goals as goal
use Rattle.count.proofs.nearest_count.Goals.{Start}

held : (c : Start) → T (fits binary64 c.args.x)
held c = subst T (sym c.well_formed.0.1) tt

pub nearest_of_bits-requires : goal.nearest_of_bits-requires
nearest_of_bits-requires c = field_of c.args.x (held (goal.at.nearest_of_bits-requires c).Start) c.requires

pub returns : goal.returns
returns c =
    let bits = of_bits-to_bits binary64 c.args.x (held (goal.at.returns c).Start) in
    back w64 c.nearest_of_bits.result c.nearest_of_bits.type_inv ∙ c.nearest_of_bits.ensures ∙ ap count bits
