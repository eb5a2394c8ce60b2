-- The digits are the line's.
use Rattle.std.proofs.Common.{ℕ, ℤ, ap, ◌∙◌}
use Rattle.doodson.specs.Doodson.{multipliers_written}
use Rattle.lines.proofs.Table.{multipliers_read}
use Rattle.lines.proofs.multipliers_at.Goals as goal

pub returns : goal.returns
returns c =
    c.multipliers_written.ensures
    ∙ ap (λ (r : ℕ × ℤ × ℤ). multipliers_written 16 r.0) c.row.ensures
    ∙ multipliers_read c.args.i c.requires
