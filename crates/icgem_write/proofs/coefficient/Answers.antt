-- The sign and the size of a count.
use mathlib.Core.Path.{sym}
use mir.Facts.{to_z-of_z}
use Rattle.columns.specs.Fixed.{fixed}
use Rattle.icgem_write.proofs.Lines.{signed_coefficient}
use Rattle.icgem_write.proofs.coefficient.Goals as goal

pub returns : goal.returns
unfolding fixed
returns c = rw (c.unsigned_abs.ensures.value, to_z-of_z c.ranges.count) (sym (signed_coefficient c.args.count))
