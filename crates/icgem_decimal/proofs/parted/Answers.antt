-- The parts around the end of the run.
use Rattle.std.proofs.Common.{refl}
use Rattle.icgem_decimal.proofs.Pieces.{parted_at}
use Rattle.icgem_decimal.proofs.parted.Goals as goal

pub returns-then-end-text : goal.returns-then-end-text
returns-then-end-text g c = parted_at c.run_end-end.ensures c.if-end-text.true refl
