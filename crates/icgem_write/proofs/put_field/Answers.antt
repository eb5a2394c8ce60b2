-- A page that begins at the buffer's start.
use Rattle.std.proofs.Common.{rules}
use Rattle.icgem_write.proofs.Lines.{lines_from_start}
use Rattle.icgem_write.proofs.put_field.Goals as goal

pub returns : goal.returns
returns c = search (rules, lines_from_start)
