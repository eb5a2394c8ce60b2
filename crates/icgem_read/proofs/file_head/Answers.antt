-- What the file says, or the number that refuses it.
use Rattle.icgem_read.proofs.Calls.{told}
use Rattle.icgem_read.proofs.file_head.Goals as goal

pub returns : goal.returns
returns c = told _ _ _ c.pass.result _ _ c.pass.ensures
