-- One entry after the other.
use Rattle.text.specs.Text.{ascii}
use Rattle.icgem_write.specs.Written.{title_lines}
use Rattle.icgem_write.proofs.Lines.{lines_then}
use Rattle.icgem_write.proofs.put_title.Goals as goal

pub returns : goal.returns
unfolding title_lines ascii
returns c = lines_then c.put_entry.ensures c.put_entry-2.ensures
