-- A run that ends at a line end is in a line.
use Rattle.std.proofs.Common.{not, ap}
use Rattle.icgem_words.specs.Inner.{in_line}
use Rattle.icgem_words.proofs.Runs.{run_of}
use Rattle.icgem_words.proofs.line_end.Goals as goal

pub returns : goal.returns
returns c = run_of in_line c.run_end.ensures (λ k b e. ap not e)
