-- The blanks are passed over, and then the bytes of the word.
use Rattle.std.proofs.Common.{not, ap, rules}
use Rattle.icgem_words.specs.Words.{is_blank}
use Rattle.icgem_words.specs.Inner.{in_word}
use Rattle.icgem_words.proofs.Runs.{run_of}
use Rattle.icgem_words.proofs.Read.{next_word}
use Rattle.icgem_words.proofs.next_word.Goals as goal

pub returns : goal.returns
returns c = next_word (run_of is_blank c.run_end-from.ensures (λ k b e. search rules)) (run_of in_word c.run_end-to.ensures (λ k b e. ap not e))
