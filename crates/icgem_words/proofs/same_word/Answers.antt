-- `==` on bytes goes along the two lists alike.
use Rattle.std.proofs.Common.{sym, ◌∙◌}
use Rattle.icgem_words.proofs.Same.{same_pointwise}
use Rattle.icgem_words.proofs.same_word.Goals as goal

pub returns : goal.returns
returns c = c.eq.ensures ∙ sym (same_pointwise _ _)
