-- The first word, and then the columns behind the fifth.
use Rattle.std.proofs.Common.{sym}
use Rattle.text.specs.Text.{ascii}
use Rattle.icgem_data.proofs.Formed.{paired_is}
use Rattle.icgem_data.proofs.is_headed.Goals as goal

pub returns-else-same_word : goal.returns-else-same_word
unfolding ascii
returns-else-same_word c = rw (← c.of.ensures, ← c.same_word.ensures, c.if-same_word.false)

pub returns-in-0 : goal.returns-in-0
unfolding ascii
returns-in-0 c = rw (← c.of.ensures, ← c.same_word.ensures, c.if-same_word.true, ← c.count_words.ensures) (sym (paired_is _ c.in-0.is))
