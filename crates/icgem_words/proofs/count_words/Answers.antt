-- Each turn passes one word more.
use Rattle.std.proofs.Common.{sym, ◌∙◌}
use borrow.Author.Tests.{leb-true, leb-false}
use Rattle.icgem_words.proofs.Read.{counted_first, counted_more, counted_all}
use Rattle.icgem_words.proofs.count_words.Goals as goal

pub loop-word-init : goal.loop-word-init
loop-word-init c = counted_first c.next_word-word.ensures

pub loop-word-preserved : goal.loop-word-preserved
loop-word-preserved c =
    counted_more c.loop-word.invariant (leb-false _ _ (sym c.is_empty.ensures ∙ c.loop-word-test.true)) c.next_word-word-in-loop-word.ensures

pub returns : goal.returns
returns c = counted_all c.loop-word.invariant (leb-true _ _ (sym c.is_empty.ensures ∙ c.loop-word-test.false))
