-- Each turn passes one word more.
use Rattle.std.proofs.Common.{◌-◌, length}
use Rattle.icgem_words.proofs.Read.{Counted}
use Rattle.icgem_words.proofs.count_words.Given as goal

abbrev pub invariant-loop-word : goal.invariant-loop-word
invariant-loop-word l = Counted l.line l.at l.word.from l.word.to l.count

abbrev pub decreases-loop-word : goal.decreases-loop-word
decreases-loop-word l = length l.line - l.word.from
