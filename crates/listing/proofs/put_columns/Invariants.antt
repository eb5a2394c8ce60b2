-- Each turn puts one column more, which takes 21 bytes at most.
use Rattle.listing.proofs.Columns.{Upto}
use Rattle.listing.proofs.put_columns.Given as goal

abbrev pub invariant-loop-count : goal.invariant-loop-count
invariant-loop-count l = Upto l.initial.page l.counts l.count-index l.page
