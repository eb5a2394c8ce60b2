-- Each turn joins the bits of one more word.
use Rattle.sheet_places.specs.Inner.{Joined}
use Rattle.sheet_places.proofs.joined.Given as goal

abbrev pub invariant-loop-i : goal.invariant-loop-i
invariant-loop-i l = Joined l.bytes l.at l.i l.any
