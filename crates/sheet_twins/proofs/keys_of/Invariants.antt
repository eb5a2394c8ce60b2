-- Each turn stores the key of one more line.
use Rattle.sheet_twins.specs.Inner.{Keyed}
use Rattle.sheet_twins.proofs.keys_of.Given as goal

abbrev pub invariant-loop-f : goal.invariant-loop-f
invariant-loop-f l = Keyed l.sheet.bytes.now l.f l.keys
