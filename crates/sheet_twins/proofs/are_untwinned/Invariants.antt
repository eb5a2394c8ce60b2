-- Each turn compares one more line's key with those after it.
use mathlib.Core.Bool.{not}
use mathlib.Core.Path.{◌≡◌}
use Rattle.whole.specs.Sum.{all_to}
use Rattle.sheet_twins.specs.Inner.{none_after}
use Rattle.sheet_twins.proofs.Pairs.{eights}
use Rattle.sheet_twins.proofs.are_untwinned.Given as goal

abbrev pub invariant-loop-f : goal.invariant-loop-f
invariant-loop-f l = not l.found ≡ all_to (λ j. none_after l.keys j (eights l.lines j)) l.f
