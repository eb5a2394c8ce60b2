-- Each turn compares one more.
use mathlib.Core.Bool.{not}
use mathlib.Core.Path.{◌≡◌}
use Rattle.sheet_twins.specs.Inner.{none_after}
use Rattle.sheet_twins.proofs.is_among.Given as goal

abbrev pub invariant-loop-j : goal.invariant-loop-j
invariant-loop-j l = not l.found ≡ none_after l.keys l.f l.j
