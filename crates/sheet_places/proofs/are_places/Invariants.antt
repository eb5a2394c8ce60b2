-- One flag takes every place's tests in turn, and that it comes after the last.
use Rattle.std.proofs.Common.{◌≡◌, ◌&&◌}
use Rattle.whole.specs.Sum.{all_to}
use Rattle.sheet.specs.Accepted.{place_valid}
use Rattle.sheet_places.specs.Inner.{after_last}
use Rattle.sheet_places.proofs.are_places.Given as goal

abbrev pub invariant-loop-j : goal.invariant-loop-j
invariant-loop-j l = l.good ≡ all_to (λ i. place_valid l.sheet.bytes.now i && after_last l.sheet.bytes.now i) l.j
