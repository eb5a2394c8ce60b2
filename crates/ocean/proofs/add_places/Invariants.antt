-- Each turn corrects both lists at one more place, whose entries are still as they were since the places rise.
use mathlib.Core.Path.{◌≡◌}
use Rattle.field.specs.Added.{added}
use Rattle.places.specs.Places.{correction, index_of}
use Rattle.tides.specs.Inner.{cosine_of, sine_of}
use Rattle.ocean.proofs.add_places.Given as goal

abbrev pub invariant-loop-j : goal.invariant-loop-j
invariant-loop-j l =
    let s = l.tides.accepted.sheet.bytes.now in
    let d = correction s l.frame (cosine_of l.tides.factors) (sine_of l.tides.factors) in
    (l.c ≡ added (index_of s) (d 0 2) l.j l.initial.c) × (l.s ≡ added (index_of s) (d 1 3) l.j l.initial.s)
