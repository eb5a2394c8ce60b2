-- The factors are fcos and fsin, so the corrections added from them are dC and dS.
use mathlib.Core.List.{List}
use mathlib.Core.Path.{refl, ◌∙◌}
use Prim.Native.Nat.{ℕ}
use lib.IntN.{ℤ}
use Rattle.field.proofs.Added.{added_same}
use Rattle.places.specs.Places.{index_of}
use Rattle.places.proofs.Same.{same_correction}
use Rattle.sheet.specs.Sheet.{place_count}
use Rattle.ocean.specs.Ocean.{d_c, d_s}
use Rattle.ocean.proofs.add_tide.Goals as goal

pub add_places-requires : goal.add_places-requires
add_places-requires c = rw c.of.ensures.0 c.requires

pub returns : goal.returns
unfolding d_c d_s
returns c =
    let s = c.args.accepted.now.sheet.bytes.now in
    let e = rw c.of.ensures.0 at c.add_places.ensures in
    let F = c.of.ensures.1 in
    let same = λ (p q : ℕ) (l : List ℤ). added_same (index_of s) (index_of s) _ _ l (place_count s) (λ j h. refl) (λ j h. same_correction s c.args.frame F.cosines F.sines p q j) in
    record { list_c = e.list_c ∙ same 0 2 c.args.c.now; list_s = e.list_s ∙ same 1 3 c.args.s.now }
