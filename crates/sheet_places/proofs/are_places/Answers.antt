-- One flag takes every place's tests in turn, and that it comes after the last.
use Rattle.std.proofs.Common.{◌≡◌, Bool, ◌&&◌, ap, ◌∙◌, arith}
use Rattle.whole.specs.Sum.{all_to}
use Rattle.whole.proofs.Counted.{all_none, all_more}
use Rattle.sheet.specs.Sheet.{place_count}
use Rattle.sheet.specs.Accepted.{place_valid}
use Rattle.sheet_places.specs.Inner.{after_last}
use Rattle.sheet_places.proofs.Onward.{all_both, all_ascend}
use Rattle.sheet_places.proofs.are_places.Goals as goal

pub loop-j-init : goal.loop-j-init
loop-j-init c = all_none _

pub loop-j-preserved : goal.loop-j-preserved
loop-j-preserved c =
    let s = c.args.sheet.now.bytes.now in
    all_more (λ i. place_valid s i && after_last s i) c.loop-j.j c.loop-j.invariant (rw (c.is_place.ensures, c.is_after_last.ensures))

pub returns : goal.returns
returns c =
    let s = c.args.sheet.now.bytes.now in
    let e : c.loop-j.j ≡ place_count s = omega arith in
    c.loop-j.invariant
    ∙ ap (all_to (λ i. place_valid s i && after_last s i)) e
    ∙ all_both (place_valid s) (after_last s) (place_count s)
    ∙ ap (λ (b : Bool). all_to (place_valid s) (place_count s) && b) (all_ascend s)
