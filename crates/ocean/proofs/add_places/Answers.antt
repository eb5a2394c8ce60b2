-- Each turn corrects both lists at one more place, whose entries are still as they were since the places rise.
use mathlib.Core.List.{List}
use mathlib.Core.Path.{◌≡◌, sym, ap, ◌∙◌}
use Prim.Native.Nat.{ℕ, suc, ◌^◌, ◌≤◌, ◌<◌}
use native.Mathlib.Omega.{arith}
use lib.IntN.{ℤ, pos, nat_abs}
use lib.ListN.{length, get_or}
use mir.Syntax.{w64}
use mir.Val.{to_z, of_z}
use Rattle.field.specs.Added.{corrected, added}
use Rattle.field.proofs.Added.{added_none, running_there, running_in_range, running_next}
use Rattle.places.specs.Places.{correction, index_of}
use Rattle.places.proofs.Sizes.{correction_size}
use Rattle.sheet.specs.Sheet.{place_count}
use Rattle.sheet.proofs.Acceptance.{Accepted, accepted}
use Rattle.tides.specs.Inner.{cosine_of, sine_of}
use Rattle.tides.proofs.Sizes.{read_back}
use Rattle.ocean.specs.Inner.{Wide}
use Rattle.ocean.proofs.Rises.{rises}
use Rattle.ocean.proofs.add_places.Goals as goal
use Rattle.ocean.proofs.add_places.Goals.{After-correction_of-by, Start}

pub loop-j-init : goal.loop-j-init
loop-j-init c = (sym (added_none _ _ _), sym (added_none _ _ _))

-- a turn, once the index and the correction are known
module _ (b : After-correction_of-by) where
  abbrev sheet : List ℕ
  sheet = b.args.tides.now.accepted.sheet.bytes.now

  abbrev j : ℕ
  j = b.loop-j.j

  abbrev d : ℕ → ℕ → ℕ → ℤ
  d p q = correction sheet b.args.frame (cosine_of b.args.tides.now.factors) (sine_of b.args.tides.now.factors) p q

  good : Accepted sheet
  good = accepted sheet b.args.tides.now.accepted.own

  below : j < place_count sheet
  below = omega (arith, b.args.tides.now.accepted.sheet.laid.places)

  here : b.index_of-at.result ≡ index_of sheet j
  here = b.index_of-at.ensures

  d_small : (p q : ℕ) → p < 4 → q < 4 → nat_abs (d p q j) ≤ 2 ^ 32
  d_small p q gp gq =
      correction_size good j below (cosine_of b.args.tides.now.factors) (sine_of b.args.tides.now.factors) b.args.tides.now.cosines.each b.args.tides.now.sines.each
      p q gp gq b.args.frame

  c_read : to_z w64 (of_z w64 b.correction_of-by.result.c) ≡ d 0 2 j
  c_read = read_back b.correction_of-by.ensures.of_c (omega (arith, d_small 0 2 (omega arith) (omega arith)))

  s_read : to_z w64 (of_z w64 b.correction_of-by.result.s) ≡ d 1 3 j
  s_read = read_back b.correction_of-by.ensures.of_s (omega (arith, d_small 1 3 (omega arith) (omega arith)))

  -- a list that has all places so far may take the next
  ready : (p q : ℕ) → p < 4 → q < 4 → (l l' : List ℤ) → Wide sheet l → l' ≡ added (index_of sheet) (d p q) j l
      → (index_of sheet j < length l') × ((nat_abs (get_or l' (index_of sheet j) (pos 0)) ≤ 2 ^ 60) × (nat_abs (d p q j) ≤ 2 ^ 60))
  ready p q gp gq l l' W e = (
    running_there (index_of sheet) (d p q) l j l' e (W.has j below),
    (running_in_range (index_of sheet) (d p q) l j l' e (rises good (suc j) (omega (arith, below))) W.range, omega (arith, d_small p q gp gq)),
  )

pub correct-requires-clause-pos_bound : goal.correct-requires-clause-pos_bound
correct-requires-clause-pos_bound c =
    let b = (goal.at.correct-requires-clause-pos_bound c).After-correction_of-by in
    rw (here b) (ready b 0 2 (omega arith) (omega arith) c.args.c.now c.loop-j.c c.requires.0 c.loop-j.invariant.0).1.0

pub correct-requires-clause-by_bound : goal.correct-requires-clause-by_bound
correct-requires-clause-by_bound c =
    let b = (goal.at.correct-requires-clause-by_bound c).After-correction_of-by in
    rw (c_read b) (ready b 0 2 (omega arith) (omega arith) c.args.c.now c.loop-j.c c.requires.0 c.loop-j.invariant.0).1.1

pub correct-requires-in-loop-j-clause-pos_bound : goal.correct-requires-in-loop-j-clause-pos_bound
correct-requires-in-loop-j-clause-pos_bound c =
    let b = (goal.at.correct-requires-in-loop-j-clause-pos_bound c).After-correction_of-by in
    rw (here b) (ready b 1 3 (omega arith) (omega arith) c.args.s.now c.loop-j.s c.requires.1 c.loop-j.invariant.1).1.0

pub correct-requires-in-loop-j-clause-by_bound : goal.correct-requires-in-loop-j-clause-by_bound
correct-requires-in-loop-j-clause-by_bound c =
    let b = (goal.at.correct-requires-in-loop-j-clause-by_bound c).After-correction_of-by in
    rw (s_read b) (ready b 1 3 (omega arith) (omega arith) c.args.s.now c.loop-j.s c.requires.1 c.loop-j.invariant.1).1.1

pub loop-j-preserved : goal.loop-j-preserved
loop-j-preserved c =
    let b = (goal.at.loop-j-preserved c).After-correction_of-by in
    let t = c.loop-j in
    let x = c.args in (
      running_next (index_of (sheet b)) (d b 0 2) x.c.now t.j t.c t.invariant.0 _ _ (c.correct.ensures ∙ ap (λ (k : ℕ). corrected t.c k (to_z w64 (of_z w64 c.correction_of-by.result.c))) (here b)) (c_read b),
      running_next (index_of (sheet b)) (d b 1 3) x.s.now t.j t.s t.invariant.1 _ _ (c.correct-in-loop-j.ensures ∙ ap (λ (k : ℕ). corrected t.s k (to_z w64 (of_z w64 c.correction_of-by.result.s))) (here b)) (s_read b),
    )
