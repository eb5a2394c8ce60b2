-- The raised waves are the lines' own, so the factors worked out from them are fcos and fsin, each at most 2^32.
use mathlib.Core.List.{List}
use mathlib.Core.Path.{refl}
use Prim.Native.Nat.{ℕ, ◌≤◌}
use native.Mathlib.Omega.{arith}
use Rattle.sheet.specs.Sheet.{line_count, tide_count}
use Rattle.sheet.proofs.Acceptance.{accepted}
use Rattle.wave.specs.Wave.{sin, cos}
use Rattle.wave.proofs.Size.{sin_size, cos_size}
use Rattle.tides.specs.Tides.{line_phase, factor, fcos, fsin}
use Rattle.tides.specs.Inner.{Bounded, cosine_of, sine_of, Lists}
use Rattle.tides.proofs.Factors.{waves_bounded, factors_are, factors_sized}
use Rattle.tides.proofs.Tides.of.Goals as goal
use Rattle.tides.proofs.Tides.of.Goals.{After-fill_waves, After-fill_factors, Start}

few : (s : Start) → s.args.accepted.now.sheet.layout.lines ≤ 128
few s = let a = s.args.accepted.now in omega (arith, a.sheet.laid.lines, (accepted _ a.own).shape.lines-most)

-- once the waves are filled
module _ (c : After-fill_waves) where
  abbrev s : List ℕ
  s = c.args.accepted.now.sheet.bytes.now

  abbrev t : ℕ → ℕ
  t = line_phase s c.args.phases

  cosines-bounded : Bounded (line_count s) c.fill_waves.new.cosines
  cosines-bounded = waves_bounded s (λ f. cos (t f)) (λ f. cos_size (t f)) _ c.fill_waves.ensures.cosines

  sines-bounded : Bounded (line_count s) c.fill_waves.new.sines
  sines-bounded = waves_bounded s (λ f. sin (t f)) (λ f. sin_size (t f)) _ c.fill_waves.ensures.sines

pub total_of-cosine_total-requires : goal.total_of-cosine_total-requires
total_of-cosine_total-requires c =
    (few (goal.at.total_of-cosine_total-requires c).Start, rw c.args.accepted.now.sheet.laid.lines (cosines-bounded (goal.at.total_of-cosine_total-requires c).After-fill_waves))

pub total_of-sine_total-requires : goal.total_of-sine_total-requires
total_of-sine_total-requires c =
    (few (goal.at.total_of-sine_total-requires c).Start, rw c.args.accepted.now.sheet.laid.lines (sines-bounded (goal.at.total_of-sine_total-requires c).After-fill_waves))

pub invariant_of-waves : goal.invariant_of-waves
invariant_of-waves c =
    let l = c.args.accepted.now.sheet.laid.lines in
    let w = (goal.at.invariant_of-waves c).After-fill_waves in
    record {
      cosines_bounded = cosines-bounded w;
      sines_bounded = sines-bounded w;
      cosines_added = rw l at c.total_of-cosine_total.ensures;
      sines_added = rw l at c.total_of-sine_total.ensures;
    }

-- once the factors are filled
module _ (c : After-fill_factors) where
  cosines : Lists (factor c.args.accepted.now.sheet.bytes.now (λ f. cos (line_phase c.args.accepted.now.sheet.bytes.now c.args.phases f))) (tide_count c.args.accepted.now.sheet.bytes.now) (cosine_of c.fill_factors.new.factors)
  cosines = factors_are _ _ (λ f. cos_size (line_phase c.args.accepted.now.sheet.bytes.now c.args.phases f)) _ c.fill_waves.ensures.cosines c.fill_factors.ensures.cosines

  sines : Lists (factor c.args.accepted.now.sheet.bytes.now (λ f. sin (line_phase c.args.accepted.now.sheet.bytes.now c.args.phases f))) (tide_count c.args.accepted.now.sheet.bytes.now) (sine_of c.fill_factors.new.factors)
  sines = factors_are _ _ (λ f. sin_size (line_phase c.args.accepted.now.sheet.bytes.now c.args.phases f)) _ c.fill_waves.ensures.sines c.fill_factors.ensures.sines

pub invariant_of-result : goal.invariant_of-result
invariant_of-result c =
    let w = (goal.at.invariant_of-result c).After-fill_factors in
    let a = accepted _ c.args.accepted.now.own in
    let t = line_phase c.args.accepted.now.sheet.bytes.now c.args.phases in
    record {
      cosines = factors_sized a (λ f. cos (t f)) (λ f. cos_size (t f)) (cosines w);
      sines = factors_sized a (λ f. sin (t f)) (λ f. sin_size (t f)) (sines w);
    }

pub returns : goal.returns
unfolding fcos fsin
returns c =
    let w = (goal.at.returns c).After-fill_factors in
    (refl, record { cosines = cosines w; sines = sines w })
