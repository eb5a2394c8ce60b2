-- A wave is at most 2^30, so that it is unsigned once raised by that; a line's place is below 128.
use mathlib.Core.Path.{◌≡◌, ap, ◌∙◌}
use Prim.Native.Nat.{ℕ, ◌^◌, ◌≤◌}
use native.Mathlib.Omega.{arith}
use lib.IntN.{ℤ, pos, nat_abs, ◌+ℤ◌}
use lib.ListN.{length-set}
use mir.Syntax.{w64}
use mir.Val.{to_z, of_z}
use Rattle.arguments.specs.declared.Multipliers.{Multipliers}
use Rattle.arguments.specs.Phase.{phase}
use Rattle.sheet.proofs.Acceptance.{accepted}
use Rattle.wave.specs.Wave.{sin, cos}
use Rattle.wave.proofs.Size.{sin_size, cos_size}
use Rattle.tides.specs.Tides.{line_phase}
use Rattle.tides.proofs.Lists.{raised_none, raised_more}
use Rattle.tides.proofs.Sizes.{read_back}
use Rattle.tides.proofs.fill_waves.Goals as goal
use Rattle.tides.proofs.fill_waves.Goals.{After-wave_of-wave, Start}

-- a turn, once the wave is known
module _ (c : After-wave_of-wave) where
  abbrev t : ℕ
  t = line_phase c.args.accepted.now.sheet.bytes.now c.args.phases c.loop-f.f

  the-phase : c.phase_of.result ≡ t
  the-phase = c.phase_of.ensures ∙ ap (λ (m : Multipliers). phase m c.args.phases) c.multipliers_at.ensures

  cosine-read : to_z w64 (of_z w64 c.wave_of-wave.result.cosine) ≡ cos t
  cosine-read = read_back (c.wave_of-wave.ensures.1 ∙ ap cos the-phase) (omega (arith, cos_size t))

  sine-read : to_z w64 (of_z w64 c.wave_of-wave.result.sine) ≡ sin t
  sine-read = read_back (c.wave_of-wave.ensures.0 ∙ ap sin the-phase) (omega (arith, sin_size t))

few : (s : Start) → s.args.accepted.now.sheet.layout.lines ≤ 128
few s = let a = s.args.accepted.now in omega (arith, a.sheet.laid.lines, (accepted _ a.own).shape.lines-most)

pub loop-f-init : goal.loop-f-init
loop-f-init c = (c.requires.0, c.requires.1, raised_none _ _, raised_none _ _)

pub raised-requires : goal.raised-requires
raised-requires c = let w = (goal.at.raised-requires c).After-wave_of-wave in rw (cosine-read w) (cos_size (t w), omega arith)

pub raised-requires-in-loop-f : goal.raised-requires-in-loop-f
raised-requires-in-loop-f c = let w = (goal.at.raised-requires-in-loop-f c).After-wave_of-wave in rw (sine-read w) (sin_size (t w), omega arith)

pub bounds-cosines-f : goal.bounds-cosines-f
bounds-cosines-f c = omega (arith, few (goal.at.bounds-cosines-f c).Start)

pub bounds-sines-f : goal.bounds-sines-f
bounds-sines-f c = omega (arith, few (goal.at.bounds-sines-f c).Start)

pub loop-f-preserved : goal.loop-f-preserved
loop-f-preserved c =
    let l = c.loop-f in
    let w = (goal.at.loop-f-preserved c).After-wave_of-wave in
    let up : ℤ → ℕ = λ z. nat_abs (z +ℤ pos (2 ^ 30)) in (
      simp length-set l.invariant.0,
      simp length-set l.invariant.1,
      raised_more _ l.f l.cosines l.invariant.2 (omega (arith, few (goal.at.loop-f-preserved c).Start)) (c.raised.ensures ∙ ap up (cosine-read w)),
      raised_more _ l.f l.sines l.invariant.3 (omega (arith, few (goal.at.loop-f-preserved c).Start)) (c.raised-in-loop-f.ensures ∙ ap up (sine-read w)),
    )
