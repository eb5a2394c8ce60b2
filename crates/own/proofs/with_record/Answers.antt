-- A record in range adds its line's terms.
use Rattle.std.proofs.Common.{Ok, true}
use mathlib.Core.Path.{◌≡◌, refl, sym, ap, ◌∙◌}
use Prim.Native.Nat.{ℕ, ◌^◌, ◌≤◌}
use native.Mathlib.Omega.{arith}
use lib.IntN.{ℤ, nat_abs}
use mir.Syntax.{w64}
use mir.Facts.{to_z-of_z}
use Rattle.arguments.specs.Phase.{phase}
use Rattle.bands.specs.Bands.{plus_line}
use Rattle.bands.proofs.Sizes.{lighter}
use Rattle.wave.specs.Wave.{sin, cos}
use Rattle.wave.proofs.Size.{sin_size, cos_size}
use Rattle.whole.proofs.Machine.{read}
use Rattle.whole.proofs.Parts.{fits_abs}
use Rattle.own.specs.declared.OwnLine.{OwnLine}
use Rattle.own.specs.Own.{multipliers_of, in_range}
use Rattle.own.specs.Inner.{with_record}
use Rattle.own.proofs.Records.{record_light}
use Rattle.own.proofs.with_record.Goals as goal
use Rattle.own.proofs.with_record.Goals.{After-line_of}

-- a wave as the machine reads it
wave-read : {w : ℤ} (v : ℤ) → w ≡ v → nat_abs v ≤ 2 ^ 30 → read w ≡ v
wave-read v e h = ap read e ∙ to_z-of_z (fits_abs w64 v (omega arith))

wave-small : {w : ℤ} (v : ℤ) → w ≡ v → nat_abs v ≤ 2 ^ 30 → nat_abs w ≤ 2 ^ 31
wave-small v e h = rw e (omega arith)

-- a record in range, once its line and its wave are had
module _ (c : After-line_of) where
  abbrev l : OwnLine
  l = c.args.line

  abbrev at : ℕ
  at = phase (multipliers_of l) c.args.phases

  in-range : in_range l ≡ true
  in-range = sym c.is_in_range.ensures ∙ c.if-not-is_in_range.false

  at-phase : c.phase_of.result ≡ at
  unfolding multipliers_of
  at-phase = c.phase_of.ensures

  cosine : read c.wave_of-wave.result.cosine ≡ cos at
  cosine = wave-read (cos at) (c.wave_of-wave.ensures.1 ∙ ap cos at-phase) (cos_size at)

  sine : read c.wave_of-wave.result.sine ≡ sin at
  sine = wave-read (sin at) (c.wave_of-wave.ensures.0 ∙ ap sin at-phase) (sin_size at)

pub with_line-requires : goal.with_line-requires
with_line-requires c =
    let cosine-small = wave-small (cos (at (goal.at.with_line-requires c).After-line_of)) (cosine (goal.at.with_line-requires c).After-line_of) (cos_size (at (goal.at.with_line-requires c).After-line_of)) in
    let sine-small = wave-small (sin (at (goal.at.with_line-requires c).After-line_of)) (sine (goal.at.with_line-requires c).After-line_of) (sin_size (at (goal.at.with_line-requires c).After-line_of)) in
    record {
      sums_small = c.requires;
      line_small = rw c.line_of.ensures (lighter (omega arith) (record_light (l (goal.at.with_line-requires c).After-line_of) (in-range (goal.at.with_line-requires c).After-line_of)));
      cosine-small = search cosine-small;
      sine-small = search sine-small;
    }

pub returns-then-not-is_in_range : goal.returns-then-not-is_in_range
unfolding with_record
returns-then-not-is_in_range c = rw (sym c.is_in_range.ensures ∙ c.if-not-is_in_range.true) refl

pub returns : goal.returns
unfolding with_record
returns c =
    let x = c.args in
    let s = (goal.at.returns c).After-line_of in
    rw (in-range s)
    (ap Ok (c.with_line.ensures ∙ (λ i. plus_line x.sums (c.line_of.ensures i) (cosine s i) (sine s i))))
