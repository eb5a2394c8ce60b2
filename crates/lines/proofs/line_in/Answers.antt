-- Each case is the definition's.
use Rattle.std.proofs.Common.{◌≡◌, ◌≤◌, ℤ, pos, ◌*ℤ◌, nat_abs, ap, ◌∙◌, refl, arith, w64, to_z, of_z, to_z-of_z}
use Rattle.bands.specs.declared.Band.{Band}
use Rattle.bands.specs.declared.Line.{Line}
use Rattle.bands.specs.Bands.{in_counts}
use Rattle.bands.proofs.Counts.{counts_read}
use Rattle.whole.proofs.Parts.{fits_abs}
use Rattle.lines.specs.Lines.{in_model}
use Rattle.lines.proofs.Table.{model_small}
use Rattle.lines.proofs.line_in.Goals as goal
use Rattle.lines.proofs.line_in.Goals.{in-Diurnal-Elastic, in-Diurnal-Anelastic, in-LongPeriod-Elastic, in-LongPeriod-Anelastic, in-Semidiurnal-default}

-- a printed amplitude, as the code has it in counts
read : (a : ℤ) → nat_abs a ≤ 4720 → to_z w64 (of_z w64 (to_z w64 (of_z w64 a) *ℤ pos 100)) ≡ in_counts a
read a h = counts_read a (omega arith)

stored : {x z : ℤ} → x ≡ z → nat_abs z ≤ 472000 → to_z w64 (of_z w64 x) ≡ z
stored {x} {z} e h = rw e (to_z-of_z (fits_abs w64 z (omega arith)))

made : (m : Line) → (nat_abs m.ip ≤ 472000) × (nat_abs m.op ≤ 472000) → {band : Band} {p : ℤ × ℤ} → (band ≡ m.band) × (p ≡ (m.ip, m.op))
    → ◌≡◌ {A = Line} (record { band = band; ip = to_z w64 (of_z w64 p.0); op = to_z w64 (of_z w64 p.1) }) m
made m small e = λ i. record {
  band = e.0 i;
  ip = stored (ap (λ (q : ℤ × ℤ). q.0) e.1) small.0 i;
  op = stored (ap (λ (q : ℤ × ℤ). q.1) e.1) small.1 i;
}

pub returns : goal.returns
unfolding in_model
returns c =
    let a = c.args in
    let m : Line = in_model a.band a.love a.first a.second in
    let first = read a.first c.requires.0 in
    let second = read a.second c.requires.1 in
    let same : (a.band ≡ m.band) × (c.match-band.ip ≡ (m.ip, m.op)) =
    elim c.match-band.branch [
      | in-Diurnal-Elastic w ↦ rw (w.in-Diurnal-Elastic.is-0, w.in-Diurnal-Elastic.is-1) (refl, w.ip-is ∙ (λ i. (first i, pos 0)))
      | in-Diurnal-Anelastic w ↦ rw (w.in-Diurnal-Anelastic.is-0, w.in-Diurnal-Anelastic.is-1) (refl, w.ip-is ∙ (λ i. (second i, pos 0)))
      | in-LongPeriod-Elastic w ↦ rw (w.in-LongPeriod-Elastic.is-0, w.in-LongPeriod-Elastic.is-1) (refl, w.ip-is)
      | in-LongPeriod-Anelastic w ↦ rw (w.in-LongPeriod-Anelastic.is-0, w.in-LongPeriod-Anelastic.is-1) (refl, w.ip-is ∙ (λ i. (first i, second i)))
      | in-Semidiurnal-default w ↦ rw w.in-Semidiurnal-default.is-0 (refl, w.ip-is ∙ (λ i. (first i, pos 0)))
    ] in
    made m (model_small a.band a.love a.first a.second c.requires.0 c.requires.1) same
