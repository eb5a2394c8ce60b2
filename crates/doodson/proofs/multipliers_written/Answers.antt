-- Each field is its digit's.
use Rattle.std.proofs.Common.{ℕ, ℤ, pos, ◌-ℤ◌, ap, ◌∙◌, arith, w32}
use mir.Facts.{to_z_pos}
use Rattle.whole.proofs.Machine.{back}
use Rattle.doodson.specs.Doodson.{multipliers_written}
use Rattle.doodson.proofs.multipliers_written.Goals as goal

abbrev less : ℕ → ℤ
less d = pos d -ℤ pos 5

pub returns : goal.returns
unfolding multipliers_written
returns g c =
    let tau = c.digit in
    let s = c.multiplier_of in
    let h = c.multiplier_of-2 in
    let p = c.multiplier_of-3 in
    let np = c.multiplier_of-4 in
    let ps = c.multiplier_of-5 in
    λ i. record {
      tau = (to_z_pos w32 (omega (arith, tau.ensures.1)) ∙ ap pos tau.ensures.0) i;
      s = (back w32 s.result s.type_inv ∙ s.ensures ∙ ap less c.digit-2.ensures.0) i;
      h = (back w32 h.result h.type_inv ∙ h.ensures ∙ ap less c.digit-3.ensures.0) i;
      p = (back w32 p.result p.type_inv ∙ p.ensures ∙ ap less c.digit-4.ensures.0) i;
      np = (back w32 np.result np.type_inv ∙ np.ensures ∙ ap less c.digit-5.ensures.0) i;
      ps = (back w32 ps.result ps.type_inv ∙ ps.ensures ∙ ap less c.digit-6.ensures.0) i;
    }
