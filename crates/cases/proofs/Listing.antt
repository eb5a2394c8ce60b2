-- P7 and P8, computed.
use mathlib.Core.Path.{◌≡◌, refl}
use Prim.Native.Nat.{◌^◌}
use lib.IntN.{pos, neg_ℤ}
use lib.ListN.{replicate}
use Rattle.arguments.specs.Phase.{modulo, phase}
use Rattle.bands.specs.Bands.{of_diurnal, of_long_period, of_semidiurnal, of_band, term, sum_of, correction_of, corrections_of}
use Rattle.choices.specs.declared.LoveModel.TheVariants.{Elastic, Anelastic}
use Rattle.doodson.specs.Doodson.{multipliers_in}
use Rattle.lines.specs.Lines.{diurnal, long_period, semidiurnal, printed, line_at, multipliers_at, band_at, in_model, printed_line}
use Rattle.listing.specs.Listing.{phases_of, columns, model_text, models_text, listing_of}
use Rattle.profiles.specs.Profiles.{all_lines}
use Rattle.selection.specs.Selection.{names, selected, selection_of}
use Rattle.step_two.specs.StepTwo.{corrections}
use Rattle.text.specs.Text.{ascii, digits, decimal, number}
use Rattle.wave.specs.Wave.{sin, cos, further, eighths, signed, part, folded, eighth_sine, eighth_cosine, steps, step, square, angle}
use Rattle.whole.specs.Nearest.{nearest}
use Rattle.whole.specs.Sum.{sum_to}
use Rattle.cases.specs.Cases.{tau_alone, counts}

pub record Worked : Type 0 where
  pub elastic : corrections (tau_alone 0) Elastic all_lines ≡ counts (pos 0) (pos 0) (pos 450700) (neg_ℤ (pos 1500)) (pos 0)
  pub anelastic : corrections (tau_alone 0) Anelastic all_lines ≡ counts (pos 10100) (pos 0) (pos 450100) (neg_ℤ (pos 1500)) (pos 0)
  pub quarter_turn : corrections (tau_alone (2 ^ 30)) Anelastic all_lines ≡ counts (pos 10100) (pos 450100) (pos 0) (pos 1500) (pos 0)

pub worked : Worked
unfolding modulo phase multipliers_in diurnal long_period semidiurnal printed line_at multipliers_at band_at in_model printed_line names selected selection_of all_lines of_diurnal of_long_period of_semidiurnal of_band term sum_of correction_of corrections_of corrections sin cos further eighths signed part folded eighth_sine eighth_cosine steps step square angle nearest sum_to
worked = record { elastic = refl; anelastic = refl; quarter_turn = refl }

pub zeros_listed : listing_of (replicate 24 0) ≡ ascii "model C20 C21 S21 C22 S22\nelastic 0 0 450700 -1500 0\nanelastic 10100 0 450100 -1500 0\n"
unfolding ascii phases_of digits decimal number columns model_text models_text listing_of
zeros_listed = rw (worked.elastic, worked.anelastic)
