-- P9, computed.
use mathlib.Core.List.{[], ◌∷◌, ◌++◌, map}
use mathlib.Core.Path.{◌≡◌, refl}
use Prim.Native.Nat.{◌^◌}
use lib.IntN.{pos, neg_ℤ}
use lib.ListN.{take}
use Rattle.arguments.specs.Phase.{modulo, phase}
use Rattle.choices.specs.declared.Frame.{Frame}
use Rattle.choices.specs.declared.Frame.TheVariants.{CentreOfFigure, CentreOfMass}
use Rattle.field.specs.Field.{size, place, shaped_by, every_in_range, field_refusal}
use Rattle.field.specs.Added.{corrected, added}
use Rattle.refusals.specs.Outcome.{first_of, unless_refused}
use Rattle.ocean.specs.Ocean.{d_c, d_s}
use Rattle.places.specs.Places.{place_sum, skipped, unless_skipped, correction}
use Rattle.sheet.specs.Accepted.{shaped, line_valid, row_valid, counts_valid, s_zero, place_valid, precedes, ascending, valid, untwinned, reached, own_refusal, sheet_refusal}
use Rattle.sheet.specs.Sheet.{line_count, tide_count, place_count, multiplier, multipliers, admittance, degree, order, coefficient}
use Rattle.surfgimlet.specs.Calls.{ocean_refusal, ocean_tide}
use Rattle.tides.specs.Tides.{line_sum, factor, fcos, fsin}
use Rattle.wave.specs.Wave.{folded, part, signed, eighths, further, angle, square, step, steps, eighth_sine, eighth_cosine, sin, cos}
use Rattle.whole.specs.Nearest.{nearest}
use Rattle.whole.specs.Sum.{sum_to, weight_to, all_to}
use Rattle.words.specs.Words.{twos_complement}
use Rattle.cases.specs.Cases.{tau_alone, sheet, zeros, at_place22}

pub at_zero : (frame : Frame) → ocean_tide 4 zeros zeros sheet (tau_alone 0) frame ≡ at_place22 (pos 1000) (pos 0)
unfolding ocean_tide ocean_refusal unless_refused field_refusal shaped_by size place every_in_range corrected added d_c d_s correction unless_skipped skipped place_sum fcos fsin factor line_sum nearest phase modulo multipliers sum_to sin cos further eighths signed part folded eighth_sine eighth_cosine steps step square angle sheet_refusal first_of own_refusal shaped valid untwinned reached line_valid row_valid place_valid counts_valid s_zero ascending precedes twos_complement line_count tide_count place_count multiplier admittance degree order coefficient weight_to all_to
at_zero CentreOfFigure = refl
at_zero CentreOfMass = refl

pub at_an_eighth : (frame : Frame) → ocean_tide 4 zeros zeros sheet (tau_alone (2 ^ 29)) frame ≡ at_place22 (pos 0) (neg_ℤ (pos 500))
unfolding ocean_tide ocean_refusal unless_refused field_refusal shaped_by size place every_in_range corrected added d_c d_s correction unless_skipped skipped place_sum fcos fsin factor line_sum nearest phase modulo multipliers sum_to sin cos further eighths signed part folded eighth_sine eighth_cosine steps step square angle sheet_refusal first_of own_refusal shaped valid untwinned reached line_valid row_valid place_valid counts_valid s_zero ascending precedes twos_complement line_count tide_count place_count multiplier admittance degree order coefficient weight_to all_to
at_an_eighth CentreOfFigure = refl
at_an_eighth CentreOfMass = refl

pub lengths_are : map (λ s. sheet_refusal s 4) (sheet ∷ take 33 sheet ∷ (sheet ++ 0 ∷ []) ∷ []) ≡ 0 ∷ 7 ∷ 7 ∷ []
unfolding sheet_refusal first_of own_refusal shaped valid untwinned reached line_valid row_valid place_valid counts_valid s_zero ascending precedes twos_complement line_count tide_count place_count multiplier admittance degree order coefficient weight_to all_to
lengths_are = refl
