-- What an entry gained is its correction, and that is close to the exact sum.
use mathlib.Core.List.{List, [], ◌∷◌}
use mathlib.Core.Path.{◌≡◌, sym, ap, subst, ◌∙◌}
use Prim.Native.Nat.{ℕ}
use native.Mathlib.Omega.{arith}
use lib.IntN.{ℤ, ◌+ℤ◌, ◌-ℤ◌}
use Rattle.arguments.specs.declared.Phases.{Phases}
use Rattle.bands.specs.Bands.{Coefficient, C20, C21, S21, C22, S22}
use Rattle.bodies.specs.declared.Body.{Body}
use Rattle.choices.specs.declared.Frame.{Frame}
use Rattle.choices.specs.declared.LoveModel.{LoveModel}
use Rattle.field.specs.Field.{place}
use Rattle.own.specs.declared.OwnLine.{OwnLine}
use Rattle.own.specs.Own.{own_corrections}
use Rattle.own_bound.specs.Exact.{WithinThreeCounts, exact_sum as own_sum}
use Rattle.own_bound.proofs.Bound.{own_close}
use Rattle.pole.specs.Pole.{exact_c21, exact_s21, WithinHalfACount}
use Rattle.pole.proofs.Laws.{half_a_count}
use Rattle.places.specs.Places.{index_of}
use Rattle.hour.specs.Hour.{HourCall, reached}
use Rattle.ocean_bound.specs.Exact.{AtMostNineCounts}
use Rattle.ocean_bound.proofs.Bound.{close_to_exact}
use Rattle.solid.specs.Solid.{counts_of}
use Rattle.step_one.specs.StepOne.{corrections as body_corrections}
use Rattle.step_two.specs.StepTwo.{corrections}
use Rattle.step_two_bound.specs.Exact.{LessThanOneCount, exact_sum as line_sum}
use Rattle.step_two_bound.proofs.Bound.{step_two_close}
use Rattle.surfgimlet.specs.Calls.{solid_tide_refusal, solid_tide, own_lines_refusal, own_lines, pole_tide_refusal, ocean_refusal}
use Rattle.surfgimlet.proofs.OceanTide.{passing}
use Rattle.whole.proofs.Ring.{equal, !, ◌⊕◌, ◌⊖◌}
use Rattle.demands.specs.Demands.{at, entry_of, of_bodies, of_lines, gain_of, PoleClose, OceanClose}
use Rattle.demands.proofs.Five.{own-lines as own-lines-entries, own_passed}
use Rattle.demands.proofs.Ocean.{c_here, s_here}
use Rattle.demands.proofs.Pole.{pole-tide as pole-tide-entries}
use Rattle.demands.proofs.Solid.{solid-tide as solid_entries}

-- close in any sense, P: what an entry gained, and what it gained besides a part that is known
by_gain : {E : Type 0} (P : ℤ → E → Type 0) (before after d : ℤ) (exact : E) → after ≡ before +ℤ d → P d exact → P (after -ℤ before) exact
by_gain P before after d exact e near =
    subst (λ (z : ℤ). P z exact) (sym (ap (λ (z : ℤ). z -ℤ before) e ∙ equal (! 0 ⊕ ! 1 ⊖ ! 0) (! 1) (before ∷ d ∷ []) (omega arith))) near

by_part : {E : Type 0} (P : ℤ → E → Type 0) (before after part d : ℤ) (exact : E) → after ≡ before +ℤ (part +ℤ d) → P d exact → P (after -ℤ before -ℤ part) exact
by_part P before after part d exact e near =
    by_gain (λ (z : ℤ). P (z -ℤ part)) before after (part +ℤ d) exact e
    (subst (λ (z : ℤ). P z exact) (sym (equal (! 0 ⊕ ! 1 ⊖ ! 0) (! 1) (part ∷ d ∷ []) (omega arith))) near)

lines_near : (phases : Phases) (love : LoveModel) (selection : ℕ) (k : Coefficient) → LessThanOneCount (of_lines (corrections phases love selection) k) (line_sum phases love selection k)
lines_near phases love selection C20 = (step_two_close phases love selection).c20
lines_near phases love selection C21 = (step_two_close phases love selection).c21
lines_near phases love selection S21 = (step_two_close phases love selection).s21
lines_near phases love selection C22 = (step_two_close phases love selection).c22
lines_near phases love selection S22 = (step_two_close phases love selection).s22

pub solid-tide : (n : ℕ) (c s : List ℤ) (moon sun : Body) (love : LoveModel) (calls : List HourCall) (selection : ℕ) → solid_tide_refusal n c s moon sun love selection ≡ 0 → (k : Coefficient)
    → LessThanOneCount (gain_of c s (solid_tide n c s moon sun love (reached calls) selection) k -ℤ of_bodies (counts_of (body_corrections moon sun love)) k) (line_sum (reached calls).phases love selection k)
solid-tide n c s moon sun love calls selection passed k =
    let phases = (reached calls).phases in
    by_part LessThanOneCount (entry_of c s k) _ (of_bodies (counts_of (body_corrections moon sun love)) k) (of_lines (corrections phases love selection) k) (line_sum phases love selection k)
    ((solid_entries n c s moon sun love calls selection passed).degree_two k) (lines_near phases love selection k)

module _ (n : ℕ) (c s : List ℤ) (lines : List OwnLine) (phases : Phases) (passed : own_lines_refusal n c s lines ≡ 0) where
  own_near : (k : Coefficient) → WithinThreeCounts (of_lines (own_corrections phases lines) k) (own_sum phases lines k)
  own_near C20 = (own_close phases lines (own_passed n c s lines passed)).c20
  own_near C21 = (own_close phases lines (own_passed n c s lines passed)).c21
  own_near S21 = (own_close phases lines (own_passed n c s lines passed)).s21
  own_near C22 = (own_close phases lines (own_passed n c s lines passed)).c22
  own_near S22 = (own_close phases lines (own_passed n c s lines passed)).s22

  pub own-lines : (k : Coefficient) → WithinThreeCounts (gain_of c s (own_lines n c s lines phases) k) (own_sum phases lines k)
  own-lines k = by_gain WithinThreeCounts (entry_of c s k) _ (of_lines (own_corrections phases lines) k) (own_sum phases lines k) ((own-lines-entries n c s lines phases passed).five k) (own_near k)

pub pole-tide : (n : ℕ) (c s : List ℤ) (xp yp : ℤ) (love : LoveModel) → pole_tide_refusal n c s xp yp ≡ 0 → PoleClose n c s xp yp love
pole-tide n c s xp yp love passed =
    let e = pole-tide-entries n c s xp yp love passed in
    let near = half_a_count xp yp love in
    record {
      c21 = by_gain WithinHalfACount (at c (place 2 1)) _ _ (exact_c21 love xp yp) e.c21 near.0;
      s21 = by_gain WithinHalfACount (at s (place 2 1)) _ _ (exact_s21 love xp yp) e.s21 near.1;
    }

pub ocean-tide : (n : ℕ) (c s : List ℤ) (sheet : List ℕ) (phases : Phases) (frame : Frame) → ocean_refusal n c s sheet ≡ 0 → OceanClose n c s sheet phases frame
ocean-tide n c s sheet phases frame e =
    let near = close_to_exact sheet (passing n c s sheet e).0 phases frame in
    record {
      in_c = λ j h. by_gain AtMostNineCounts (at c (index_of sheet j)) _ _ _ (c_here n c s sheet phases frame e j h) (near.c j h);
      in-s = λ j h. by_gain AtMostNineCounts (at s (index_of sheet j)) _ _ _ (s_here n c s sheet phases frame e j h) (near.s j h);
    }
