-- Each entry after the pole tide, where nothing is refused: C21 and S21 moved by their corrections, every other as before.
use mathlib.Core.List.{List}
use mathlib.Core.Path.{◌≡◌, ◌∙◌}
use Prim.Native.Nat.{ℕ, zero, suc}
use native.Mathlib.Omega.{arith}
use lib.IntN.{ℤ}
use Rattle.choices.specs.declared.LoveModel.{LoveModel}
use Rattle.field.specs.Added.{corrected}
use Rattle.field.specs.Field.{place, field_refusal}
use Rattle.field.proofs.Accepted.{accepted_field, degree_two}
use Rattle.field.proofs.Entries.{corrected_here, corrected_elsewhere}
use Rattle.pole.specs.declared.Corrections.{Corrections}
use Rattle.pole.specs.Pole.{corrections}
use Rattle.refusals.specs.Outcome.{unless_refused}
use Rattle.refusals.proofs.Outcomes.{first_none}
use Rattle.surfgimlet.specs.Calls.{pole_tide_refusal, pole_tide}
use Rattle.demands.specs.Demands.{at, PoleEntries}
use Rattle.demands.proofs.Five.{read}

-- no S(n,0) stands at (2,1)
order_zero_apart : (d : ℕ) → place d 0 ≡ 4 → ⊥
unfolding place
order_zero_apart zero e = omega (arith, e)
order_zero_apart (suc zero) e = omega (arith, e)
order_zero_apart (suc (suc zero)) e = omega (arith, e)
order_zero_apart (suc (suc (suc d))) e = omega (arith, e)

module _ (n : ℕ) (c s : List ℤ) (xp yp : ℤ) (love : LoveModel) (passed : pole_tide_refusal n c s xp yp ≡ 0) where
  abbrev d : Corrections
  d = corrections xp yp love

  c_is : (pole_tide n c s xp yp love).c ≡ corrected c (place 2 1) d.c21
  unfolding pole_tide unless_refused
  c_is = rw passed

  s_is : (pole_tide n c s xp yp love).s ≡ corrected s (place 2 1) d.s21
  unfolding pole_tide unless_refused
  s_is = rw passed

  field : field_refusal n c s ≡ 0
  unfolding pole_tide_refusal
  field = (first_none _ _ passed).0

  s_other : (k : ℕ) → (k ≡ place 2 1 → ⊥) → at (pole_tide n c s xp yp love).s k ≡ at s k
  s_other k h = read s_is k ∙ corrected_elsewhere s (place 2 1) d.s21 k h

  pub pole-tide : PoleEntries n c s xp yp love
  unfolding place
  pole-tide =
      let a = accepted_field n c s field in
      record {
        c21 = read c_is _ ∙ corrected_here c (place 2 1) d.c21 (omega (arith, degree_two n c a.least a.c_size));
        s21 = read s_is _ ∙ corrected_here s (place 2 1) d.s21 (omega (arith, degree_two n s a.least a.s_size));
        c_elsewhere = λ k h. read c_is k ∙ corrected_elsewhere c (place 2 1) d.c21 k h;
        s_elsewhere = s_other;
        order_zero = λ k. s_other (place k 0) (order_zero_apart k);
      }
