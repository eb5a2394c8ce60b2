-- The shape is tested first; the ranges are the definition's.
use Rattle.std.proofs.Common.{arith, ◌≡◌, ℕ, Bool, true, false, cond, if◌then◌else◌, ◌&&◌, sym, refl, ◌∙◌}
use Rattle.std.proofs.lemmas.Result.{err_from_is_err_and}
use Rattle.refusals.specs.declared.Refusal.{Refusal}
use Rattle.refusals.specs.Numbers.{refusal_number}
use Rattle.refusals.proofs.Numbers.{refusal_not_zero}
use Rattle.field.specs.Field.{field_refusal}
use Rattle.field.proofs.tested.Goals as goal

-- a shape that was refused, and one that was not
refused_shape : (b : Bool) (r : Refusal) (x : ℕ) → refusal_number r ≡ (if b then 0 else 1) → refusal_number r ≡ cond b x 1
refused_shape true r x e = absurd (refusal_not_zero r e)
refused_shape false r x e = e

accepted_shape : (b : Bool) (x n : ℕ) → n ≡ 0 → n ≡ (if b then 0 else 1) → cond b x 1 ≡ x
accepted_shape true x n z e = refl
accepted_shape false x n z e = absurd (omega (arith, z, e))

-- both lists' tests, which the code takes together
both : (a b c d : Bool) → a ≡ c → b ≡ d → (c && d) ≡ (a && b)
both a b c d p q = rw (p, q) refl

pub returns-in_err-shape_tested : goal.returns-in_err-shape_tested
unfolding field_refusal
returns-in_err-shape_tested c =
    let p = err_from_is_err_and c.from_residual.result c.from_residual.ensures.1 in
    rw (p.1, p.2) (refused_shape _ c.in_err-shape_tested.field-0.0 _ c.in_err-shape_tested.ensures)

pub returns-then-all_in_range : goal.returns-then-all_in_range
unfolding field_refusal
returns-then-all_in_range c =
    sym (accepted_shape _ _ 0 refl c.in_ok-shape_tested.ensures ∙ rw (both _ _ _ _ c.all_in_range.ensures c.all_in_range-2.ensures ∙ c.if-all_in_range.true) refl)

pub returns-else-all_in_range : goal.returns-else-all_in_range
unfolding field_refusal
returns-else-all_in_range c =
    sym (accepted_shape _ _ 0 refl c.in_ok-shape_tested.ensures ∙ rw (both _ _ _ _ c.all_in_range.ensures c.all_in_range-2.ensures ∙ c.if-all_in_range.false) refl)
