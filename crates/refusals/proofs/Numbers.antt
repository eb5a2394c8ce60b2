-- A refusal's number is not 0, and is no other refusal's.
use mathlib.Core.Path.{◌≡◌, refl, sym, ap, ◌∙◌}
use mathlib.Core.List.{[], ◌∷◌}
use Prim.Native.Nat.{ℕ, ◌-◌}
use native.Mathlib.Omega.{arith}
use lib.ListN.{get_or}
use Rattle.refusals.specs.declared.Refusal.{Refusal}
use Rattle.refusals.specs.declared.Refusal.TheVariants.{FieldShape, FieldRange, NotFinite, BodyRange, NotUnit, StepOneRange, SheetLength, SheetValue, SheetDegree, NotDoodson, NoSuchLine, RecordCount, RecordValue, SelectionValue, PoleOffset, TwinLines, FileForm, TwinPlaces, FileRange, NoSuchSystem, ShortOutput}
use Rattle.std.specs.Prelude.{Result, Ok, Err}
use Rattle.refusals.specs.Numbers.{refusal_number, answer_number}

pub refusal_not_zero : (r : Refusal) → refusal_number r ≡ 0 → ⊥
refusal_not_zero FieldShape e = omega arith
refusal_not_zero FieldRange e = omega arith
refusal_not_zero NotFinite e = omega arith
refusal_not_zero BodyRange e = omega arith
refusal_not_zero NotUnit e = omega arith
refusal_not_zero StepOneRange e = omega arith
refusal_not_zero SheetLength e = omega arith
refusal_not_zero SheetValue e = omega arith
refusal_not_zero SheetDegree e = omega arith
refusal_not_zero NotDoodson e = omega arith
refusal_not_zero NoSuchLine e = omega arith
refusal_not_zero RecordCount e = omega arith
refusal_not_zero RecordValue e = omega arith
refusal_not_zero SelectionValue e = omega arith
refusal_not_zero PoleOffset e = omega arith
refusal_not_zero TwinLines e = omega arith
refusal_not_zero FileForm e = omega arith
refusal_not_zero TwinPlaces e = omega arith
refusal_not_zero FileRange e = omega arith
refusal_not_zero NoSuchSystem e = omega arith
refusal_not_zero ShortOutput e = omega arith

-- the refusal of a number
pub refusal_of : ℕ → Refusal
refusal_of number = get_or (FieldShape ∷ FieldRange ∷ NotFinite ∷ BodyRange ∷ NotUnit ∷ StepOneRange ∷ SheetLength ∷ SheetValue ∷ SheetDegree ∷ NotDoodson ∷ NoSuchLine ∷ RecordCount ∷ RecordValue ∷ SelectionValue ∷ PoleOffset ∷ TwinLines ∷ FileForm ∷ TwinPlaces ∷ FileRange ∷ NoSuchSystem ∷ ShortOutput ∷ []) (number - 1) FieldShape

pub refusal_again : (r : Refusal) → refusal_of (refusal_number r) ≡ r
unfolding refusal_of
refusal_again FieldShape = refl
refusal_again FieldRange = refl
refusal_again NotFinite = refl
refusal_again BodyRange = refl
refusal_again NotUnit = refl
refusal_again StepOneRange = refl
refusal_again SheetLength = refl
refusal_again SheetValue = refl
refusal_again SheetDegree = refl
refusal_again NotDoodson = refl
refusal_again NoSuchLine = refl
refusal_again RecordCount = refl
refusal_again RecordValue = refl
refusal_again SelectionValue = refl
refusal_again PoleOffset = refl
refusal_again TwinLines = refl
refusal_again FileForm = refl
refusal_again TwinPlaces = refl
refusal_again FileRange = refl
refusal_again NoSuchSystem = refl
refusal_again ShortOutput = refl

pub same_refusal : (r q : Refusal) → refusal_number r ≡ refusal_number q → r ≡ q
same_refusal r q e = sym (refusal_again r) ∙ ap refusal_of e ∙ refusal_again q

-- an answer is known by its number
pub same_answer : (a b : Result Unit Refusal) → answer_number a ≡ answer_number b → a ≡ b
same_answer (Ok x) (Ok y) e = refl
same_answer (Ok x) (Err q) e = absurd (refusal_not_zero q (sym e))
same_answer (Err r) (Ok y) e = absurd (refusal_not_zero r e)
same_answer (Err r) (Err q) e = ap Err (same_refusal r q e)
