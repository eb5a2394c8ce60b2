-- The calls without a field are refused exactly when the table says: 2 of a C20 to move, 10 and 11 of a Doodson number. And 3 to 6 and 14 of the solid tide, 15 of the pole tide, 16 of the ocean tide.
use borrow.Author.Tests.{leb-true, leb-false, le-leb, lt-leb, eq-eqb, ne_eqb}
use mathlib.Core.Bool.{Bool, true, false, true≢false, cond, ◌&&◌}
use mathlib.Core.List.{List, [], ◌∷◌}
use mathlib.Core.Logic.{◌↔◌}
use mathlib.Core.Path.{◌≡◌, refl, sym, ap, ◌∙◌}
use Prim.Native.Nat.{ℕ, zero, suc, ◌+◌, ◌^◌, ◌≤◌, ◌<◌}
use native.Mathlib.Omega.{arith}
use lib.Dec.{eqb}
use lib.IntN.{ℤ, nat_abs}
use lib.ListN.{length, get_or}
use Rattle.arguments.specs.declared.Multipliers.{Multipliers}
use Rattle.bodies.specs.declared.Body.{Body}
use Rattle.choices.specs.declared.LoveModel.{LoveModel}
use Rattle.choices.specs.declared.PermanentSystem.{PermanentSystem}
use Rattle.doodson.specs.Doodson.{writable, read_doodson, write_doodson}
use Rattle.field.specs.Field.{shaped, every_in_range, field_refusal}
use Rattle.limits.specs.Limits.{is_doodson, is_entry, is_selection, is_pole_offset}
use Rattle.lines.specs.declared.Found.{Found}
use Rattle.lines.specs.Lines.{Printed, nowhere, printed, line_at, sought_from, find_line}
use Rattle.permanent.specs.Systems.{moved_c20}
use Rattle.pole.specs.Pole.{offsets_refusal}
use Rattle.pole.proofs.Offsets.{within_an_arcsecond}
use Rattle.refusals.specs.Told.{Told, told_number}
use Rattle.refusals.specs.Told.Told.{accepted, refused}
use Rattle.refusals.specs.Outcome.{first_of}
use Rattle.refusals.proofs.Outcomes.{first_kept, first_passed}
use Rattle.selection.specs.Selection.{names, selection_refusal}
use Rattle.selection.proofs.Laws.{no_bit_above}
use Rattle.step_one.specs.StepOne.{corrections}
use Rattle.step_one.proofs.Table.{at_most_six}
use Rattle.sheet.specs.Accepted.{sheet_refusal}
use Rattle.sheet.proofs.Table.{ShapeFault, ValueFault, TwinFault, sheet_table}
use Rattle.surfgimlet.specs.Calls.{solid_tide_refusal, pole_tide_refusal, ocean_refusal}

-- a value, or a refusal where a test fails
told_refused : {A : Type 0} (b : Bool) (x : A) (k : ℕ) → (k ≡ 0 → ⊥) → cond b (accepted x) (refused k) ≡ refused k ↔ (b ≡ false)
told_refused true x k h = (λ e. absurd (h (sym (ap told_number e))), λ f. absurd (true≢false f))
told_refused false x k h = (λ e. refl, λ f. refl)

-- 2: "a C20 to convert, outside the range"
pub two_of_a_move : (c20 : ℤ) (from to : PermanentSystem) (love : LoveModel) → moved_c20 c20 from to love ≡ refused 2 ↔ (2 ^ 60 < nat_abs c20)
unfolding moved_c20
two_of_a_move c20 from to love =
    let t = told_refused (is_entry c20) _ 2 (λ e. omega arith) in
    (λ e. leb-false _ _ (t.0 e), λ h. t.1 (lt-leb _ _ h))

-- 10: "Doodson number above 999,999, or multipliers it cannot write"
pub ten_of_a_number : (number : ℕ) → read_doodson number ≡ refused 10 ↔ (999999 < number)
unfolding read_doodson
ten_of_a_number number =
    let t = told_refused (is_doodson number) _ 10 (λ e. omega arith) in
    (λ e. leb-false _ _ (t.0 e), λ h. t.1 (lt-leb _ _ h))

pub ten_of_multipliers : (n : Multipliers) → write_doodson n ≡ refused 10 ↔ (writable n ≡ false)
unfolding write_doodson
ten_of_multipliers n = told_refused (writable n) _ 10 (λ e. omega arith)

-- 11: "no such printed line"
module _ (number : ℕ) where
  abbrev Nowhere : List Printed → Type 0
  Nowhere ls = (j : ℕ) → j < length ls → (get_or ls j nowhere).number ≡ number → ⊥

  not_found : (i : ℕ) (ls : List Printed) → sought_from number i ls ≡ refused 11 → Nowhere ls
  unfolding sought_from
  not_found i [] e j h q = absurd (omega arith)
  not_found i (l ∷ ls) e j h q = by_test (eqb l.number number) refl e (not_found (i + 1) ls) j h q
    where
      by_test : (b : Bool) → eqb l.number number ≡ b → cond {A = Told Found} b (accepted (record { index = i; first = l.first; second = l.second })) (sought_from number (i + 1) ls) ≡ refused 11
          → (sought_from number (i + 1) ls ≡ refused 11 → Nowhere ls) → Nowhere (l ∷ ls)
      by_test true t e more j h q = absurd (let z = ap told_number e in omega (arith, z))
      by_test false t e more zero h q = absurd (true≢false (sym (eq-eqb l.number number q) ∙ t))
      by_test false t e more (suc j) h q = more e j (omega arith) q

  none_found : (i : ℕ) (ls : List Printed) → Nowhere ls → sought_from number i ls ≡ refused 11
  unfolding sought_from
  none_found i [] h = refl
  none_found i (l ∷ ls) h = rw (ne_eqb l.number number (h 0 (omega arith))) (none_found (i + 1) ls (λ j b. h (suc j) (omega arith)))

  never_ten : (i : ℕ) (ls : List Printed) → told_number (sought_from number i ls) ≡ 10 → ⊥
  unfolding sought_from
  never_ten i [] e = omega arith
  never_ten i (l ∷ ls) e = by_test (eqb l.number number) e (never_ten (i + 1) ls)
    where
      by_test : (b : Bool) → told_number (cond {A = Told Found} b (accepted (record { index = i; first = l.first; second = l.second })) (sought_from number (i + 1) ls)) ≡ 10
          → (told_number (sought_from number (i + 1) ls) ≡ 10 → ⊥) → ⊥
      by_test true e more = omega (arith, e)
      by_test false e more = more e

  -- of a printed line sought: 10 is tested first
  pub ten_of_a_line : find_line number ≡ refused 10 ↔ (999999 < number)
  unfolding find_line
  ten_of_a_line = (λ e. by_test (is_doodson number) refl e, λ h. rw (lt-leb _ _ h) refl)
    where
      by_test : (b : Bool) → is_doodson number ≡ b → cond b (sought_from number 0 printed) (refused 10) ≡ refused 10 → 999999 < number
      by_test true t e = absurd (never_ten 0 printed (ap told_number e))
      by_test false t e = leb-false _ _ t

  pub eleven_of_a_line : find_line number ≡ refused 11 ↔ ((number ≤ 999999) × ((i : ℕ) → i < 49 → (line_at i).number ≡ number → ⊥))
  unfolding find_line line_at printed
  eleven_of_a_line = (λ e. by_test (is_doodson number) refl e, λ h. rw (le-leb _ _ h.0) (none_found 0 printed h.1))
    where
      by_test : (b : Bool) → is_doodson number ≡ b → cond b (sought_from number 0 printed) (refused 10) ≡ refused 11
          → (number ≤ 999999) × ((i : ℕ) → i < 49 → (get_or printed i nowhere).number ≡ number → ⊥)
      by_test true t e = (leb-true _ _ t, not_found 0 printed e)
      by_test false t e = absurd (let z = ap told_number e in omega (arith, z))

-- a test that answers k, or 0 where A is so
one_test : {A : Type 0} (b : Bool) (k : ℕ) → 0 < k → ◌≡◌ {A = ℕ} (cond b 0 k) 0 ↔ A → cond b 0 k ≡ k ↔ (A → ⊥)
one_test true k some t = (λ e. absurd (omega (arith, e)), λ q. absurd (q (t.0 refl)))
one_test false k some t = (λ e a. omega (arith, t.1 a), λ q. refl)

-- of two refusals in their order, a number that the first never answers is the second's, and one that the second never answers is the first's
second_answers : (f g k : ℕ) → (f ≡ k → ⊥) → first_of f g ≡ k ↔ ((f ≡ 0) × (g ≡ k))
second_answers zero g k other = (λ e. (refl, sym (first_passed 0 g refl) ∙ e), λ q. first_passed 0 g refl ∙ q.1)
second_answers (suc f) g k other = (λ e. absurd (other (sym (first_kept (suc f) g (λ z. omega arith)) ∙ e)), λ q. absurd (omega (arith, q.0)))

first_answers : (f g k : ℕ) → 0 < k → (g ≡ k → ⊥) → first_of f g ≡ k ↔ (f ≡ k)
first_answers zero g k some other = (λ e. absurd (other (sym (first_passed 0 g refl) ∙ e)), λ z. absurd (omega (arith, z)))
first_answers (suc f) g k some other = let kept = first_kept (suc f) g (λ z. omega arith) in (λ e. sym kept ∙ e, λ e. kept ∙ e)

module _ (n : ℕ) (c s : List ℤ) where
  field_most : field_refusal n c s ≤ 2
  unfolding field_refusal
  field_most = by (shaped n c s) (every_in_range c && every_in_range s)
    where
      by : (a b : Bool) → cond a (cond b 0 2) 1 ≤ 2
      by true true = omega arith
      by true false = omega arith
      by false b = omega arith

  after_the_field : (g k : ℕ) → 2 < k → first_of (field_refusal n c s) g ≡ k ↔ ((field_refusal n c s ≡ 0) × (g ≡ k))
  after_the_field g k after = second_answers (field_refusal n c s) g k (λ e. omega (arith, field_most, e))

  -- "1, 2, 14, then the Moon's 3, 4, 5, the Sun's, and 6"
  module _ (moon sun : Body) (love : LoveModel) (selection : ℕ) where
    abbrev NoBitAbove : Type 0
    NoBitAbove = (i : ℕ) → 49 ≤ i → names selection i ≡ false

    selection_fourteen : selection_refusal selection ≡ 14 ↔ (NoBitAbove → ⊥)
    unfolding selection_refusal
    selection_fourteen = one_test (is_selection selection) 14 (omega arith) (no_bit_above selection)

    selection_other : (k : ℕ) → 0 < k → k < 14 → selection_refusal selection ≡ k → ⊥
    unfolding selection_refusal
    selection_other k some few = by (is_selection selection)
      where
        by : (b : Bool) → cond b 0 14 ≡ k → ⊥
        by true e = omega (arith, e)
        by false e = omega (arith, e)

    -- 14: a bit above 48, where the field passes
    pub fourteen_of_the_solid_tide : solid_tide_refusal n c s moon sun love selection ≡ 14 ↔ ((field_refusal n c s ≡ 0) × (NoBitAbove → ⊥))
    unfolding solid_tide_refusal
    fourteen_of_the_solid_tide =
        let bodies = told_number (corrections moon sun love) in
        let outer = after_the_field (first_of (selection_refusal selection) bodies) 14 (omega arith) in
        let inner = first_answers (selection_refusal selection) bodies 14 (omega arith) (λ e. omega (arith, at_most_six moon sun love, e)) in
        (λ e. let q = outer.0 e in (q.0, selection_fourteen.0 (inner.0 q.1)), λ q. outer.1 (q.0, inner.1 (selection_fourteen.1 q.1)))

    -- 3, 4, 5 and 6: the bodies', where field and selection pass (`Rattle.step_one.proofs.Table.step_one_table` says when)
    pub bodies_of_the_solid_tide : (k : ℕ) → 2 < k → k < 14
        → solid_tide_refusal n c s moon sun love selection ≡ k ↔ ((field_refusal n c s ≡ 0) × NoBitAbove × (told_number (corrections moon sun love) ≡ k))
    unfolding solid_tide_refusal
    bodies_of_the_solid_tide k low high =
        let bodies = told_number (corrections moon sun love) in
        let outer = after_the_field (first_of (selection_refusal selection) bodies) k low in
        let inner = second_answers (selection_refusal selection) bodies k (selection_other k (omega arith) high) in (
          λ e. let q = outer.0 e in let r = inner.0 q.1 in (q.0, (no_bit_above selection).0 r.0, r.1),
          λ q. outer.1 (q.0, inner.1 ((no_bit_above selection).1 q.1, q.2)),
        )

  -- 15: "for an offset out of range, after 2"
  pub fifteen_of_the_pole_tide : (xp yp : ℤ) → pole_tide_refusal n c s xp yp ≡ 15 ↔ ((field_refusal n c s ≡ 0) × ((nat_abs xp ≤ 1000000) × (nat_abs yp ≤ 1000000) → ⊥))
  unfolding pole_tide_refusal offsets_refusal
  fifteen_of_the_pole_tide xp yp =
      let outer = after_the_field (offsets_refusal xp yp) 15 (omega arith) in
      let beyond = one_test (is_pole_offset xp && is_pole_offset yp) 15 (omega arith) (within_an_arcsecond xp yp) in
      (λ e. let q = outer.0 e in (q.0, beyond.0 q.1), λ q. outer.1 (q.0, beyond.1 q.1))

  -- 16: "Such a sheet is to be refused, wherever the two rows stand", "after 8 and before 9"
  pub sixteen_of_the_ocean_tide : (sheet : List ℕ) → ocean_refusal n c s sheet ≡ 16 ↔ ((field_refusal n c s ≡ 0) × (ShapeFault sheet → ⊥) × (ValueFault sheet → ⊥) × TwinFault sheet)
  unfolding ocean_refusal
  sixteen_of_the_ocean_tide sheet =
      let outer = after_the_field (sheet_refusal sheet n) 16 (omega arith) in
      let inner = (sheet_table sheet n).3 in (
        λ e. let q = outer.0 e in let r = inner.0 q.1 in (q.0, r.0, r.1, r.2),
        λ q. outer.1 (q.0, inner.1 (q.1, q.2, q.3)),
      )
