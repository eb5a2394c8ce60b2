-- Each line's key compared with those after it, to whole eights, is each line compared with each other: twins stand in one order or the other, lines of one
-- key are twins, and what stands after the last key is no line's.
use mathlib.Core.Bool.{Bool, true, false, false≢true, not, ◌&&◌, ◌||◌}
use mathlib.Core.List.{List}
use mathlib.Core.Path.{◌≡◌, refl, sym, subst, ◌∙◌}
use Prim.Native.Nat.{ℕ, ◌+◌, ◌-◌, ◌*◌, ◌/◌, ◌≤◌, ◌<◌}
use native.Mathlib.Nat.{div-mul-le_self, lt-div-mul-add}
use native.Mathlib.Omega.{arith}
use borrow.Author.Tests.{ltb-true, ltb-false, eqb-true, eq-eqb}
use lib.Dec.{ltb, eqb}
use lib.IntN.{nat_abs}
use lib.ListN.{get_or}
use Rattle.whole.specs.Sum.{all_to}
use Rattle.whole.proofs.Counted.{all_at, all_of}
use Rattle.sheet.specs.Sheet.{line_count, multiplier}
use Rattle.sheet.specs.Accepted.{line_valid, twins, untwinned}
use Rattle.sheet.proofs.Acceptance.{same_test, line_small}
use Rattle.sheet.proofs.Twins.{twins_each, each_twins}
use Rattle.sheet_twins.specs.Inner.{key, Keyed, none_after}
use Rattle.sheet_twins.proofs.Keys.{written_small, written_one, written_same}

-- the lines after line f of n, to whole eights
abbrev pub eights : ℕ → ℕ → ℕ
eights n f = (n - f + 6) / 8 * 8

pub eights_most : (n f : ℕ) → f < n → n ≤ 128 → f + 1 + eights n f ≤ 136
eights_most n f h g = omega (arith, div-mul-le_self (n - f + 6) 8)

eights_reach : (n f e : ℕ) → f < e → e < n → e - f - 1 < eights n f
eights_reach n f e h g = omega (arith, lt-div-mul-add {a = n - f + 6} {b = 8} (omega arith))

-- ---- tests
-- found before, or found now
pub neither : (a b : Bool) → not (a || b) ≡ (not a && not b)
neither true b = refl
neither false b = refl

refuted : (b : Bool) → (b ≡ true → ⊥) → not b ≡ true
refuted true h = absurd (h refl)
refuted false h = refl

against : (b : Bool) → not b ≡ true → b ≡ true → ⊥
against true e h = false≢true e
against false e h = false≢true h

unless : (a b : Bool) → (b ≡ true → a ≡ true) → (a || not b) ≡ true
unless true b h = refl
unless false true h = absurd (false≢true (h refl))
unless false false h = refl

unless_not : (a b : Bool) → (a || not b) ≡ true → b ≡ true → a ≡ true
unless_not true b e h = refl
unless_not false b e h = absurd (against b e h)

-- one of two numbers is less, or they are one
in_order : {X : Type 0} (e f : ℕ) → (e < f → X) → (f < e → X) → (e ≡ f → X) → X
in_order {X} e f below above one = by (ltb e f) refl (ltb f e) refl
  where
    by : (a : Bool) → ltb e f ≡ a → (b : Bool) → ltb f e ≡ b → X
    by true p b q = below (ltb-true e f p)
    by false p true q = above (ltb-true f e q)
    by false p false q = one (omega (arith, ltb-false e f p, ltb-false f e q))

-- ---- pairs
module _ (s keys : List ℕ) (few : line_count s ≤ 128) (valid : all_to (line_valid s) (line_count s) ≡ true) (K : Keyed s (line_count s) keys) where
  abbrev n : ℕ
  n = line_count s

  abbrev at : ℕ → ℕ
  at f = get_or keys f 0

  abbrev other : ℕ → ℕ → Bool
  other f j = not (eqb (at (f + 1 + j)) (at f))

  abbrev apart : ℕ → ℕ → Bool
  apart e f = eqb e f || not (twins s e f)

  small : (f : ℕ) → f < n → (i : ℕ) → i < 6 → nat_abs (multiplier s f i) ≤ 13
  small f h = line_small s f (all_at (line_valid s) n valid f h)

  one_key : (e f : ℕ) → e < n → f < n → twins s e f ≡ true → at e ≡ at f
  unfolding key
  one_key e f h g t = K.line e h ∙ written_same (multiplier s e) (multiplier s f) 6 (twins_each s e f t) ∙ sym (K.line f g)

  one_line : (e f : ℕ) → e < n → f < n → at e ≡ at f → twins s e f ≡ true
  unfolding key
  one_line e f h g q = each_twins s e f (written_one (multiplier s e) (multiplier s f) 6 (small e h) (small f g) (sym (K.line e h) ∙ q ∙ K.line f g))

  -- where each key is none of those after it, two lines with one key are one line
  module _ (all : all_to (λ f. all_to (other f) (eights n f)) n ≡ true) where
    differ : (f e : ℕ) → f < e → e < n → at e ≡ at f → ⊥
    differ f e h g q =
        let i : f + 1 + (e - f - 1) ≡ e = omega arith in
        let none = all_at (other f) (eights n f) (all_at (λ j. all_to (other j) (eights n j)) n all f (omega arith)) (e - f - 1) (eights_reach n f e h g) in
        against (eqb (at e) (at f)) (subst (λ (k : ℕ). not (eqb (at k) (at f)) ≡ true) i none) (eq-eqb (at e) (at f) q)

    pairs : untwinned s ≡ true
    unfolding untwinned
    pairs = all_of (λ e. all_to (apart e) n) n (λ e h. all_of (apart e) n (λ f g. unless (eqb e f) (twins s e f) (λ t.
        let k = one_key e f h g t in
        in_order e f (λ l. absurd (differ e f l g (sym k))) (λ l. absurd (differ f e l h k)) (eq-eqb e f))))

  -- where no two lines are twins, a key after another is not that one, be it a line's or none's
  module _ (all : untwinned s ≡ true) where
    not_one : (f j : ℕ) → f < n → j < eights n f → at (f + 1 + j) ≡ at f → ⊥
    unfolding untwinned key
    not_one f j h g q = by (ltb (f + 1 + j) n) refl
      where
        by : (b : Bool) → ltb (f + 1 + j) n ≡ b → ⊥
        by true t =
            let l = ltb-true (f + 1 + j) n t in
            let one = unless_not (eqb f (f + 1 + j)) (twins s f (f + 1 + j)) (all_at (apart f) n (all_at (λ e. all_to (apart e) n) n all f h) (f + 1 + j) l) (one_line f (f + 1 + j) h l (sym q)) in
            omega (arith, eqb-true f (f + 1 + j) one)
        by false t =
            let none = K.after (f + 1 + j) (ltb-false (f + 1 + j) n t) (omega (arith, eights_most n f h few)) in
            omega (arith, written_small (multiplier s f) 6 (small f h), K.line f h, none, q)

    later : all_to (λ f. all_to (other f) (eights n f)) n ≡ true
    later = all_of (λ f. all_to (other f) (eights n f)) n (λ f h. all_of (other f) (eights n f) (λ j g. refuted (eqb (at (f + 1 + j)) (at f)) (λ q. not_one f j h g (eqb-true (at (f + 1 + j)) (at f) q))))

  pub compared : (lines f : ℕ) → lines ≡ n → f ≡ n → all_to (λ j. none_after keys j (eights lines j)) f ≡ untwinned s
  unfolding none_after
  compared lines f e g = rw (e, g) (same_test (all_to (λ j. all_to (other j) (eights n j)) n) (untwinned s) pairs later)
