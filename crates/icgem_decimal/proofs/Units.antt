-- A decimal in units, from its parts.
use Rattle.std.proofs.Common.{◌≡◌, ℕ, suc, ◌+◌, ◌≤◌, true, ◌||◌, eqb, List, [], ◌∷◌, Some, length, nat_abs, sym, ap, ◌∙◌, subst, ap₂, arith, length-drop}
use Rattle.whole.specs.Nearest.{signed}
use Rattle.whole.proofs.Signed.{abs_signed, nearest_signed}
use Rattle.icgem_decimal.specs.Decimal.{is_letter, is_dot, is_minus, unsigned, mantissa, value_of, is_exponent, is_mantissa, exponent_up, exponent_down, in_units, Held, Taken}
use Rattle.icgem_decimal.specs.declared.Decimal.{Decimal}
use Rattle.icgem_decimal.specs.Inner.{before, after, in_places}
use Rattle.icgem_decimal.proofs.Pieces.{before_most}
use Rattle.icgem_decimal.proofs.Numbers.{ten_pos}
use Rattle.icgem_decimal.proofs.Tests.{either}
use Rattle.icgem_decimal.proofs.Words.{exponent_is, fraction_is}

unsigned_most : (text : List ℕ) → length (unsigned text) ≤ length text
unfolding unsigned
unsigned_most [] = omega arith
unsigned_most (b ∷ text) = either (eqb b 43 || eqb b 45) (λ e. rw e (omega arith)) (λ e. rw e (omega arith))

around_most : (text : List ℕ) → length (before is_dot text) + length (after is_dot text) ≤ length text
around_most text = omega (arith, before_most is_dot text, length-drop (suc (length (before is_dot text))) text)

-- a and b stand before and after the dot
pub record Parts (word a b : List ℕ) : Type 0 where
  pub before_is : a ≡ before is_dot (mantissa word)
  pub after_is : b ≡ after is_dot (mantissa word)

module _ {word a b : List ℕ} (p : Parts word a b) where
  pub parts_most : length a + length b ≤ length word
  parts_most =
      rw (p.before_is, p.after_is)
      (omega (arith, around_most (mantissa word), unsigned_most (before is_letter word), before_most is_letter word))

  -- a decimal's size is that of its parts
  module _ (places : ℕ) (E : is_exponent word ≡ true) (M : is_mantissa word ≡ true) where
    units_are : in_units places word ≡ signed (is_minus word) (in_places places a b (is_minus (after is_letter word)) (value_of (unsigned (after is_letter word))))
    unfolding in_units exponent_up exponent_down
    units_are = rw (p.before_is, p.after_is, fraction_is word M, exponent_is word E) (nearest_signed (is_minus word) _ _ (ten_pos _))

    pub taken : {d : Decimal} → d.negative ≡ is_minus word
        → Held d.size (in_places places a b (is_minus (after is_letter word)) (value_of (unsigned (after is_letter word)))) → Taken places word (Some d)
    taken {d} S h =
        (rw (E, M), (subst (Held d.size) (sym (ap nat_abs units_are ∙ abs_signed (is_minus word) _)) h, λ v e. units_are ∙ ap₂ signed (sym S) (sym (rw e at h).1)))
