-- The sign before a number, by the first byte.
use Rattle.std.proofs.Common.{◌≡◌, ◌≤◌, ◌<◌, ℕ, suc, ◌-◌, Bool, true, false, ◌||◌, eqb, List, [], ◌∷◌, length, get_or, take, drop, Option, Some, None, refl, ap, ◌∙◌, arith, take_all}
use Rattle.std.proofs.lemmas.Option.{same_Some}
use Rattle.std.specs.Option.{option_eq, option_copied}
use Rattle.std.specs.List.{slice_get}
use denote.Ref.{Bor}
use Rattle.icgem_decimal.specs.Decimal.{is_minus, unsigned}

pub minus_first : (text : List ℕ) (first : Option (Bor ℕ)) (r : Bool) {b : Bor ℕ} (eq : Bor ℕ → Bor ℕ → Bool) → option_copied first ≡ slice_get text 0
    → r ≡ option_eq eq first (Some b) → ((x : Bor ℕ) → eq x b ≡ eqb x.now 45) → r ≡ is_minus text
unfolding is_minus
minus_first [] None r eq e h s = h
minus_first [] (Some x) r eq e h s = absurd (cc)
minus_first (b ∷ text) None r eq e h s = absurd (cc)
minus_first (b ∷ text) (Some x) r eq e h s = h ∙ s x ∙ ap (λ (n : ℕ). eqb n 45) (same_Some _ _ e)

-- a text that starts with a byte, or with none
pub unsigned_none : (text : List ℕ) → length text < 1 → text ≡ unsigned text
unfolding unsigned
unsigned_none [] e = refl
unsigned_none (b ∷ text) e = absurd (omega arith)

pub unsigned_sign : (text : List ℕ) → 1 ≤ length text → (eqb (get_or text 0 0) 43 || eqb (get_or text 0 0) 45) ≡ true → take (length text - 1) (drop 1 text) ≡ unsigned text
unfolding unsigned
unsigned_sign [] s e = absurd (omega arith)
unsigned_sign (b ∷ text) s e = rw e (take_all (suc (length text) - 1) text (omega arith))

pub unsigned_bare : (text : List ℕ) → (eqb (get_or text 0 0) 43 || eqb (get_or text 0 0) 45) ≡ false → text ≡ unsigned text
unfolding unsigned
unsigned_bare [] e = refl
unsigned_bare (b ∷ text) e = rw e
