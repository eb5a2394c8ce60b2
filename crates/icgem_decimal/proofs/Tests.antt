-- Tests, by cases.
use Rattle.std.proofs.Common.{◌≡◌, Bool, true, false, ◌&&◌, refl}

pub either : {P : Type 0} (r : Bool) → (r ≡ true → P) → (r ≡ false → P) → P
either true f g = f refl
either false f g = g refl

pub not_so : (r : Bool) → (r ≡ true → ⊥) → r ≡ false
not_so true h = absurd (h refl)
not_so false h = refl

pub and_false : (r : Bool) → (r && false) ≡ false
and_false true = refl
and_false false = refl
