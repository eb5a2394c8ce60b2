-- One pass tests every place and its order after the last.
use Rattle.std.proofs.Common.{◌≡◌, ℕ, zero, suc, ◌+◌, ◌-◌, Bool, true, false, ◌&&◌, List, refl, add-one, arith, ne_eqb}
use Rattle.whole.specs.Sum.{all_to}
use Rattle.sheet.specs.Sheet.{place_count}
use Rattle.sheet.specs.Accepted.{precedes, ascending}
use Rattle.sheet_places.specs.Inner.{after_last}

four : (a b c d : Bool) → (a && b && (c && d)) ≡ (a && c && (b && d))
four true true c d = refl
four true false true d = refl
four true false false d = refl
four false b c d = refl

-- two tests of each are the tests of all by the one and by the other
pub all_both : (f g : ℕ → Bool) (n : ℕ) → all_to (λ i. f i && g i) n ≡ (all_to f n && all_to g n)
unfolding all_to
all_both f g zero = refl
all_both f g (suc n) = rw (all_both f g n) (four (all_to f n) (all_to g n) (f n) (g n))

-- each place after the one before it is each place before the one after it
onward : (s : List ℕ) (n : ℕ) → all_to (after_last s) n ≡ all_to (λ j. precedes s j (j + 1)) (n - 1)
unfolding all_to after_last
onward s zero = refl
onward s (suc zero) = refl
onward s (suc (suc m)) =
    let e : suc m - 1 ≡ m = omega arith in
    let e' : suc (suc m) - 1 ≡ suc m = omega arith in
    rw (onward s (suc m), e, e', ne_eqb (suc m) 0 (λ q. omega arith), add-one)

pub all_ascend : (s : List ℕ) → all_to (after_last s) (place_count s) ≡ ascending s
unfolding ascending
all_ascend s = onward s (place_count s)
