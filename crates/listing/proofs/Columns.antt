-- Columns put one after the other.
use mathlib.Core.Path.{◌≡◌}
use mathlib.Core.List.{List, [], ◌∷◌, ◌++◌, append-nil, append_assoc}
use Prim.Native.Nat.{ℕ, ◌+◌, ◌*◌, ◌^◌, ◌≤◌, ◌<◌}
use native.Mathlib.Numerals.{add-one}
use native.Mathlib.Omega.{arith}
use lib.IntN.{ℤ, pos, nat_abs}
use lib.ListN.{length, get_or, take, length-append}
use lib.Seq.{take-suc}
use Rattle.text.specs.declared.Page.{Page}
use Rattle.text.specs.Inner.{Puts}
use Rattle.text.specs.Text.{ascii, number}
use Rattle.text.proofs.Numbers.{number_most}
use Rattle.text.proofs.Puts.{puts_none, puts_then}
use Rattle.listing.specs.Listing.{columns}

-- every count is a number of the machine
abbrev pub Machine : List ℤ → Type 0
Machine [] = Unit {0}
Machine (z ∷ l) = (nat_abs z ≤ 2 ^ 63) × Machine l

pub columns_most : (l : List ℤ) → Machine l → length (columns l) ≤ 21 * length l
unfolding ascii columns
columns_most [] h = omega arith
columns_most (z ∷ l) h = simp length-append (omega (arith, number_most z h.0, columns_most l h.1))

columns_then : (a : List ℤ) (z : ℤ) → columns (a ++ (z ∷ [])) ≡ columns a ++ (ascii " " ++ number z)
unfolding columns
columns_then [] z = simp append-nil
columns_then (x ∷ a) z = rw (columns_then a z) (simp append_assoc)

-- columns were put as far as the count i, each of them taking 21 bytes at most
pub record Upto (p : Page) (counts : List ℤ) (i : ℕ) (q : Page) : Type 0 where
  pub puts : Puts p (columns (take i counts)) q
  pub within : q.at ≤ p.at + 21 * i

pub upto_none : (p : Page) (counts : List ℤ) → Upto p counts 0 p
unfolding columns
upto_none p counts = record { puts = puts_none p; within = omega arith }

-- one column more
pub upto_next : {p q r t : Page} {i : ℕ} (counts : List ℤ) → Upto p counts i q → i < length counts → nat_abs (get_or counts i (pos 0)) ≤ 2 ^ 63
    → Puts q (32 ∷ []) r → Puts r (number (get_or counts i (pos 0))) t → Upto p counts (i + 1) t
unfolding ascii
upto_next {p} {q} {r} {t} {i} counts u h fits space count = record {
  puts = rw (add-one i, take-suc counts i (pos 0) h, columns_then (take i counts) (get_or counts i (pos 0))) (puts_then u.puts (puts_then space count));
  within = omega (arith, u.within, space.put.next_is, count.put.next_is, number_most (get_or counts i (pos 0)) fits);
}
