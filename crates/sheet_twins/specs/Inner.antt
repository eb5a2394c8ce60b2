-- Inner contracts, no words of 01 or 02: a line as one number, and numbers compared.
use Rattle.std.specs.Prelude.{Bool, not, List, ◌≡◌, ℕ, zero, suc, ◌+◌, ◌-◌, ◌*◌, ◌^◌, ◌≤◌, ◌<◌, eqb, ℤ, pos, nat_abs, ◌+ℤ◌, length, get_or}
use Rattle.whole.specs.Sum.{all_to}
use Rattle.sheet.specs.Sheet.{multiplier}

-- a multiplier in range, raised to 0..26
unfoldable pub digit : ℤ → ℕ
digit k = nat_abs (k +ℤ pos 13)

-- the number that n of them write in base 27
unfoldable pub written : (ℕ → ℤ) → ℕ → ℕ
written k zero = 0
written k (suc n) = 27 * written k n + digit (k n)

-- line f as one number
unfoldable pub key : List ℕ → ℕ → ℕ
key sheet f = written (multiplier sheet f) 6

-- no line's key
abbrev pub no_key : ℕ
no_key = 2 ^ 32 - 1

-- the keys of the first lines, as many as count, and no line's after them
pub record Keyed (sheet : List ℕ) (count : ℕ) (keys : List ℕ) : Type 0 where
  pub length : length keys ≡ 136
  pub line : (f : ℕ) → f < count → get_or keys f 0 ≡ key sheet f
  pub after : (f : ℕ) → count ≤ f → f < 136 → get_or keys f 0 ≡ no_key

-- number f is none of those after it, as many as count
unfoldable pub none_after : List ℕ → ℕ → ℕ → Bool
none_after keys f count = all_to (λ j. not (eqb (get_or keys (f + 1 + j) 0) (get_or keys f 0))) count
