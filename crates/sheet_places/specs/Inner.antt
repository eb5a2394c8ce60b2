-- Words that stand one after another, what all their bits together tell of them, and places in one pass.
use Rattle.std.specs.Prelude.{◌≡◌, ℕ, ◌+◌, ◌-◌, ◌*◌, ◌^◌, ◌<◌, Bool, true, ◌||◌, List, ◌==◌}
use Rattle.limits.specs.Limits.{is_coefficient}
use Rattle.sheet.specs.Accepted.{precedes}
use Rattle.words.specs.Words.{word_at, twos_complement}

-- word i from a place on is a count in range
unfoldable pub valid_at : List ℕ → ℕ → ℕ → Bool
valid_at s at i = is_coefficient (twos_complement (2 ^ 31) (word_at s (at + 4 * i)))

-- where all their bits together are below 2^25, each word is
pub record Joined (s : List ℕ) (at count any : ℕ) : Type 0 where
  pub each : any < 2 ^ 25 → (i : ℕ) → i < count → valid_at s at i ≡ true

-- place j is the first, or comes after the place before it
unfoldable pub after_last : List ℕ → ℕ → Bool
after_last s j = j == 0 || precedes s (j - 1) j
