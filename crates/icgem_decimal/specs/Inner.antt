-- What the functions that take a word apart and read its digits say to one another.
use Rattle.std.specs.Prelude.{ℕ, suc, ◌+◌, ◌-◌, ◌*◌, ◌/◌, ◌^◌, ◌≡◌, ◌<◌, Bool, cond, List, [], ◌++◌, length, take, drop, replicate, nat_le, slice_index_or, Option, MatchOption}
use denote.Ref.{Bor}
use Rattle.icgem_words.specs.Inner.{RunTo}
use Rattle.icgem_words.specs.Words.{pieces}
use Rattle.icgem_decimal.specs.Decimal.{value_of}

-- ---- Numbers
-- n / d, rounded, a half up
abbrev pub rounded : ℕ → ℕ → ℕ
rounded n d = (n + d / 2) / d

-- what the first digit after a cut adds
abbrev pub half : ℕ → ℕ
half b = cond (nat_le 53 b) 1 0

-- ---- Parts of a word
abbrev pub before : (ℕ → Bool) → List ℕ → List ℕ
before parts text = slice_index_or (pieces parts text) 0 []

-- all that stands after the first byte that parts the text
abbrev pub after : (ℕ → Bool) → List ℕ → List ℕ
after parts text = drop (suc (length (before parts text))) text

-- the parts of a text that no byte but the first that parts it stands between, by the answers of a test
pub record Parted (parts : ℕ → Bool → Type 0) (text head : List ℕ) (rest : Option (Bor (List ℕ))) : Type 0 where
  pub run : RunTo parts text 0 (length head)
  pub head_is : head ≡ take (length head) text
  pub rest_is : MatchOption rest (length head ≡ length text) (λ r. (length head < length text) × (r.now ≡ drop (suc (length head)) text))

-- digits before and after the dot, in units of 10^-places, with an exponent of a sign and a size
abbrev pub in_places : ℕ → List ℕ → List ℕ → Bool → ℕ → ℕ
in_places places a b negative size =
    rounded (value_of (a ++ b) * 10 ^ (places + cond negative 0 size)) (10 ^ (length b + cond negative size 0))

-- ---- Numbers compared
-- n digits, zeros standing before the text's
abbrev pub padded : ℕ → List ℕ → List ℕ
padded n text = replicate (n - length text) 48 ++ text
