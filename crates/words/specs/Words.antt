-- Numbers of one, two and four bytes, little-endian; past the end every byte is 0.
use Rattle.std.specs.Prelude.{cond, List, ℕ, ◌+◌, ◌*◌, ltb, ℤ, pos, ◌-ℤ◌, get_or}

abbrev pub byte_at : List ℕ → ℕ → ℕ
byte_at s at = get_or s at 0

abbrev pub half_at : List ℕ → ℕ → ℕ
half_at s at = byte_at s at + 256 * byte_at s (at + 1)

abbrev pub word_at : List ℕ → ℕ → ℕ
word_at s at = byte_at s at + 256 * byte_at s (at + 1) + 65536 * byte_at s (at + 2) + 16777216 * byte_at s (at + 3)

-- a signed number, two's complement: v, or from half the range on v less the range
unfoldable pub twos_complement : ℕ → ℕ → ℤ
twos_complement half v = cond (ltb v half) (pos v) (pos v -ℤ pos (2 * half))
