-- One flag takes every byte of the lines in turn, six to a line.
use mathlib.Core.Path.{◌≡◌}
use mathlib.Core.Bool.{Bool}
use mathlib.Core.List.{List}
use Prim.Native.Nat.{ℕ, ◌+◌, ◌^◌}
use Rattle.limits.specs.Limits.{is_multiplier}
use Rattle.words.specs.Words.{byte_at, twos_complement}
use Rattle.whole.specs.Sum.{all_to}
use Rattle.sheet_lines.proofs.are_lines.Given as goal

-- byte i of the lines is a multiplier in range
unfoldable pub byte_valid : List ℕ → ℕ → Bool
byte_valid s i = is_multiplier (twos_complement (2 ^ 7) (byte_at s (2 + i)))

abbrev pub invariant-loop-i : goal.invariant-loop-i
invariant-loop-i l = l.good ≡ all_to (byte_valid l.sheet.bytes.now) l.i
