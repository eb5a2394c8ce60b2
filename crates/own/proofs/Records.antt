-- A record in range, value by value; and its line's amplitudes.
use borrow.Author.Tests.{leb-true}
use mathlib.Core.Bool.{Bool, true, ◌&&◌}
use mathlib.Core.Path.{◌≡◌}
use Prim.Native.Nat.{◌≤◌}
use lib.IntN.{nat_abs}
use Rattle.bands.specs.Inner.{Light}
use Rattle.bands.proofs.Counts.{counts_size}
use Rattle.limits.specs.Limits.{is_first_multiplier, is_multiplier, is_amplitude}
use Rattle.whole.proofs.Tests.{and_left, and_right}
use Rattle.own.specs.declared.OwnLine.{OwnLine}
use Rattle.own.specs.Own.{line_of, in_range}

module _ (l : OwnLine) (e : in_range l ≡ true) where
  abbrev multipliers : Bool
  multipliers = is_first_multiplier l.multipliers.tau && is_multiplier l.multipliers.s && is_multiplier l.multipliers.h && is_multiplier l.multipliers.p && is_multiplier l.multipliers.np && is_multiplier l.multipliers.ps

  pub ip_range : nat_abs l.ip ≤ 100000
  unfolding in_range
  ip_range = leb-true _ _ (and_right multipliers (is_amplitude l.ip) (and_left (multipliers && is_amplitude l.ip) (is_amplitude l.op) e))

  pub op_range : nat_abs l.op ≤ 100000
  unfolding in_range
  op_range = leb-true _ _ (and_right (multipliers && is_amplitude l.ip) (is_amplitude l.op) e)

pub record_light : (l : OwnLine) → in_range l ≡ true → Light 10000000 (line_of l)
unfolding line_of
record_light l e = record { ip = counts_size l.ip 100000 (ip_range l e); op = counts_size l.op 100000 (op_range l e) }
