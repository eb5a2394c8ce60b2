-- Each turn stores the key of one more line.
use Prim.Native.Nat.{◌<◌}
use native.Mathlib.Omega.{arith}
use Rattle.whole.proofs.Counted.{all_at}
use Rattle.sheet.specs.Sheet.{line_count}
use Rattle.sheet.specs.Accepted.{line_valid}
use Rattle.sheet_twins.proofs.Keys.{keyed_none}
use Rattle.sheet_twins.proofs.keys_of.Goals as goal

pub loop-f-init : goal.loop-f-init
loop-f-init c = keyed_none _

pub key_at-requires : goal.key_at-requires
key_at-requires c =
    let s = c.args.sheet.now in
    let h : c.loop-f.f < line_count s.bytes.now = omega (arith, s.laid.lines) in
    (h, all_at (line_valid s.bytes.now) (line_count s.bytes.now) c.requires.1 c.loop-f.f h)
