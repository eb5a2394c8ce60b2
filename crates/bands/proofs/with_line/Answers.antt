-- Each band's terms are the definition's, and what a band does not name stays.
use mathlib.Core.Path.{◌≡◌, ◌∙◌}
use native.Mathlib.Omega.{arith}
use lib.IntN.{ℤ, pos, neg_ℤ, ◌-ℤ◌}
use mir.Syntax.{w64}
use Rattle.whole.proofs.Machine.{back, read as held}
use Rattle.bands.specs.declared.Sums.{Sums}
use Rattle.bands.proofs.Terms.{read, minus_read, minus_held, grown, diurnal, long-period, semidiurnal}
use Rattle.std.proofs.Common.{rules}
use Rattle.bands.proofs.with_line.Goals as goal
use Rattle.bands.proofs.with_line.Goals.{Start}

-- the numbers given, as the machine reads them
module _ (c : Start) where
  abbrev ip : ℤ
  ip = c.args.line.ip

  abbrev op : ℤ
  op = c.args.line.op

  abbrev sums : Sums
  sums = c.args.sums

  ip-read : held ip ≡ ip
  ip-read = read ip (omega (arith, c.requires.line_small.ip))

  op-read : held op ≡ op
  op-read = read op (omega (arith, c.requires.line_small.op))

  minus-ip-read : held (pos 0 -ℤ held ip) ≡ neg_ℤ ip
  minus-ip-read = minus_read ip c.requires.line_small.ip

  minus-op-read : held (pos 0 -ℤ held op) ≡ neg_ℤ op
  minus-op-read = minus_read op c.requires.line_small.op

  cosine-read : held c.args.cosine ≡ c.args.cosine
  cosine-read = read c.args.cosine (omega (arith, c.requires.cosine-small))

  sine-read : held c.args.sine ≡ c.args.sine
  sine-read = read c.args.sine (omega (arith, c.requires.sine-small))

pub plus_wave-requires-in-Diurnal : goal.plus_wave-requires-in-Diurnal
plus_wave-requires-in-Diurnal c = search (rules, minus_held)

pub plus_wave-requires-in-Semidiurnal-2 : goal.plus_wave-requires-in-Semidiurnal-2
plus_wave-requires-in-Semidiurnal-2 c = search (rules, minus_held)

pub returns-in-Diurnal : goal.returns-in-Diurnal
returns-in-Diurnal c =
    let p = c.requires in
    let s = (goal.at.returns-in-Diurnal c).Start in
    diurnal c.args.sums c.args.line c.args.cosine c.args.sine c.in-Diurnal.is
    (back w64 c.plus_wave.result c.plus_wave.type_inv ∙ grown (read c.args.sums.c21 p.sums_small.c21) (op-read s) (cosine-read s) (ip-read s) (sine-read s) c.plus_wave.ensures)
    (back w64 c.plus_wave-in-Diurnal.result c.plus_wave-in-Diurnal.type_inv ∙ grown (read c.args.sums.s21 p.sums_small.s21) (ip-read s) (cosine-read s) (minus-op-read s) (sine-read s) c.plus_wave-in-Diurnal.ensures)

pub returns-in-LongPeriod : goal.returns-in-LongPeriod
returns-in-LongPeriod c =
    let p = c.requires in
    let s = (goal.at.returns-in-LongPeriod c).Start in
    long-period c.args.sums c.args.line c.args.cosine c.args.sine c.in-LongPeriod.is
    (back w64 c.plus_wave-in-LongPeriod.result c.plus_wave-in-LongPeriod.type_inv ∙ grown (read c.args.sums.c20 p.sums_small.c20) (ip-read s) (cosine-read s) (minus-op-read s) (sine-read s) c.plus_wave-in-LongPeriod.ensures)

pub returns-in-Semidiurnal : goal.returns-in-Semidiurnal
returns-in-Semidiurnal c =
    let p = c.requires in
    let s = (goal.at.returns-in-Semidiurnal c).Start in
    semidiurnal c.args.sums c.args.line c.args.cosine c.args.sine c.in-Semidiurnal.is
    (back w64 c.plus_wave-in-Semidiurnal.result c.plus_wave-in-Semidiurnal.type_inv ∙ grown (read c.args.sums.c22 p.sums_small.c22) (ip-read s) (cosine-read s) (minus-op-read s) (sine-read s) c.plus_wave-in-Semidiurnal.ensures)
    (back w64 c.plus_wave-in-Semidiurnal-2.result c.plus_wave-in-Semidiurnal-2.type_inv ∙ grown (read c.args.sums.s22 p.sums_small.s22) (minus-op-read s) (cosine-read s) (minus-ip-read s) (sine-read s) c.plus_wave-in-Semidiurnal-2.ensures)
