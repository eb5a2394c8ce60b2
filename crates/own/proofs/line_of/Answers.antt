-- An amplitude in range has room for a factor of 100.
use Rattle.std.proofs.Common.{rules}
use mathlib.Core.Path.{ap, ◌∙◌}
use mir.Syntax.{w32}
use Rattle.bands.proofs.Counts.{counts_fit, counts_read}
use Rattle.whole.proofs.Machine.{back}
use Rattle.own.specs.Own.{band_of, line_of}
use Rattle.own.proofs.Records.{ip_range, op_range}
use Rattle.own.proofs.line_of.Goals as goal

pub overflow_mul-ip : goal.overflow_mul-ip
overflow_mul-ip c = counts_fit c.args.line.ip (ip_range c.args.line c.requires)

pub overflow_mul-op : goal.overflow_mul-op
overflow_mul-op c = counts_fit c.args.line.op (op_range c.args.line c.requires)

pub returns : goal.returns
unfolding line_of
returns c =
    let l = c.args.line in
    λ i. record {
      band = (c.band_of.ensures ∙ ap band_of (back w32 l.multipliers.tau (search rules))) i;
      ip = counts_read l.ip (ip_range l c.requires) i;
      op = counts_read l.op (op_range l c.requires) i;
    }
