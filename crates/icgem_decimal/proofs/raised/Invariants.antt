-- Each turn makes it ten times as much.
use Rattle.std.proofs.Common.{◌≡◌, ◌<◌, ◌*◌, ◌^◌}
use Rattle.icgem_decimal.proofs.raised.Given as goal

abbrev pub invariant-loop : goal.invariant-loop
invariant-loop l = record {
  fits : l.product < 2 ^ 64;
  raised : l.product ≡ l.n * 10 ^ l.counter;
}
