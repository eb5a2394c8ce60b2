-- Each turn renews one line more, or leaves it.
use Rattle.wave.specs.Wave.{sin, cos}
use Rattle.hour.specs.Inner.{is_renewed}
use Rattle.hour.proofs.Kept.{Upto}
use Rattle.hour.proofs.renew_waves.Given as goal

abbrev pub invariant-loop-i : goal.invariant-loop-i
invariant-loop-i l =
    Upto (is_renewed l.having) cos l.phases l.initial.cosines l.cosines l.i × Upto (is_renewed l.having) sin l.phases l.initial.sines l.sines l.i
