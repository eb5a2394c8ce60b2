-- The two halves of a body's terms, as two functions work them out: t of each, then P and Q.
use Rattle.std.specs.Prelude.{List, ℕ, Float, get_or}
use Rattle.doubles.specs.declared.Complex.{Complex}
use Rattle.powers.specs.Powers.{none}
use Rattle.constants.specs.declared.PerTerm.{PerTerm}
use Rattle.bodies.specs.declared.Direction.{Direction}
use Rattle.potential.specs.Potential.{t20, t21, t22, t30, t31, t32, t33, strength, times}

unfoldable pub strengths : Float → Direction → PerTerm Float → PerTerm Float
strengths ratio d n =
    record {
      t20 = strength n.t20 ratio d t20;
      t21 = strength n.t21 ratio d t21;
      t22 = strength n.t22 ratio d t22;
      t30 = strength n.t30 ratio d t30;
      t31 = strength n.t31 ratio d t31;
      t32 = strength n.t32 ratio d t32;
      t33 = strength n.t33 ratio d t33;
    }

abbrev pub raised : Float → List Complex → ℕ → Complex
raised t power m = times t (get_or power m none).re (get_or power m none).im

unfoldable pub paired : PerTerm Float → List Complex → PerTerm Complex
paired t power =
    record {
      t20 = raised t.t20 power 0;
      t21 = raised t.t21 power 1;
      t22 = raised t.t22 power 2;
      t30 = raised t.t30 power 0;
      t31 = raised t.t31 power 1;
      t32 = raised t.t32 power 2;
      t33 = raised t.t33 power 3;
    }
