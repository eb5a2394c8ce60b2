-- Each case is computed.
use mathlib.Core.Path.{refl}
use lib.Ieee.{round}
use Rattle.count.specs.Count.{count}
use Rattle.doodson.specs.Doodson.{multipliers_in, number_of, writable, read_doodson, write_doodson}
use Rattle.permanent.specs.Systems.{permanent_part, above_tide_free, moved_c20}
use Rattle.wave.proofs.Cases.{p4}
use Rattle.whole.specs.Nearest.{nearest}
use Rattle.cases.proofs.Listing.{zeros_listed, worked}
use Rattle.cases.proofs.Ocean.{at_zero, at_an_eighth, lengths_are}
use Rattle.cases.specs.Cases.{Cases}

pub cases : Cases
unfolding read_doodson write_doodson writable number_of multipliers_in count nearest round moved_c20 above_tide_free permanent_part
cases = record {
  p1 = refl;
  p1_back = refl;
  p2 = refl;
  p3 = refl;
  p4 = p4;
  p5 = refl;
  p6_zero = refl;
  p6_mean = refl;
  p7 = zeros_listed;
  p8 = worked.quarter_turn;
  p9_zero = at_zero;
  p9_eighth = at_an_eighth;
  p9_lengths = lengths_are;
}
