-- Reversed amplitudes, coefficients and offsets reverse every correction.
use Rattle.reversal.specs.Reversal.{Reversal}
use Rattle.reversal.proofs.Lines as lines
use Rattle.reversal.proofs.Pole as pole
use Rattle.reversal.proofs.Sheets as sheets
use Rattle.reversal.proofs.There.{sheet_there}

pub reversal : Reversal
reversal = record {
  any_lines = lines.any_lines;
  printed_lines = lines.printed_lines;
  own-lines = λ n c s l phases. lines.own-lines l n c s phases;
  pole-tide = λ n c s xp yp love. pole.pole-tide xp yp n c s love;
  ocean-tide = λ n c s sheet reversed phases frame r. sheets.ocean-tide r n c s phases frame;
  sheet_there = sheet_there;
  sheet_refused = λ sheet reversed n r. sheets.sheet_refused r n;
}
