-- Inner contracts, no words of 01: where a sheet's sections stand.
use Rattle.std.specs.Prelude.{List, ◌≡◌, ℕ}
use Rattle.sheet.specs.declared.Layout.{Layout}
use Rattle.sheet.specs.Sheet.{line_count, tide_count, place_count, row_start, place_start, sheet_end}

-- the sheet's counts, where its first row and its first place stand, and where it ends
pub record Laid (s : List ℕ) (l : Layout) : Type 0 where
  pub lines : l.lines ≡ line_count s
  pub tides : l.tides ≡ tide_count s
  pub places : l.places ≡ place_count s
  pub rows : l.rows ≡ row_start s 0
  pub first : l.first ≡ place_start s 0
  pub end : l.end ≡ sheet_end s
