-- What the calls that read a file answer.
use Rattle.std.specs.Prelude.{◌≡◌, List, ℤ}
use Rattle.refusals.specs.Told.{Told}
use Rattle.icgem_file.specs.declared.FileHead.{FileHead}
use Rattle.icgem_file.specs.File.{FileRead}

-- a call gives what a file read is: its answer, and both lists as it returns
pub record Reads (read : FileRead) (told : Told FileHead) (c s : List ℤ) : Type 0 where
  pub answer : told ≡ read.head
  pub list_c : c ≡ read.c
  pub list_s : s ≡ read.s
