-- Any two results that are allowed for one file and two lists are equal.
use mathlib.Core.Path.{◌≡◌, sym, ◌∙◌}
use mathlib.Core.List.{List}
use lib.IntN.{ℤ}
use Rattle.refusals.specs.Told.{Told}
use Rattle.icgem_file.specs.declared.FileHead.{FileHead}
use Rattle.icgem_file.specs.File.{FileRead}
use Rattle.icgem_read.specs.Told.{Reads}

pub one_read : (read : FileRead) (told told' : Told FileHead) (c c' s s' : List ℤ) → Reads read told c s → Reads read told' c' s' → (told ≡ told') × (c ≡ c') × (s ≡ s')
one_read read told told' c c' s s' p q = (p.answer ∙ sym q.answer, p.list_c ∙ sym q.list_c, p.list_s ∙ sym q.list_s)
