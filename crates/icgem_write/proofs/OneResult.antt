-- Any two results that are allowed for one field and one output are equal, byte by byte.
use mathlib.Core.Path.{◌≡◌, sym, ◌∙◌}
use mathlib.Core.List.{List}
use Prim.Native.Nat.{ℕ}
use lib.IntN.{ℤ}
use Rattle.choices.specs.declared.PermanentSystem.{PermanentSystem}
use Rattle.refusals.specs.Told.{Told}
use Rattle.icgem_write.specs.Outcome.{Writes}

pub one_text : {n constant radius : ℕ} {c s : List ℤ} {system : PermanentSystem} {out : List ℕ} (told told' : Told ℕ) (after after' : List ℕ)
    → Writes n c s constant radius system out told after → Writes n c s constant radius system out told' after' → (told ≡ told') × (after ≡ after')
one_text {n} {constant} {radius} {c} {s} {system} {out} told told' after after' p q = (p.answer ∙ sym q.answer, p.bytes_are ∙ sym q.bytes_are)
