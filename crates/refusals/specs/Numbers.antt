-- Document 01, "Refusal numbers"; 12 and 13 of 02, T-01, 14 of T-04, 15 of T-05, 16 of T-09, and 17 to 21 of T-10.
use Rattle.std.specs.Prelude.{ℕ, Result, Ok, Err}
use Rattle.refusals.specs.declared.Refusal.{Refusal}
use Rattle.refusals.specs.declared.Refusal.TheVariants.{FieldShape, FieldRange, NotFinite, BodyRange, NotUnit, StepOneRange, SheetLength, SheetValue, SheetDegree, NotDoodson, NoSuchLine, RecordCount, RecordValue, SelectionValue, PoleOffset, TwinLines, FileForm, TwinPlaces, FileRange, NoSuchSystem, ShortOutput}
use Rattle.refusals.specs.Told.{Told}
use Rattle.refusals.specs.Told.Told.{accepted, refused}

abbrev pub refusal_number : Refusal → ℕ
refusal_number FieldShape = 1
refusal_number FieldRange = 2
refusal_number NotFinite = 3
refusal_number BodyRange = 4
refusal_number NotUnit = 5
refusal_number StepOneRange = 6
refusal_number SheetLength = 7
refusal_number SheetValue = 8
refusal_number SheetDegree = 9
refusal_number NotDoodson = 10
refusal_number NoSuchLine = 11
refusal_number RecordCount = 12
refusal_number RecordValue = 13
refusal_number SelectionValue = 14
refusal_number PoleOffset = 15
refusal_number TwinLines = 16
refusal_number FileForm = 17
refusal_number TwinPlaces = 18
refusal_number FileRange = 19
refusal_number NoSuchSystem = 20
refusal_number ShortOutput = 21

-- 0 where a call is accepted
abbrev pub answer_number : Result Unit Refusal → ℕ
answer_number (Ok done) = 0
answer_number (Err r) = refusal_number r

-- what a call that answers a value tells
abbrev pub tells : {A : Type 0} → Result A Refusal → Told A
tells (Ok a) = accepted a
tells (Err r) = refused (refusal_number r)
