-- The closed choices as numbers, as they cross from C.
use Rattle.std.specs.Prelude.{List, [], ◌∷◌, ℕ, zero, suc, Bool, true, false, ◌≡◌, Result, Ok, Err}
use Rattle.choices.specs.declared.Frame.{Frame}
use Rattle.choices.specs.declared.Frame.TheVariants.{CentreOfFigure, CentreOfMass}
use Rattle.choices.specs.declared.LoveModel.{LoveModel}
use Rattle.choices.specs.declared.LoveModel.TheVariants.{Elastic, Anelastic}
use Rattle.choices.specs.declared.NoSuchChoice.{NoSuchChoice}
use Rattle.choices.specs.declared.PermanentSystem.{PermanentSystem}
use Rattle.choices.specs.declared.PermanentSystem.TheVariants.{TideFree, Zero, Mean}
use Rattle.refusals.specs.Told.{Told}
use Rattle.refusals.specs.Told.Told.{accepted, refused}

-- a choice crosses as its place among the cases, from 0 on; a number that names no case is answered by 100
unfoldable pub chosen : {A : Type 0} → List A → ℕ → Told A
chosen [] number = refused 100
chosen (case ∷ cases) zero = accepted case
chosen (case ∷ cases) (suc number) = chosen cases number

-- what a conversion tells: the case, or that the number names none
abbrev pub told : {A : Type 0} → Result A NoSuchChoice → Told A
told (Ok a) = accepted a
told (Err e) = refused 100

-- a number names a case; and where it does, which one
abbrev pub names : {A : Type 0} → Told A → Bool
names (accepted a) = true
names (refused number) = false

abbrev pub Converts : {A : Type 0} → Told A → A → Type 0
Converts (accepted a) r = a ≡ r
Converts (refused number) r = Unit {0}

abbrev pub love_model : ℕ → Told LoveModel
love_model number = chosen (Elastic ∷ Anelastic ∷ []) number

abbrev pub frame_of : ℕ → Told Frame
frame_of number = chosen (CentreOfFigure ∷ CentreOfMass ∷ []) number

abbrev pub permanent_system : ℕ → Told PermanentSystem
permanent_system number = chosen (TideFree ∷ Zero ∷ Mean ∷ []) number

-- the number of a system that is answered
unfoldable pub system_number : PermanentSystem → ℕ
system_number TideFree = 0
system_number Zero = 1
system_number Mean = 2
