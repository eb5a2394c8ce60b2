-- Each test is the definition's, of what the machine reads back of the field.
use mathlib.Core.Path.{◌≡◌, refl, ap, ◌∙◌}
use mathlib.Core.Bool.{Bool}
use lib.IntN.{ℤ}
use mir.Syntax.{w32}
use mir.Val.{SFits, to_z, of_z}
use mir.Facts.{to_z-of_z}
use Rattle.doodson.specs.Doodson.{first, other, writable}
use Rattle.doodson.proofs.Digits.{Held}
use Rattle.std.proofs.Common.{rules}
use Rattle.doodson.proofs.is_writable.Goals as goal
use Rattle.doodson.proofs.is_writable.Goals.{Start}

held : (c : Start) → Held c.args.n
held c = search rules

told : (test : ℤ → Bool) {z : ℤ} (r : Bool) → SFits w32 z → r ≡ test (to_z w32 (of_z w32 z)) → r ≡ test z
told test r f e = e ∙ ap test (to_z-of_z f)

pub returns : goal.returns
unfolding writable
returns c =
    let f = held (goal.at.returns c).Start in
    rw (told first _ f.tau c.has_first_digit.ensures, told other _ f.s c.has_digit.ensures, told other _ f.h c.has_digit-2.ensures, told other _ f.p c.has_digit-3.ensures, told other _ f.np c.has_digit-4.ensures, told other _ f.ps c.has_digit-5.ensures)
    refl
