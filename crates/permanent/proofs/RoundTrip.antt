-- A C20 moved to another system and back, under the same Love numbers and neither move being refused, is the same number.
use mathlib.Core.Path.{◌≡◌, sym, ap, ◌∙◌}
use mathlib.Core.Bool.{Bool, true, false, cond}
use mathlib.Core.List.{[], ◌∷◌}
use Prim.Native.Nat.{ℕ}
use native.Mathlib.Omega.{arith}
use lib.IntN.{ℤ, ◌+ℤ◌, ◌-ℤ◌}
use Rattle.choices.specs.declared.LoveModel.{LoveModel}
use Rattle.choices.specs.declared.PermanentSystem.{PermanentSystem}
use Rattle.refusals.specs.Told.Told.{accepted, refused}
use Rattle.limits.specs.Limits.{is_entry}
use Rattle.whole.proofs.Ring.{equal, !, ◌⊕◌, ◌⊖◌}
use Rattle.permanent.specs.Systems.{above_tide_free, moved_c20}

-- the value of an accepted move
value_of : (b : Bool) (n : ℕ) (x y : ℤ) → cond b (accepted x) (refused n) ≡ accepted y → x ≡ y
value_of true n x y e = cc
value_of false n x y e = cc

pub there_and_back : (c20 d e : ℤ) (from to : PermanentSystem) (love : LoveModel)
    → moved_c20 c20 from to love ≡ accepted d → moved_c20 d to from love ≡ accepted e → e ≡ c20
unfolding moved_c20
there_and_back c20 d e from to love there back =
    let f = above_tide_free from love in
    let t = above_tide_free to love in
    sym (value_of (is_entry d) 2 (d -ℤ t +ℤ f) e back)
    ∙ ap (λ (z : ℤ). z -ℤ t +ℤ f) (sym (value_of (is_entry c20) 2 (c20 -ℤ f +ℤ t) d there))
    ∙ equal (! 0 ⊖ ! 1 ⊕ ! 2 ⊖ ! 2 ⊕ ! 1) (! 0) (c20 ∷ f ∷ t ∷ []) (omega arith)
