-- The heading and the two lines, each put after the other, each end where the next begins.
use mathlib.Core.List.{List, ◌++◌, append_assoc}
use mathlib.Core.Path.{◌≡◌, sym, ap₂, ◌∙◌}
use Prim.Native.Nat.{ℕ}
use native.Mathlib.Omega.{arith}
use lib.ListN.{length-append}
use Rattle.arguments.specs.declared.Phases.{Phases}
use Rattle.bands.specs.declared.Corrections.{Corrections}
use Rattle.choices.specs.declared.LoveModel.{LoveModel}
use Rattle.choices.specs.declared.LoveModel.TheVariants.{Elastic, Anelastic}
use Rattle.profiles.specs.Profiles.{all_lines}
use Rattle.hour.specs.declared.Hour.{Hour}
use Rattle.hour.specs.Hour.{hour_at}
use Rattle.step_two.specs.StepTwo.{corrections, kept_corrections}
use Rattle.step_two.proofs.Kept.{set_corrections}
use Rattle.step_two.proofs.Sizes.{corrections_small}
use Rattle.text.specs.declared.Page.{Page}
use Rattle.text.specs.Inner.{HasRoom, Puts}
use Rattle.text.specs.Text.{ascii}
use Rattle.text.proofs.Puts.{puts_then}
use Rattle.listing.specs.Listing.{model_text, models_text}
use Rattle.listing.proofs.Lengths.{model_most}
use Rattle.listing.proofs.put_models.Goals as goal

module _ (phases : Phases) where
  abbrev heading : List ℕ
  heading = ascii "model C20 C21 S21 C22 S22\n"

  abbrev line : LoveModel → List ℕ → List ℕ
  line love model = model_text model (corrections phases love all_lines)

  -- what step two gives at the hour set, of all lines
  at_hour : {d : Corrections} {hour : Hour} {lines : ℕ} (love : LoveModel) → hour ≡ hour_at phases → lines ≡ all_lines → d ≡ kept_corrections hour love lines
      → d ≡ corrections phases love all_lines
  at_hour love h l e = e ∙ ap₂ (λ (h : Hour) (k : ℕ). kept_corrections h love k) h l ∙ set_corrections phases love all_lines

  -- a line more
  put_line : {p q r : Page} {t : List ℕ} {d : Corrections} {hour : Hour} {lines : ℕ} (love : LoveModel) (model : List ℕ) → Puts p t q → hour ≡ hour_at phases
      → lines ≡ all_lines → d ≡ kept_corrections hour love lines → Puts q (model_text model d) r → Puts p (t ++ line love model) r
  put_line love model f h ls e g = puts_then f (rw (at_hour love h ls e) at g)

  room : {p q : Page} → Puts p (heading ++ line Elastic (ascii "elastic")) q → HasRoom p 256 → HasRoom q 115
  unfolding ascii
  room f r =
      omega (arith, f.put.next_is, f.same_room, length-append heading (line Elastic (ascii "elastic")), model_most (ascii "elastic") (corrections_small phases Elastic all_lines), r)

  whole_text : {p q : Page} → Puts p ((heading ++ line Elastic (ascii "elastic")) ++ line Anelastic (ascii "anelastic")) q → Puts p (models_text phases) q
  unfolding ascii models_text
  whole_text f = rw (sym (append_assoc heading (line Elastic (ascii "elastic")) (line Anelastic (ascii "anelastic")))) f

pub put_model-requires-2 : goal.put_model-requires-2
unfolding ascii
put_model-requires-2 c =
    room c.args.phases (put_line c.args.phases Elastic (ascii "elastic") c.put_word.ensures c.set_to-hour.ensures c.all_lines-lines.ensures c.corrections_of.ensures.0 c.put_model.ensures)
    c.requires

pub returns : goal.returns
unfolding ascii
returns c =
    let first = put_line c.args.phases Elastic (ascii "elastic") c.put_word.ensures c.set_to-hour.ensures c.all_lines-lines.ensures c.corrections_of.ensures.0 c.put_model.ensures in
    whole_text c.args.phases
    (put_line c.args.phases Anelastic (ascii "anelastic") first c.set_to-hour.ensures c.all_lines-lines.ensures c.corrections_of-2.ensures.0 c.put_model-2.ensures)
