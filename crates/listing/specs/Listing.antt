-- Document 01, "Cases": the text that the program `steptwo` writes. A text is the list of its bytes.
use Rattle.std.specs.Prelude.{cond, List, [], ◌∷◌, ◌++◌, ◌≡◌, ℕ, eqb, ℤ, length, drop}
use Rattle.arguments.specs.declared.Phases.{Phases}
use Rattle.bands.specs.declared.Corrections.{Corrections}
use Rattle.choices.specs.declared.LoveModel.TheVariants.{Elastic, Anelastic}
use Rattle.profiles.specs.Profiles.{all_lines}
use Rattle.step_two.specs.StepTwo.{corrections}
use Rattle.text.specs.Text.{ascii, number}
use Rattle.words.specs.Words.{word_at}

-- "24 bytes, six little-endian phases", one after the other
unfoldable pub phases_of : List ℕ → Phases
phases_of bytes = record {
  tau = word_at bytes 0;
  s = word_at bytes 4;
  h = word_at bytes 8;
  p = word_at bytes 12;
  np = word_at bytes 16;
  ps = word_at bytes 20;
}

-- "counts per column": each after a space
unfoldable pub columns : List ℤ → List ℕ
columns [] = []
columns (count ∷ counts) = ascii " " ++ number count ++ columns counts

-- "Love model, then counts per column": C20, C21, S21, C22, S22, and a line feed
unfoldable pub model_text : List ℕ → Corrections → List ℕ
model_text model d = model ++ columns (d.c20 ∷ d.c21 ∷ d.s21 ∷ d.c22 ∷ d.s22 ∷ []) ++ ascii "\n"

-- "Zeros give the following whole output": a heading, and the text of each Love model; "`steptwo` keeps using all lines" (document 02, T-04)
unfoldable pub models_text : Phases → List ℕ
models_text phases =
    ascii "model C20 C21 S21 C22 S22\n"
    ++ model_text (ascii "elastic") (corrections phases Elastic all_lines)
    ++ model_text (ascii "anelastic") (corrections phases Anelastic all_lines)

-- what the program writes on an input; "Any other input length prints the single line `refused`."
unfoldable pub listing_of : List ℕ → List ℕ
listing_of input = cond (eqb (length input) 24) (models_text (phases_of input)) (ascii "refused\n")

-- a call has listed an input: it answers the length of the text, which stands at the buffer's start, every other byte being as before
pub record Listed (input before after : List ℕ) (count : ℕ) : Type 0 where
  pub count-is : count ≡ length (listing_of input)
  pub bytes_are : after ≡ listing_of input ++ drop (length (listing_of input)) before
