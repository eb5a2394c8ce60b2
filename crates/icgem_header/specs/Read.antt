-- What the reader of a header answers.
use Rattle.std.specs.Prelude.{◌≡◌, true, false, List, ℕ, ◌-◌, length, drop, Option, Some, None, Result, MatchResult}
use Rattle.choices.specs.declared.PermanentSystem.{PermanentSystem}
use Rattle.refusals.specs.Told.{Told}
use Rattle.refusals.specs.Told.Told.{accepted, refused}
use Rattle.icgem_decimal.specs.Decimal.{is_whole}
use Rattle.icgem_words.specs.Words.{worded}
use Rattle.icgem_file.specs.File.{system_said}
use Rattle.icgem_file.specs.Header.{head_formed, data_of, degree_word, constant_of, radius_of, system_word}
use Rattle.icgem_header.specs.declared.Malformed.{Malformed}
use Rattle.icgem_header.specs.declared.Header.{Header}

abbrev pub tells_system : Option PermanentSystem → Told PermanentSystem
tells_system (Some system) = accepted system
tells_system None = refused 20

-- a header that is as it should be: the data, which are the text's end, the degree's word, and what the entries say
pub record HeaderIs (text : List ℕ) (header : Header) : Type 0 where
  pub formed : head_formed (worded text) ≡ true
  pub data_last : header.data.now ≡ drop (length text - length header.data.now) text
  pub data_is : data_of (worded text) ≡ worded header.data.now
  pub degree_is : header.degree.now ≡ degree_word (worded text)
  pub degree_whole : is_whole (degree_word (worded text)) ≡ true
  pub constant_is : header.constant ≡ constant_of (worded text)
  pub radius_is : header.radius ≡ radius_of (worded text)
  pub system_is : tells_system header.system ≡ system_said (system_word (worded text))

abbrev pub HeaderRead : List ℕ → Result Header Malformed → Type 0
HeaderRead text result = MatchResult result (HeaderIs text) (λ malformed. head_formed (worded text) ≡ false)
