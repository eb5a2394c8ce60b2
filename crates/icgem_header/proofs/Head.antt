-- The header of a file, from its head's entries.
use mathlib.Core.Path.{◌≡◌, refl, sym, ap, ◌∙◌}
use mathlib.Core.Bool.{true, false, ◌&&◌}
use mathlib.Core.List.{List}
use Prim.Native.Nat.{ℕ}
use lib.IntN.{nat_abs}
use Rattle.std.specs.Prelude.{Option}
use Rattle.choices.specs.declared.PermanentSystem.{PermanentSystem}
use Rattle.icgem_decimal.specs.Decimal.{is_whole, in_units}
use Rattle.icgem_names.specs.Names as names
use Rattle.icgem_words.specs.Words.{worded}
use Rattle.icgem_file.specs.File.{system_said}
use Rattle.icgem_file.specs.Header.{Line, has, once, entry, constant_name, head_of, entries_of, head_formed, constant_of, radius_of}
use Rattle.icgem_header.specs.declared.Cut.{Cut}
use Rattle.icgem_header.specs.declared.Numbers.{Numbers}
use Rattle.icgem_header.specs.declared.Header.{Header}
use Rattle.icgem_header.specs.Inner.{CutAt, NumbersIn, words_fit, numbers_fit}
use Rattle.icgem_header.specs.Read.{tells_system, HeaderIs}
use Rattle.icgem_header.proofs.Known.{all_fit}

pub endless : (text : List ℕ) → has names.end_of_head (worded text) ≡ false → head_formed (worded text) ≡ false
unfolding head_formed
endless text e = rw e

module _ {text : List ℕ} {cut : Cut} (c : CutAt names.end_of_head text cut) where
  pub begun_twice : once names.begin_of_head (worded cut.before.now) ≡ false → head_formed (worded text) ≡ false
  unfolding head_formed
  begun_twice o = rw (c.has_is, c.before_is, o)

  module _ (entries : List ℕ) (o : once names.begin_of_head (worded cut.before.now) ≡ true) (e : worded entries ≡ entries_of (worded cut.before.now)) where
    pub entries_are : worded entries ≡ entries_of (head_of (worded text))
    entries_are = e ∙ ap entries_of (sym c.before_is)

    pub formed_is : head_formed (worded text) ≡ (words_fit (worded entries) && numbers_fit (worded entries))
    unfolding head_formed
    formed_is = rw (all_fit (worded entries), entries_are, c.has_is, c.before_is, o) refl

    module _ (w : words_fit (worded entries) ≡ true) {numbers : Numbers} (n : NumbersIn entries numbers) {system : Option PermanentSystem}
        (s : tells_system system ≡ system_said (entry names.tide_system (worded entries))) where
      pub header_is : (header : Header) → header.data.now ≡ cut.after.now → header.degree.now ≡ numbers.degree.now → header.constant ≡ numbers.constant
          → header.radius ≡ numbers.radius → header.system ≡ system → HeaderIs text header
      unfolding constant_of radius_of
      header_is header d g k r y = record {
        formed = rw (formed_is, w, n.fit) refl;
        data_last = rw d c.after_last;
        data_is = c.after_is ∙ ap worded (sym d);
        degree_is = g ∙ n.degree_is ∙ ap (entry names.max_degree) entries_are;
        degree_whole = sym (ap (λ (x : List Line). is_whole (entry names.max_degree x)) entries_are) ∙ n.degree_whole;
        constant_is = k ∙ n.constant_is ∙ ap (λ (x : List Line). nat_abs (in_units 0 (entry (constant_name x) x))) entries_are;
        radius_is = r ∙ n.radius_is ∙ ap (λ (x : List Line). nat_abs (in_units 3 (entry names.radius x))) entries_are;
        system_is = ap tells_system y ∙ s ∙ ap (λ (x : List Line). system_said (entry names.tide_system x)) entries_are;
      }
