-- What a file's coefficient lines give, from the pass over them and the search for repeated places.
use mathlib.Core.Bool.{Bool, true, false}
use mathlib.Core.Path.{◌≡◌, refl, sym, ap, ◌∙◌}
use mathlib.Core.List.{List, map}
use Prim.Native.Nat.{ℕ, ◌≤◌, ◌<◌}
use native.Mathlib.Omega.{arith}
use lib.IntN.{ℤ}
use lib.ListN.{length, take, drop}
use lib.Seq.{length-take-le, get_or-take}
use Rattle.limits.specs.Limits.{is_degree}
use Rattle.std.specs.Prelude.{Option, Some, None}
use Rattle.icgem_data.specs.declared.Lines.{Lines}
use Rattle.icgem_data.specs.Inner.{LinesRead, LinesKept}
use Rattle.icgem_file.specs.Header.{Line}
use Rattle.icgem_file.specs.Data.{line_at, data_formed, repeated}
use Rattle.icgem_repeats.specs.Inner.{Lent}
use Rattle.icgem_words.specs.Words.{worded}
use Rattle.icgem_read.specs.Inner.{data_refusal, Filled}
use Rattle.icgem_read.proofs.Refusals.{data_malformed, data_twice, data_outside, data_fine}
use Rattle.icgem_read.proofs.Sound.{lines_sound}

module _ {text starts starts' : List ℕ} {from n : ℕ} {c s c' s' : List ℤ} {told : Option Lines} (read : LinesRead text from n starts c s told starts' c' s') where
  abbrev lines : List Line
  lines = worded (drop from text)

  pub unformed : told ≡ None → data_refusal n lines ≡ 17
  unformed e = data_malformed n lines (rw e at read.told)

  -- every line is formed
  module _ {kept_lines : Lines} (e : told ≡ Some kept_lines) where
    formed : data_formed n lines ≡ true
    formed = (rw e at read.told).0

    kept : LinesKept text lines kept_lines.inside kept_lines.count starts' c s c' s'
    kept = (rw e at read.told).1

    count_within : length text ≤ 131072 → 16384 ≤ length starts → kept_lines.count ≤ length starts'
    count_within h k = omega (arith, kept.few, read.starts_room)

    pub lent : {spare : List ℕ} → length text ≤ 131072 → 16384 ≤ length starts → length starts ≤ length spare → Lent text (take kept_lines.count starts') spare
    lent {spare} h k room =
        let long : length (take kept_lines.count starts') ≡ kept_lines.count = length-take-le kept_lines.count starts' (count_within h k) in
        lines_sound n text (take kept_lines.count starts') spare (ap (data_formed n) kept.lines_are ∙ formed)
        (λ j g. let b : j < kept_lines.count = omega (arith, long) in rw (get_or-take kept_lines.count starts' j 0 b) (kept.within j b))
        (omega (arith, long, count_within h k, read.starts_room))

    module _ {found : Bool} (search_is : found ≡ repeated (map (line_at text) (take kept_lines.count starts'))) where
      repeated_is : found ≡ repeated lines
      repeated_is = search_is ∙ ap repeated kept.lines_are

      pub twice : found ≡ true → data_refusal n lines ≡ 18
      twice f = data_twice n lines formed (sym repeated_is ∙ f)

      module _ (f : found ≡ false) where
        pub no_degree : is_degree n ≡ false → data_refusal n lines ≡ 19
        no_degree g = data_outside n lines formed (sym repeated_is ∙ f) (rw g refl)

        module _ (g : is_degree n ≡ true) where
          pub outside : kept_lines.inside ≡ false → data_refusal n lines ≡ 19
          outside k = data_outside n lines formed (sym repeated_is ∙ f) (rw (g, ← kept.inside_is, k) refl)

          pub fine : kept_lines.inside ≡ true → data_refusal n lines ≡ 0
          fine k = data_fine n lines formed (sym repeated_is ∙ f) (rw (g, ← kept.inside_is, k) refl)

    pub filled_by : kept_lines.inside ≡ true → Filled lines c s c' s'
    filled_by k = record { c_is = kept.c_is k; s_is = kept.s_is k }
