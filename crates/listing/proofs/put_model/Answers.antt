-- The model's name, its five columns and a line feed are put one after the other.
use mathlib.Core.List.{List, [], ◌∷◌}
use Prim.Native.Nat.{◌^◌, ◌<◌, ◌≤◌}
use native.Mathlib.Omega.{arith}
use lib.IntN.{ℤ}
use lib.ListN.{length}
use lib.Signed.{mag, nat_abs-le}
use mir.Syntax.{w64}
use Rattle.bands.specs.declared.Corrections.{Corrections}
use Rattle.text.specs.declared.Page.{Page}
use Rattle.text.specs.Inner.{Puts}
use Rattle.text.specs.Text.{ascii}
use Rattle.text.proofs.Puts.{puts_then}
use Rattle.whole.proofs.Machine.{read, back}
use Rattle.listing.specs.Listing.{columns, model_text}
use Rattle.listing.proofs.Columns.{columns_most}
use Rattle.std.proofs.Common.{rules}
use Rattle.listing.proofs.put_model.Goals as goal

-- the machine holds five counts
record Held (d : Corrections) : Type 0 where
  c20 : mag d.c20 < 2 ^ 63
  c21 : mag d.c21 < 2 ^ 63
  s21 : mag d.s21 < 2 ^ 63
  c22 : mag d.c22 < 2 ^ 63
  s22 : mag d.s22 < 2 ^ 63

module _ (d : Corrections) (held : Held d) where
  abbrev counts : List ℤ
  counts = d.c20 ∷ d.c21 ∷ d.s21 ∷ d.c22 ∷ d.s22 ∷ []

  most : length (columns counts) ≤ 105
  most =
      columns_most counts (nat_abs-le d.c20 held.c20, (nat_abs-le d.c21 held.c21, (nat_abs-le d.s21 held.s21, (nat_abs-le d.c22 held.c22, (nat_abs-le d.s22 held.s22, tt)))))

  -- the five columns, of counts that come back from the machine as they are
  put_counts : {p q : Page} → Puts p (columns (read d.c20 ∷ read d.c21 ∷ read d.s21 ∷ read d.c22 ∷ read d.s22 ∷ [])) q → Puts p (columns counts) q
  put_counts f = rw (back w64 d.c20 held.c20, back w64 d.c21 held.c21, back w64 d.s21 held.s21, back w64 d.c22 held.c22, back w64 d.s22 held.s22) at f

pub put_byte-requires : goal.put_byte-requires
put_byte-requires c =
    let held : Held c.args.d = record { c20 = search rules; c21 = search rules; s21 = search rules; c22 = search rules; s22 = search rules } in
    let counts = put_counts c.args.d held c.put_columns.ensures in
    omega (arith, c.requires, c.put_word.ensures.put.next_is, c.put_word.ensures.same_room, counts.put.next_is, counts.same_room, most c.args.d held)

pub returns : goal.returns
unfolding ascii model_text
returns c =
    let held : Held c.args.d = record { c20 = search rules; c21 = search rules; s21 = search rules; c22 = search rules; s22 = search rules } in
    puts_then (puts_then c.put_word.ensures (put_counts c.args.d held c.put_columns.ensures)) c.put_byte.ensures
