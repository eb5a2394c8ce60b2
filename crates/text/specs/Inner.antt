-- What the functions that put a text say of the buffer and of the page.
use Rattle.std.specs.Prelude.{List, ◌≡◌, ℕ, ◌+◌, ◌≤◌, length}
use Rattle.std.specs.Borrow.{MutBor}
use Rattle.std.proofs.lemmas.List.Edits.{sets}
use Rattle.text.specs.declared.Page.{Page}

-- a text was put into a buffer from a place on, byte after byte, every other byte being as before; the answer is the place after it
pub record Put (before : List ℕ) (at : ℕ) (text after : List ℕ) (next : ℕ) : Type 0 where
  pub next_is : next ≡ at + length text
  pub bytes_are : after ≡ sets before at text

-- a page that begins at a buffer's start
pub record IsStartOf (out : MutBor (List ℕ)) (page : Page) : Type 0 where
  pub same_buffer : page.out.ghost_name ≡ out.ghost_name
  pub bytes_are : page.out.now ≡ out.now
  pub at_start : page.at ≡ 0

-- a page has room for so many bytes more
abbrev pub HasRoom : Page → ℕ → Type 0
HasRoom page more = page.at + more ≤ length page.out.now

-- a text was put on a page, after what was put before
pub record Puts (before : Page) (text : List ℕ) (after : Page) : Type 0 where
  pub same_buffer : after.out.ghost_name ≡ before.out.ghost_name
  pub put : Put before.out.now before.at text after.out.now after.at
  pub same_room : length after.out.now ≡ length before.out.now
