-- What the functions that put lines say of the buffer and of the page.
use Rattle.std.specs.Prelude.{true, List, ◌≡◌, ℕ, ◌+◌, ◌*◌, ◌≤◌, ℤ, length}
use Rattle.field.specs.Field.{size, every_in_range}
use Rattle.text.specs.declared.Page.{Page}
use Rattle.text.specs.Inner.{Put, Puts}

-- so many whole lines were put
pub record PutLines (count : ℕ) (before : List ℕ) (at : ℕ) (text after : List ℕ) (next : ℕ) : Type 0 where
  pub put : Put before at text after next
  pub next_at : next ≡ at + 54 * count
  pub same_room : length after ≡ length before

-- and on a page
pub record PutsLines (count : ℕ) (before : Page) (text : List ℕ) (after : Page) : Type 0 where
  pub puts : Puts before text after
  pub next_at : after.at ≡ before.at + 54 * count

-- a list that has the entries of every degree up to n, each in range
pub record Has (n : ℕ) (l : List ℤ) : Type 0 where
  pub long : size n ≤ length l
  pub range : every_in_range l ≡ true
