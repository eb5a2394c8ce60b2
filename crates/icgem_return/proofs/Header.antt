-- What the header's nine lines say, in front of any data.
use mathlib.Core.Path.{◌≡◌, refl, ap}
use mathlib.Core.Bool.{true}
use mathlib.Core.List.{List, ◌++◌}
use Prim.Native.Nat.{ℕ, ◌^◌, ◌<◌}
use native.Mathlib.Omega.{arith}
use borrow.Author.Tests.{le-leb}
use lib.IntN.{pos, nat_abs}
use Rattle.choices.specs.declared.PermanentSystem.{PermanentSystem}
use Rattle.choices.specs.declared.PermanentSystem.TheVariants.{TideFree, Zero, Mean}
use Rattle.icgem_file.specs.File.{system_said}
use Rattle.icgem_file.specs.Header.{Word, Line, has, before, after, first, entries_of, kept, constant_name, constant_kept, is_constant, all_kept, all_there, all_taken}
use Rattle.icgem_file.specs.Header.{head_formed, data_of, degree_of, constant_of, radius_of, system_word}
use Rattle.icgem_names.specs.Names.{system_name}
use Rattle.icgem_words.specs.Words.{same_word}
use Rattle.refusals.specs.Told.Told.{accepted}
use Rattle.text.specs.Text.{ascii, decimal, fixed_point}
use Rattle.icgem_return.proofs.Decimals.{Said, decimal_said, metres_said}
use Rattle.icgem_return.proofs.Numbers.{decimal_writes, decimal_some, some_whole}
use Rattle.icgem_return.proofs.Texts.{head_lines}

constant_taken : (places : ℕ) (word : Word) (n : ℕ) → Said places word (pos n) → n < 2 ^ 64 → is_constant places word ≡ true
unfolding is_constant
constant_taken places word n s h = rw (s.taken, s.units, le-leb n 18446744073709551615 (omega arith))

-- what is read of a file: its header's values, and the lines after it
pub record Says (file : List Line) (n constant radius : ℕ) (system : PermanentSystem) (rest : List Line) : Type 0 where
  pub formed : head_formed file ≡ true
  pub degree_is : degree_of file ≡ n
  pub constant_is : constant_of file ≡ constant
  pub radius_is : radius_of file ≡ radius
  pub system_is : system_word file ≡ system_name system
  pub data_is : data_of file ≡ rest

-- the keywords and the other values are given, so that they are looked at
pub head_says : (n constant radius : ℕ) (system : PermanentSystem) (rest : List Line) → constant < 2 ^ 64 → radius < 2 ^ 64
    → Says (head_lines n constant radius system ++ rest) n constant radius system rest
unfolding head_lines head_formed all_kept constant_kept kept constant_name all_there all_taken degree_of constant_of radius_of entries_of has before after first same_word ascii
head_says n constant radius system rest k l = record {
  formed = rw (
    some_whole (decimal n) (decimal_writes n).digits (decimal_some n),
    constant_taken 0 (decimal constant) constant (decimal_said constant) k,
    constant_taken 3 (fixed_point 3 radius) radius (metres_said radius) l,
  );
  degree_is = (decimal_writes n).value;
  constant_is = ap nat_abs (decimal_said constant).units;
  radius_is = ap nat_abs (metres_said radius).units;
  system_is = refl;
  data_is = refl;
}

pub system-said : (system : PermanentSystem) → system_said (system_name system) ≡ accepted system
unfolding system_said system_name same_word ascii
system-said TideFree = refl
system-said Zero = refl
system-said Mean = refl
