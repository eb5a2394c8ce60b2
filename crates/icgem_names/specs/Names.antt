-- The words of a gravity field file as ICGEM publishes them (document 02, T-10).
use Rattle.std.specs.Prelude.{List, ℕ}
use Rattle.choices.specs.declared.PermanentSystem.{PermanentSystem}
use Rattle.choices.specs.declared.PermanentSystem.TheVariants.{TideFree, Zero, Mean}
use Rattle.text.specs.Text.{ascii}

-- the lines that open and close the header
abbrev pub begin_of_head : List ℕ
begin_of_head = ascii "begin_of_head"

abbrev pub end_of_head : List ℕ
end_of_head = ascii "end_of_head"

-- its entries
abbrev pub product_type : List ℕ
product_type = ascii "product_type"

abbrev pub model_name : List ℕ
model_name = ascii "modelname"

abbrev pub gravity_constant : List ℕ
gravity_constant = ascii "earth_gravity_constant"

-- "also seen as"
abbrev pub plain_constant : List ℕ
plain_constant = ascii "gravity_constant"

abbrev pub radius : List ℕ
radius = ascii "radius"

abbrev pub max_degree : List ℕ
max_degree = ascii "max_degree"

abbrev pub errors : List ℕ
errors = ascii "errors"

abbrev pub norm : List ℕ
norm = ascii "norm"

abbrev pub tide_system : List ℕ
tide_system = ascii "tide_system"

-- "one of tide_free, zero_tide, mean_tide"
unfoldable pub system_name : PermanentSystem → List ℕ
system_name TideFree = ascii "tide_free"
system_name Zero = ascii "zero_tide"
system_name Mean = ascii "mean_tide"

-- the product type and the norm that are read and written
abbrev pub gravity_field : List ℕ
gravity_field = ascii "gravity_field"

abbrev pub fully_normalized : List ℕ
fully_normalized = ascii "fully_normalized"

-- a line of coefficients
abbrev pub gfc : List ℕ
gfc = ascii "gfc"
