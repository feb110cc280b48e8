-- Lists in JSON: a list is read item by item, and all of its items have to be read; or it is a pair.
use Rattle.std.specs.Prelude.{List, [], ◌∷◌, Option, Some, None}
use Rattle.serde_json.specs.Data.{Data, null, boolean, number, string, array, object, Items, no_items, item}
use Rattle.serde_json.specs.Find.{as_array}
use Rattle.pc_work.specs.Reading.{◌>>=◌}

-- Each item as it is read, in order.
unfoldable pub items_by : {X : Type 0} → (Data → Option X) → Items → Option (List X)
items_by read no_items = Some []
items_by read (item value values) = do
  first ← read value
  others ← items_by read values
  Some (first ∷ others)

-- The value is a list, and this is each of its items as it is read.
abbrev pub list_by : {X : Type 0} → (Data → Option X) → Data → Option (List X)
list_by read null = None
list_by read (boolean b) = None
list_by read (number n) = None
list_by read (string s) = None
list_by read (array values) = items_by read values
list_by read (object fields) = None

-- The two items of a list that has exactly two.
abbrev pub two_of : Items → Option (Data × Data)
two_of no_items = None
two_of (item first no_items) = None
two_of (item first (item second no_items)) = Some (first, second)
two_of (item first (item second (item third others))) = None

-- The two items of a value that is a list of exactly two.
unfoldable pub pair_of : Data → Option (Data × Data)
pair_of value = as_array value >>= two_of
