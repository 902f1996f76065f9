-- What a table of a TOML document holds: TOML 1.0, Keys, Table and Array of Tables.
use Rattle.std.specs.Prelude.{ℕ, Bool, true, false, ◌&&◌, List, [], ◌∷◌, Option, Some, None, option_and_then, is_some}
use Rattle.toml.specs.Data.{Data, array, table, Items, no_items, item, Members, no_members, member, get_member, as_str}
use Rattle.toml.specs.Text.{are_tables}

-- the text at a key, if a text is there
abbrev pub text_at : List ℕ → Members → Option (List ℕ)
text_at key ms = option_and_then as_str (get_member key ms)

-- something is at the key
abbrev pub has_key : List ℕ → Members → Bool
has_key key ms = is_some (get_member key ms)

-- each key passes the test
abbrev pub keys_pass : (List ℕ → Bool) → Members → Bool
keys_pass test no_members = true
keys_pass test (member key d ms) = test key && keys_pass test ms

-- nothing, or an array of tables alone
abbrev pub is_tables : Option Data → Bool
is_tables None = true
is_tables (Some (array ds)) = are_tables ds
is_tables _ = false

-- the tables of an array
abbrev pub tables_in : Items → List Members
tables_in no_items = []
tables_in (item (table ms) ds) = ms ∷ tables_in ds
tables_in (item _ ds) = tables_in ds

abbrev pub tables_of : Option Data → List Members
tables_of (Some (array ds)) = tables_in ds
tables_of _ = []
