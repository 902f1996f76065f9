-- Tables of a document, by their keys and in their arrays.
use Rattle.std.proofs.Common.{◌≡◌, ◌∙◌, ℕ, Bool, true, false, ◌&&◌, List, [], ◌∷◌, length, map, String, Global}
use Rattle.std.proofs.Common.{string_bytes, suc, ap, refl}
use Rattle.std.specs.List.{list_all}
use Rattle.toml.specs.Data.{Items, no_items, item, table, Data, string, integer, float, boolean, datetime, array}
use Rattle.toml.specs.Text.{are_tables}
use Rattle.std.proofs.lemmas.List.{length-map}
use Rattle.toml.specs.View.{items_of, items_view, members_view, view}
use Rattle.toml.specs.declared.value.Value.{Value}
use Rattle.box_policy.specs.Tree.{keys_pass, tables_in}

-- the keys of a map, one by one
pub list_all-keys : (test : List ℕ → Bool) (entries : List (String Global × Value))
    → list_all (λ key. test (string_bytes key)) (map (λ e. e.0) entries) ≡ keys_pass test (members_view entries)
list_all-keys test [] = refl
list_all-keys test (e ∷ es) = ap (λ b. test (string_bytes e.0) && b) (list_all-keys test es)

length_tables : (ds : List Data) → are_tables (items_of ds) ≡ true → length (tables_in (items_of ds)) ≡ length ds
length_tables [] h = refl
length_tables (table ms ∷ ds) h = ap suc (length_tables ds h)
length_tables (string s ∷ ds) h = cc
length_tables (integer s ∷ ds) h = cc
length_tables (float s ∷ ds) h = cc
length_tables (boolean s ∷ ds) h = cc
length_tables (datetime s ∷ ds) h = cc
length_tables (array s ∷ ds) h = cc

-- an array of tables alone has as many tables as items
pub length-tables_in : (items : List Value) → are_tables (items_view items) ≡ true
    → length (tables_in (items_view items)) ≡ length items
length-tables_in items h = length_tables (map view items) h ∙ length-map items view
