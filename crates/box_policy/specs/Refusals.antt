-- Why a policy is refused: of all that is wrong, the first in this order.
use Rattle.std.specs.Prelude.{◌≡◌, ℕ, ◌+◌, ◌==◌, Bool, true, false, ◌&&◌, if◌then◌else◌, List, [], ◌∷◌, ◌++◌, length}
use Rattle.std.specs.Prelude.{Option, Some, None, is_some, unwrap_or, nat_le, codes, IsUtf8, ◌⊎◌}
use Rattle.std.specs.Fmt.{decimal}
use Rattle.toml.specs.Data.{Members, get_member}
use Rattle.toml.specs.Parse.{parse_document}
use Rattle.box_policy.specs.declared.error.PolicyError.{PolicyError}
use Rattle.box_policy.specs.declared.reading.Version.{Version}
use Rattle.box_policy.specs.declared.reading.Version.TheVariants.{One}
use Rattle.box_policy.specs.Tree.{text_at, keys_pass, is_tables, tables_of}
use Rattle.box_policy.specs.Words.{is_top_key, version_of, is_base, has_rule_keys, has_rule_values, kind_of, pattern_of}
use Rattle.box_policy.specs.Wellformed.{is_pattern_of}

-- the refusal of this code and rule, where the test fails
abbrev pub unless : Bool → ℕ → ℕ → Option PolicyError
unless true code rule = None
unless false code rule = Some (record { code = code; rule = rule })

-- the first of two, or none
abbrev pub first : Option PolicyError → Option PolicyError → Option PolicyError
first None other = other
first (Some e) other = Some e

-- of the rule's table with this number: its keys, its values, its length, its pattern
abbrev pub rule_refusal : Version → List ℕ → ℕ → Members → Option PolicyError
rule_refusal version base n rule =
    first (unless (has_rule_keys version rule) 4 n)
    (first (unless (has_rule_values rule) 5 n)
    (first (unless (nat_le (length (unwrap_or (pattern_of rule) [])) 4096) 7 n)
    (unless (is_pattern_of base (kind_of rule) (pattern_of rule)) 6 n)))

-- of the rules, numbered from n
abbrev pub rules_refusal : Version → List ℕ → ℕ → List Members → Option PolicyError
rules_refusal version base n [] = None
rules_refusal version base n (rule ∷ rules) =
    first (rule_refusal version base n rule) (rules_refusal version base (n + 1) rules)

-- of the document: its keys, its version, its base, its rules and how many they are
abbrev pub top_refusal : Members → Option PolicyError
top_refusal tree =
    first (unless (keys_pass is_top_key tree) 4 0)
    (first (unless (is_some (version_of tree)) 2 0)
    (first (unless (is_base (text_at (codes "base") tree)) 3 0)
    (first (unless (is_tables (get_member (codes "rule") tree)) 5 0)
    (unless (nat_le (length (tables_of (get_member (codes "rule") tree))) 1024) 7 0))))

-- of the whole: the document first, and then rule by rule
abbrev pub refusal : Members → Option PolicyError
refusal tree =
    first (top_refusal tree)
    (rules_refusal (unwrap_or (version_of tree) One) (unwrap_or (text_at (codes "base") tree) []) 1
    (tables_of (get_member (codes "rule") tree)))

-- memory was refused
abbrev pub no_memory : PolicyError
no_memory = record { code = 8; rule = 0 }

-- the bytes are no text, or the text is no document
abbrev pub no_document : PolicyError
no_document = record { code = 1; rule = 0 }

-- memory was refused, or this is the refusal
abbrev pub IsRefusedBy : Option PolicyError → PolicyError → Type 0
IsRefusedBy why e = (e ≡ no_memory) ⊎ (why ≡ Some e)

-- what a read of these bytes may answer in place of a policy
abbrev pub IsRefused : List ℕ → PolicyError → Type 0
IsRefused bytes e =
    (e ≡ no_memory)
    ⊎ (((e ≡ no_document) × (IsUtf8 bytes → parse_document bytes ≡ None))
    ⊎ ((tree : Members) × IsUtf8 bytes × (parse_document bytes ≡ Some tree) × (refusal tree ≡ Some e)))

-- the rule that a policy was refused for; 0 where it was no rule
abbrev pub rule_text : ℕ → List ℕ
rule_text rule = if rule == 0 then [] else codes " rule " ++ decimal rule

-- how a refusal is shown
abbrev pub refusal_text : PolicyError → List ℕ
refusal_text e = codes "P" ++ decimal e.code ++ rule_text e.rule
