use Rattle.std.proofs.Common.{◌≡◌, string_bytes}
use Rattle.std.specs.List.{list_all}
use Rattle.toml.specs.View.{table_view}
use Rattle.box_policy.specs.Tree.{keys_pass}
use Rattle.box_policy.specs.Words.{is_top_key}
use Rattle.box_policy.proofs.reading.has_top_keys_only.Given as goal

-- those before pass
abbrev pub invariant-loop-key : goal.invariant-loop-key
invariant-loop-key l = list_all (λ key. is_top_key (string_bytes key)) l.key-iterator ≡ keys_pass is_top_key
    (table_view l.table)
