use Rattle.std.proofs.Common.{◌≡◌, ◌∙◌, ap, rules, string_bytes}
use Rattle.std.specs.BTreeMap.{keys}
use Rattle.std.specs.List.{list_all}
use Rattle.box_policy.proofs.TreeLemmas.{list_all-keys}
use Rattle.box_policy.specs.Words.{is_rule_key}
use Rattle.box_policy.proofs.reading.has_rule_keys_only.Goals as goal

pub loop-key-init : goal.loop-key-init
loop-key-init c =
    let whole : c.into_iter-key-iterator.result ≡ keys c.args.table.now = search rules in
    ap (list_all (λ key. is_rule_key c.args.version (string_bytes key))) whole ∙ list_all-keys
    (is_rule_key c.args.version) c.args.table.now.entries
