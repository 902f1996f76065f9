use Rattle.std.proofs.Common.{◌≡◌, ◌∙◌, ap, rules, string_bytes}
use Rattle.std.specs.BTreeMap.{keys}
use Rattle.std.specs.List.{list_all}
use Rattle.box_policy.proofs.TreeLemmas.{list_all-keys}
use Rattle.box_policy.specs.Words.{is_top_key}
use Rattle.box_policy.proofs.reading.has_top_keys_only.Goals as goal

pub loop-key-init : goal.loop-key-init
loop-key-init c =
    let whole : c.into_iter-key-iterator.result ≡ keys c.args.table.now = search rules in
    ap (list_all (λ key. is_top_key (string_bytes key))) whole ∙ list_all-keys is_top_key c.args.table.now.entries
