use Rattle.std.proofs.Common.{◌≡◌, filter, is_some, sym, ap, ◌∙◌, subst, true, rules}
use Rattle.std.specs.List.{AllByRecursion}
use Rattle.indexmap.proofs.CallerLemmas.{filter-RetainsPairs}
use Rattle.awk_lib.specs.Numbering.{rows}
use Rattle.awk_lib.proofs.Mapped.{all_filtered, filtered_rows}
use Rattle.awk_lib.proofs.elements.Elements.compact.Goals as goal

pub returns-clause-rows : goal.returns-clause-rows
returns-clause-rows g c =
    let es = c.args.self.now.map.entries in
    let kept : c.retain.new.self.entries ≡ filter (λ e. is_some e.1) es =
    filter-RetainsPairs _ _ _ (λ k v b w f call. search rules) _ _ c.retain.ensures.filtered in
    ap rows kept ∙ filtered_rows es

pub returns-clause-filled : goal.returns-clause-filled
returns-clause-filled g c =
    let es = c.args.self.now.map.entries in
    let kept : c.retain.new.self.entries ≡ filter (λ e. is_some e.1) es =
    filter-RetainsPairs _ _ _ (λ k v b w f call. search rules) _ _ c.retain.ensures.filtered in
    subst (AllByRecursion (λ e. is_some e.1 ≡ true)) (sym kept) (all_filtered (λ e. is_some e.1) es)
