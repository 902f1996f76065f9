use Rattle.std.proofs.Common.{◌∙◌, ap}
use Rattle.awk_store.specs.Kept.{array_at}
use Rattle.awk_store.proofs.Cells.{put_back, as_it_was}
use Rattle.awk_store.proofs.store.Store.keys.Goals as goal

pub returns-clause-same : goal.returns-clause-same
returns-clause-same c =
    as_it_was _ _ _ _ (put_back _ _ _ _ _ _ _ c.reference-at.ensures c.replace-elements.ensures.after
    c.replace-2.ensures.after)
    (c.key_list-result.ensures.same ∙ c.replace-elements.ensures.value ∙ ap (array_at c.args.self.now)
    c.reference-at.ensures)
