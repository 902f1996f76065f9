use Rattle.std.proofs.Common.{rules}
use Rattle.std.proofs.lemmas.List.Sorted.{answers_always}
use Rattle.box_os.specs.declared.table.OpenStream.{OpenStream}
use Rattle.box_os.proofs.OsRising.{searched}
use Rattle.box_os.proofs.table.search.Goals as goal

-- the closure gives a stream's number
pub returns : goal.returns
returns c =
    let facts = c.binary_search_by_key.ensures in
    let by_key = facts.position (λ s. s.number) (answers_always _ _ _ (λ f a r g called. search rules)) in
    searched (λ (s : OpenStream). s.number) 3 c.requires.0 c.args.number c.args.streams.now
    c.binary_search_by_key.result c.requires.1 facts.bound by_key
