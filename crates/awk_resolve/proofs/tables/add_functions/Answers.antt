use Rattle.std.proofs.Common.{◌≡◌, ◌∙◌, ◌+◌, ◌<◌, ℕ, List, ◌++◌, length, get_or, drop, ap, sym, append_assoc, arith}
use Rattle.std.proofs.lemmas.List.{map-append}
use Rattle.awk_tree.specs.Tree.{Text}
use Rattle.awk_resolve.specs.Kinds.{texts}
use Rattle.awk_resolve.specs.Said.{defined, defined_by}
use Rattle.awk_resolve.specs.declared.mention.Section.{Section}
use Rattle.awk_resolve.proofs.Lists.{drop_here}
use Rattle.awk_resolve.proofs.tables.add_functions.Goals as goal

defined_on : (all old new : List Text) (p : Section) (ps : List Section) (i : ℕ) → i < length ps → p ≡ get_or ps i p
    → new ≡ old ++ texts (defined_by p.role) → all ≡ old ++ texts (defined (drop i ps))
    → all ≡ new ++ texts (defined (drop (i + 1) ps))
defined_on all old new p ps i h e is far =
    far ∙ ap (λ xs. old ++ texts (defined xs)) (drop_here ps i p h e)
    ∙ ap (λ xs. old ++ xs) (map-append (λ n. n.text) (defined_by p.role) (defined (drop (i + 1) ps)))
    ∙ sym (append_assoc old (texts (defined_by p.role)) (texts (defined (drop (i + 1) ps))))
    ∙ ap (λ xs. xs ++ texts (defined (drop (i + 1) ps))) (sym is)

pub loop-part-preserved : goal.loop-part-preserved
loop-part-preserved c = defined_on _ _ _ c.part-item.result c.args.parts.now c.loop-part.part-index
    (omega arith) c.part-item.is c.in_ok-add_function.ensures c.loop-part.invariant
