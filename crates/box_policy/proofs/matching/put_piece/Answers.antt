use Rattle.std.proofs.Common.{◌≡◌, ◌∙◌, ◌++◌, ◌∷◌, sym, subst, map, false, bytes_eq, codes, rules}
use Rattle.box_policy.specs.declared.tokens.Sort.TheVariants.{Component}
use Rattle.box_policy.specs.Patterns.{symbols, one}
use Rattle.box_policy.specs.Tables.{Holds}
use Rattle.box_policy.specs.Tokens.{lifted, is_close}
use Rattle.box_policy.proofs.FlatLemmas.{piece_parts}
use Rattle.box_policy.proofs.matching.put_piece.Goals as goal

pub returns-clause-holds : goal.returns-clause-holds
returns-clause-holds c = λ rest whole h.
    let named : bytes_eq c.args.piece.now (codes "**") ≡ false = search rules in
    c.put-2.ensures.holds Component rest whole
    (c.put_text-end.ensures.holds (one is_close ∷ rest) whole
    (c.put-inner.ensures.holds Component (map lifted (symbols Component c.args.piece.now) ++ (one is_close ∷ rest))
    whole
    (subst (λ left. Holds Component c.args.blocks.now c.args.at left whole) (piece_parts c.args.piece.now rest named)
    h)))
