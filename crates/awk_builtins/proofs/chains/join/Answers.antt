use Rattle.std.proofs.Common.{ap, [], ◌∷◌}
use Rattle.awk_builtins.proofs.Making.{text_so, as_text_so}
use Rattle.awk_machine.specs.Pieces.{At, Texts_of}
use Rattle.awk_machine.specs.Operators as ops
use Rattle.std.proofs.Common.{◌++◌}
use Rattle.awk_text.specs.Values.{text_of}
use Rattle.awk_machine.specs.Advances.{held}
use Rattle.awk_machine.specs.Pieces.{Goes}
use Rattle.awk_machine.specs.Streams.{seen}
use Rattle.awk_store.specs.Wholes.{base}
use Rattle.awk_builtins.proofs.chains.join.Goals as goal

pub returns : goal.returns
returns c = λ g w x xs. rw c.text_at.ensures (text_so g w _ c.args.place (λ v k. At (Texts_of xs) (v ∷ []) ∷ k)
    (ops.limited (text_of c.args.left ++ text_of c.args.right.now)) c.concatenated.result c.concatenated.ensures.ok
    c.concatenated.ensures.err
    (λ k hid d a. ap (held g (seen (base g w hid) d))
    (as_text_so c.args.place (ops.limited (text_of c.args.left ++ text_of c.args.right.now))
    (λ v k s. Goes (At (Texts_of xs) (v ∷ []) ∷ k) s) k (seen (base g w hid) d))))
