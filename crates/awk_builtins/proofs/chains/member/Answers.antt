use Rattle.std.proofs.Common.{ap, [], ◌∷◌}
use Rattle.awk_builtins.proofs.Making.{gives_so}
use Rattle.awk_machine.specs.Pieces.{At, Members_of}
use Rattle.awk_lib.specs.Arrays.{has}
use Rattle.awk_text.specs.Values.{text_of}
use Rattle.awk_machine.specs.Operators as ops
use Rattle.awk_machine.specs.Pieces.{Goes}
use Rattle.awk_machine.specs.Streams.{seen}
use Rattle.awk_store.specs.Wholes.{base}
use Rattle.awk_store.proofs.Agreeing.{array-so}
use Rattle.awk_builtins.proofs.chains.member.Goals as goal

pub returns : goal.returns
returns c = λ g t rest. rw (c.truth_value.ensures, c.contains.ensures, c.text_in.ensures)
    (gives_so g (c.args.store.now, t) _ (λ v k. At (Members_of rest) (v ∷ []) ∷ k) _
    (λ k hid d a. ap (λ xs. Goes (At (Members_of rest) (ops.of_truth (has xs (text_of c.args.key.now)) ∷ []) ∷ k)
    (seen (base g (c.args.store.now, t) hid) d)) (array-so g (c.args.store.now, t) hid d a c.args.array)))
