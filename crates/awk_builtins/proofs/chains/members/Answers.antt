use Rattle.std.proofs.Common.{refl, ap, [], ◌∷◌}
use Rattle.std.proofs.lemmas.List.{drop_more}
use Rattle.awk_builtins.proofs.Rests.{drop_all}
use Rattle.std.proofs.Common.{drop, map, ◌+◌}
use Rattle.awk_machine.specs.Pieces.{At, Members_of}
use Rattle.awk_program.specs.View.{variable_of}
use Rattle.awk_store.specs.Wholes.{names_in}
use Rattle.awk_store.proofs.Acting.{at_rest, moves, done, doing, reworded}
use Rattle.awk_builtins.proofs.chains.members.Goals as goal

pub loop-array-init : goal.loop-array-init
loop-array-init c = λ g t. at_rest _ _

pub loop-array-preserved : goal.loop-array-preserved
loop-array-preserved c = λ g t. doing c.member-found.result (reworded (c.loop-array.invariant g t)
    (λ k. ap (λ xs. At (Members_of (map (variable_of (names_in g)) xs)) (c.loop-array.found ∷ []) ∷ k)
    (drop_more c.args.arrays.now c.loop-array.array-index _ c.loop-array-test.true)))
    (c.member-found.ensures g t
    (map (variable_of (names_in g)) (drop (c.loop-array.array-index + 1) c.args.arrays.now))) refl

pub returns : goal.returns
returns c = λ g t. done
    (moves (reworded (c.loop-array.invariant g t)
    (λ k. ap (λ xs. At (Members_of (map (variable_of (names_in g)) xs)) (c.loop-array.found ∷ []) ∷ k)
    (drop_all c.args.arrays.now c.loop-array.array-index c.loop-array-test.false))) (λ k hid d a. refl))
