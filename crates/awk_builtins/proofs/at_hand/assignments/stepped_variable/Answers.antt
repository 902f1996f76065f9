use Rattle.std.proofs.Common.{sym, ap, ◌∙◌, rules, w64}
use Rattle.std.proofs.lemmas.Int.{to_z-of_z}
use Rattle.awk_numbers.specs.declared.number.Number.TheVariants as number
use Rattle.awk_text.specs.Values.{number_of}
use Rattle.awk_builtins.proofs.Storing.{steps_variable}
use Rattle.awk_builtins.proofs.at_hand.assignments.stepped_variable.Goals as goal

pub returns-clause-done : goal.returns-clause-done
returns-clause-done c =
    let made = rw (to_z-of_z w64 c.in_ok-old.old (search rules), c.numbers.ensures) at
    (sym c.stepped.ensures ∙ c.in-Ok.is) in
    let same = rw c.of.ensures at c.set.ensures in
    λ g t place taken. rw (to_z-of_z w64 c.in_ok-old.old (search rules))
    (steps_variable g (c.args.store.now, t) c.set.new.self place c.args.variable c.in_ok-old.ensures.nf c.args.how taken
    (number.Whole c.in_ok-old.old) c.in-Ok.new (ap (number_of c.args.store.now.numbers) c.in_ok-old.ensures.number) made
    same)
