use Rattle.awk_store.proofs.targets.set.Goals as goal

pub returns-in-Variable : goal.returns-in-Variable
returns-in-Variable c = λ g t. rw c.in-Variable.is (c.set_variable.ensures g t)

pub returns-in-Element : goal.returns-in-Element
returns-in-Element c = λ g t. rw c.in-Element.is (rw c.text.ensures at (c.set_element.ensures g t c.args.place))

pub returns-in-Field : goal.returns-in-Field
returns-in-Field c = λ g t. rw c.in-Field.is (c.set_field.ensures g t)
