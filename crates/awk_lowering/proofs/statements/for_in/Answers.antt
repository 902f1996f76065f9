use Rattle.awk_lowering.proofs.statements.for_in.Goals as goal

pub returns : goal.returns
returns c = λ a h. let k = rw c.bytes.ensures at c.variable-key.ensures in
    let v = rw c.bytes-2.ensures at c.variable.ensures in c.for_in_of.ensures _ _ _ a k v h
