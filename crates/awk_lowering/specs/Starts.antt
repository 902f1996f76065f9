-- The place of the first token of an expression.
use Rattle.awk_text.specs.declared.place.Place.{Place}
use Rattle.awk_tree.specs.Tree as t
use Rattle.awk_tree.specs.Tree.{Tree}

abbrev pub start : Tree → Place
start (t.number q x) = q
start (t.quoted q x) = q
start (t.pattern q x) = q
start (t.name n) = n.place
start (t.element n xs) = n.place
start (t.field q x) = q
start (t.paren q x) = q
start (t.call n xs) = n.place
start (t.builtin q which xs) = q
start (t.bare_length q) = q
start (t.split q x n y) = q
start (t.substitute q all x y z) = q
start (t.getline q x y) = q
start (t.before q how x) = q
start (t.after x q how) = start x
start (t.signed q how x) = q
start (t.power x q y) = start x
start (t.product x xs) = start x
start (t.sum x xs) = start x
start (t.concat x xs) = start x
start (t.pipe x xs) = start x
start (t.compare x q how y) = start x
start (t.matched x q unlike y) = start x
start (t.group q xs ms) = q
start (t.member x ms) = start x
start (t.and x xs) = start x
start (t.or x xs) = start x
start (t.choose x y z) = start x
start (t.assign x q how y) = start x
