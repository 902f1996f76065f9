use Rattle.std.proofs.Common.{refl}
use Rattle.awk_tree.proofs.Views.{view-Number, view-Quoted, view-Pattern, view-Name, view-Element, view-Field}
use Rattle.awk_tree.proofs.Views.{view-Paren, view-Call, view-Builtin, view-Length, view-Split, view-Substitute}
use Rattle.awk_tree.proofs.Views.{view-Getline, view-Before, view-Signed, view-Group, view-After, view-Power}
use Rattle.awk_tree.proofs.Views.{view-Product, view-Sum, view-Concat, view-Pipe, view-Compare, view-Match, view-In}
use Rattle.awk_tree.proofs.Views.{view-And, view-Or, view-Choice, view-Assign}
use Rattle.awk_lowering.proofs.shapes.+start.Goals as goal

pub returns-in-Number : goal.returns-in-Number
returns-in-Number t c = rw (c.in-Number.is, view-Number) refl

pub returns-in-Quoted : goal.returns-in-Quoted
returns-in-Quoted t c = rw (c.in-Quoted.is, view-Quoted) refl

pub returns-in-Pattern : goal.returns-in-Pattern
returns-in-Pattern t c = rw (c.in-Pattern.is, view-Pattern) refl

pub returns-in-Name : goal.returns-in-Name
returns-in-Name t c = rw (c.in-Name.is, view-Name) refl

pub returns-in-Element : goal.returns-in-Element
returns-in-Element t c = rw (c.in-Element.is, view-Element) refl

pub returns-in-Field : goal.returns-in-Field
returns-in-Field t c = rw (c.in-Field.is, view-Field) refl

pub returns-in-Paren : goal.returns-in-Paren
returns-in-Paren t c = rw (c.in-Paren.is, view-Paren) refl

pub returns-in-Call : goal.returns-in-Call
returns-in-Call t c = rw (c.in-Call.is, view-Call) refl

pub returns-in-Builtin : goal.returns-in-Builtin
returns-in-Builtin t c = rw (c.in-Builtin.is, view-Builtin) refl

pub returns-in-Length : goal.returns-in-Length
returns-in-Length t c = rw (c.in-Length.is, view-Length) refl

pub returns-in-Split : goal.returns-in-Split
returns-in-Split t c = rw (c.in-Split.is, view-Split) refl

pub returns-in-Substitute : goal.returns-in-Substitute
returns-in-Substitute t c = rw (c.in-Substitute.is, view-Substitute) refl

pub returns-in-Getline : goal.returns-in-Getline
returns-in-Getline t c = rw (c.in-Getline.is, view-Getline) refl

pub returns-in-Before : goal.returns-in-Before
returns-in-Before t c = rw (c.in-Before.is, view-Before) refl

pub returns-in-Signed : goal.returns-in-Signed
returns-in-Signed t c = rw (c.in-Signed.is, view-Signed) refl

pub returns-in-Group : goal.returns-in-Group
returns-in-Group t c = rw (c.in-Group.is, view-Group) refl

pub returns-in-After : goal.returns-in-After
returns-in-After t c = let h = rw c.get.ensures at c.start.ensures in rw (c.in-After.is, view-After) h

pub returns-in-Power : goal.returns-in-Power
returns-in-Power t c = let h = rw c.get-in-Power.ensures at c.start-in-Power.ensures in rw (c.in-Power.is, view-Power) h

pub returns-in-Product : goal.returns-in-Product
returns-in-Product t c =
    let h = rw c.get-in-Product.ensures at c.start-in-Product.ensures in rw (c.in-Product.is, view-Product) h

pub returns-in-Sum : goal.returns-in-Sum
returns-in-Sum t c = let h = rw c.get-in-Sum.ensures at c.start-in-Sum.ensures in rw (c.in-Sum.is, view-Sum) h

pub returns-in-Concat : goal.returns-in-Concat
returns-in-Concat t c =
    let h = rw c.get-in-Concat.ensures at c.start-in-Concat.ensures in rw (c.in-Concat.is, view-Concat) h

pub returns-in-Pipe : goal.returns-in-Pipe
returns-in-Pipe t c = let h = rw c.get-in-Pipe.ensures at c.start-in-Pipe.ensures in rw (c.in-Pipe.is, view-Pipe) h

pub returns-in-Compare : goal.returns-in-Compare
returns-in-Compare t c =
    let h = rw c.get-in-Compare.ensures at c.start-in-Compare.ensures in rw (c.in-Compare.is, view-Compare) h

pub returns-in-Match : goal.returns-in-Match
returns-in-Match t c = let h = rw c.get-in-Match.ensures at c.start-in-Match.ensures in rw (c.in-Match.is, view-Match) h

pub returns-in-In : goal.returns-in-In
returns-in-In t c = let h = rw c.get-in-In.ensures at c.start-in-In.ensures in rw (c.in-In.is, view-In) h

pub returns-in-And : goal.returns-in-And
returns-in-And t c = let h = rw c.get-in-And.ensures at c.start-in-And.ensures in rw (c.in-And.is, view-And) h

pub returns-in-Or : goal.returns-in-Or
returns-in-Or t c = let h = rw c.get-in-Or.ensures at c.start-in-Or.ensures in rw (c.in-Or.is, view-Or) h

pub returns-in-Choice : goal.returns-in-Choice
returns-in-Choice t c =
    let h = rw c.get-in-Choice.ensures at c.start-in-Choice.ensures in rw (c.in-Choice.is, view-Choice) h

pub returns-in-Assign : goal.returns-in-Assign
returns-in-Assign t c =
    let h = rw c.get-in-Assign.ensures at c.start-in-Assign.ensures in rw (c.in-Assign.is, view-Assign) h
