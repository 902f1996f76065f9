use Rattle.std.proofs.Common.{rules, w64}
use Rattle.std.proofs.lemmas.Int.{to_z-of_z}
use Rattle.awk_text.specs.Values.{text_of}
use Rattle.awk_builtins.proofs.SearchSteps.{locates_so}
use Rattle.awk_builtins.proofs.searches.locate.Goals as goal

pub returns : goal.returns
returns c =
    let start = to_z-of_z w64 c.in-Ok.found.start (search rules) in
    let length_ = to_z-of_z w64 c.in-Ok.found.length (search rules) in
    rw start (λ g t. locates_so g (c.args.store.now, t) c.args.ere.now (text_of c.args.text.now) c.in-Ok.found
    c.set_own.new.self c.set_own-2.new.self c.in-Ok.ensures.ok (rw start at c.set_own.ensures)
    (rw length_ at c.set_own-2.ensures))
