use Rattle.std.proofs.Common.{sym}
use Rattle.awk_lib.proofs.Mapped.{found_entry}
use Rattle.awk_lib.proofs.elements.Elements.find_mapped.Goals as goal

pub returns-clause-some : goal.returns-clause-some
returns-clause-some g c = found_entry c.args.key.now c.args.self.now.map.entries c.in_ok-i.i
    (sym c.in_ok-i.ensures.index)
