use Rattle.std.proofs.Common.{◌++◌, ◌∙◌, ap}
use Rattle.awk_resolve.proofs.ShortTables.{put_last, put_more}
use Rattle.awk_resolve.proofs.text_tables.ShortTable.append.Goals as goal

pub returns-then-is_empty : goal.returns-then-is_empty
returns-then-is_empty g c =
    let none = rw (← c.self.view_is) at c.requires in
    rw (← c.self.view_is)
    (ap (λ l. l ++ c.self.inside.more) c.in_ok-push.ensures.items ∙ put_last c.args.text c.args.value
    c.self.inside.few.items c.self.inside.more none (c.is_empty.ensures.0 c.if-is_empty.true))

pub returns : goal.returns
returns g c =
    let none = rw (← c.self.view_is) at c.requires in
    rw (← c.self.view_is) (put_more c.args.text c.args.value c.self.inside.few.items c.self.inside.more c.put.new.self
    c.put.result none c.put.ensures.ok)
