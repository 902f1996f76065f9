use Rattle.std.proofs.lemmas.Result.{err_from_is_err_and}
use Rattle.awk_store.proofs.Acting.{doing, done, stop}
use Rattle.awk_builtins.proofs.Matches.{long_first, short_so}
use Rattle.awk_builtins.proofs.splits.computed_splitter.Goals as goal

pub returns-in_err-ere : goal.returns-in_err-ere
returns-in_err-ere c = λ g w at a text from h.
    let e = err_from_is_err_and c.from_residual.result c.from_residual.ensures.1 in
    rw (e.1, e.2) (stop _ (long_first g w c.args.place from at a text c.args.by.now c.if-by-gt1.true h)
    (c.check.ensures.check g w) c.in_err-ere.was)

pub returns-then-by-gt1 : goal.returns-then-by-gt1
returns-then-by-gt1 c = λ g w at a text from h.
    rw (c.by_compiled.ensures, c.in_ok-ere.ensures.ere.0)
    (done (doing c.in_ok-ere.ere (long_first g w c.args.place from at a text c.args.by.now c.if-by-gt1.true h)
    (c.check.ensures.check g w) c.in_ok-ere.was))

pub returns : goal.returns
returns c = λ g w at a text from h. rw c.at.ensures (short_so g w c.args.place from at a text c.args.by.now c.new.result
    c.new.ensures.ok c.new.ensures.err c.if-by-gt1.false h)
