use Rattle.std.proofs.Common.{ap, sym, ◌∙◌, ◌++◌, ◌∷◌, [], false, Some}
use Rattle.awk_streams.specs.Tables.{kind}
use Rattle.awk_streams.proofs.Leading.{owns_opened}
use Rattle.awk_streams.proofs.opening.open.Goals as goal

pub returns-in-Some-clause-owns : goal.returns-in-Some-clause-owns
returns-in-Some-clause-owns g c =
    let n = c.args.ask.name in
    owns_opened (g.W.World.open_numbers c.args.world.now) _ c.args.ask.mode c.new-sent.result (kind n.class) n.text.now
    c.args.streams.now c.add.new.self c.in_ok-reply.reply (Some c.in-Some.number)
    c.in_ok-reply.ensures.numbers (sym c.number_opened.ensures ∙ c.in-Some.is)
    (rw (c.in_ok-kept.ensures.class, c.in_ok-kept.ensures.text) at c.add.ensures.entries
    ∙ ap (λ es. es ++ (record {
      stream = record {
        class = kind n.class;
        text = n.text.now;
        number =
            c.in-Some.number;
      };
      input = record { unread = []; ended = false };
    }) ∷ []) c.make_room.ensures.entries)
    c.requires.owns
