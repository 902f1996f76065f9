use Rattle.std.proofs.Common.{ap, map, ◌∙◌}
use Rattle.awk_input.proofs.Hosting.{name_named, named, names_so}
use Rattle.awk_input.proofs.host.Host.add_name.Goals as goal

pub returns-clause-ok : goal.returns-clause-ok
returns-clause-ok c = rw (← c.self.view_is, ← c.in_ok-bytes.ensures)
    (names_so (record {
      bound = c.self.inside.bound;
      numbers = c.self.inside.numbers;
      seed = c.self.inside.seed;
      words = map (λ t. t.items) c.self.inside.words.keys;
      names =
          map (λ e. (e.0.items, e.1)) c.self.inside.names.entries;
    }) _ c.in_ok-bytes.bytes.items c.args.what
    (ap (named (λ k. k.items)) c.in_ok-insert.ensures.entries ∙ name_named (λ k. k.items) c.in_ok-bytes.bytes
    c.args.what c.self.inside.names.entries))
