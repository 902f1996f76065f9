use Rattle.std.proofs.Common.{ap, map, ◌∙◌}
use Rattle.awk_input.proofs.Hosting.{word_named, words_so}
use Rattle.awk_input.proofs.host.Host.add_word.Goals as goal

pub returns-clause-ok : goal.returns-clause-ok
returns-clause-ok c = rw (← c.self.view_is, ← c.in_ok-bytes.ensures)
    (words_so (record {
      bound = c.self.inside.bound;
      numbers = c.self.inside.numbers;
      seed = c.self.inside.seed;
      words = map (λ t. t.items) c.self.inside.words.keys;
      names =
          map (λ e. (e.0.items, e.1)) c.self.inside.names.entries;
    }) _ c.in_ok-bytes.bytes.items
    (ap (map (λ t. t.items)) c.in_ok-insert.ensures.keys ∙ word_named (λ t. t.items) c.in_ok-bytes.bytes
    c.self.inside.words.keys))
