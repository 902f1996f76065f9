use Rattle.std.proofs.Common.{sym}
use Rattle.awk_program.specs.View.{view}
use Rattle.awk_program.proofs.Views.{view-Text}
use Rattle.awk_store.specs.Wholes.{names_in}
use Rattle.awk_text.specs.declared.value.Value.TheVariants as v
use Rattle.awk_builtins.proofs.AtHand.{text_there}
use Rattle.awk_builtins.proofs.Grown.{joins_only}
use Rattle.awk_builtins.proofs.Rests.{just_one}
use Rattle.awk_builtins.proofs.at_hand.growth.constant.Goals as goal

pub returns-in-Text : goal.returns-in-Text
returns-in-Text c = λ g t k room fits.
    rw (just_one c.args.rest.now c.one-item.result c.in-len1.len_at_least c.in-len1.len_below c.one-item.is)
    (joins_only g (k, t) c.one-item.result.place (view (names_in g) c.one-item.result.operand) room c.bytes.result.now
    (record {
      val = v.Text c.in-Text.text;
      is = sym c.bytes.ensures;
      passes =
          rw (c.in-Text.is, view-Text) (text_there g (k, t) c.in-Text.text);
    }) fits)
