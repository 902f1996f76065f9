use Rattle.std.proofs.Common.{arith}
use Rattle.awkbox.proofs.QuotedText.{quoted_is_text}
use Rattle.awkbox.proofs.messages.quoted_name.Goals as goal

pub unwrap-requires : goal.unwrap-requires
unwrap-requires c =
    let text = quoted_is_text c.args.name.now (λ k. omega (arith, c.type_inv.name k)) in
    c.from_utf8.ensures.succeeds (rw (c.in-Ok.ensures.ok, c.as_bytes.ensures.value) text)
