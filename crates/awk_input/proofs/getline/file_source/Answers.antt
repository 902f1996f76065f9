use Rattle.std.proofs.Common.{sym, ap, ◌∙◌}
use Rattle.std.specs.Str.{bytes_eq}
use Rattle.awk_input.proofs.ReadSteps.{named_file, standard_file}
use Rattle.awk_input.proofs.getline.file_source.Goals as goal

pub returns-then-eq : goal.returns-then-eq
returns-then-eq c = λ place k.
    let name = c.args.name.now in
    standard_file place name k (ap (bytes_eq name) (sym c.as_slice.ensures) ∙ sym c.eq.ensures ∙ c.if-eq.true)

pub returns : goal.returns
returns c = λ place k.
    let name = c.args.name.now in
    named_file place name k (ap (bytes_eq name) (sym c.as_slice.ensures) ∙ sym c.eq.ensures ∙ c.if-eq.false)
