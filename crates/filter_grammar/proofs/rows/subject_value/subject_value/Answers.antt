use Rattle.std.proofs.Common.{ap, bytes_eq, ◌∙◌}
use Rattle.std.specs.Prelude.{find}
use Rattle.filter_grammar.specs.rows.SubjectValues as spec
use Rattle.filter_grammar.proofs.ValueLemmas.{named_year}
use Rattle.filter_grammar.proofs.rows.subject_value.subject_value.Goals as goal

pub returns-in-OfMetadata-clause-value : goal.returns-in-OfMetadata-clause-value
returns-in-OfMetadata-clause-value c =
    rw c.in-OfMetadata.is
    (c.lent_entry.ensures.value ∙ ap (λ es. spec.entry_value (find (λ e. bytes_eq e.key c.in-OfMetadata.key.now) es)) (c.entries.ensures.entries ∙ c.metadata.ensures))

pub returns-in-OfTable-clause-year : goal.returns-in-OfTable-clause-year
returns-in-OfTable-clause-year c = named_year c.args.row.now _ c.named.result c.named.ensures.row.fitting c.named.ensures.value
