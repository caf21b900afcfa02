use Rattle.std.proofs.Common.{List, subst}
use Rattle.version_core.specs.Tables.{AreTables}
use Rattle.version_core.specs.declared.change.Change.{Change}
use Rattle.version_core.specs.declared.mark.MarkRow.{MarkRow}
use Rattle.version_changes.proofs.sound.tables.are_tables.Goals as goal

pub returns : goal.returns
returns c = λ yes.
    let t = c.args.tables.now in
    subst (λ (changes : List Change). AreTables (record { keep = t.keep; base = t.base; changes = changes; marks = t.marks })) c.as_slice.ensures
    (subst (λ (marks : List MarkRow). AreTables (record { keep = t.keep; base = t.base; changes = c.as_slice.result.now; marks = marks })) c.as_slice-2.ensures (c.are_parts.ensures yes))
