use Rattle.std.proofs.Common.{◌≡◌, ◌+◌, Option, length, ap, ◌∙◌, sym, arith, leb}
use Rattle.version_core.proofs.VersionLemmas.{newest_is, newest_number}
use Rattle.version_core.specs.Version.{empty_version, last_or, versions_from}
use Rattle.version_core.specs.declared.change.Change.{Change}
use Rattle.hub_core.specs.Made.{has_change_or}
use Rattle.keeper_memory.specs.Kept.{kept_by}
use Rattle.hub_core.proofs.room.has_commit.Goals as goal

pub overflow_add-result : goal.overflow_add-result
overflow_add-result c =
    let tables = c.args.tables.now in
    let number = newest_number empty_version tables.base tables.changes c.requires.lead in
    let is = (newest_is empty_version tables.base tables.changes c.requires.versions).number in
    omega (arith, number, is, ap length c.as_slice.ensures)

pub returns-in-Some : goal.returns-in-Some
returns-in-Some c =
    let tables = c.args.tables.now in
    let number = newest_number empty_version tables.base tables.changes c.requires.lead in
    let same : tables.base.number + length c.as_slice.result.now ≡ (last_or empty_version (versions_from tables.base tables.changes)).number = omega (arith, number, ap length c.as_slice.ensures) in
    ap (leb c.in-Some.change.version) same ∙ ap (λ (o : Option Change). has_change_or (kept_by tables) o c.args.commit.now.mark) (sym c.in-Some.is)
