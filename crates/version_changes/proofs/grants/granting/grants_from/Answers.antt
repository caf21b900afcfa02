use Rattle.std.proofs.Common.{List, map, ◌∙◌, ap, sym}
use Rattle.version_changes.proofs.Granted.{grants_from-in_order}
use Rattle.version_changes.specs.grants.Granting.{granted}
use Rattle.grant_scopes.specs.declared.entry.GrantEntry.{GrantEntry}
use Rattle.version_core.specs.Version.{newest_of}
use Rattle.version_changes.proofs.grants.granting.grants_from.Goals as goal

pub returns-clause-grants : goal.returns-clause-grants
returns-clause-grants c =
    let version = newest_of c.args.table.now in
    c.from_vec.ensures ∙ c.in_ok-rows.ensures ∙ ap (λ (entries : List GrantEntry). map (granted version) entries) c.in_ok-entries.ensures.order
    ∙ sym (grants_from-in_order version c.args.list.now)
