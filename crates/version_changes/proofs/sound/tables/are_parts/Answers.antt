use Rattle.std.proofs.Common.{◌≡◌, ◌≤◌, List, sym, ap, subst, ◌∙◌}
use Rattle.std.specs.List.{AllByRecursion}
use Rattle.version_core.specs.Marks.{AreMarks}
use Rattle.version_core.specs.Version.{empty_version}
use Rattle.version_core.specs.declared.grant_row.GrantRow.{GrantRow}
use Rattle.version_core.proofs.VersionLemmas as version_lemmas
use Rattle.version_changes.specs.sound.Behind.{last_grants}
use Rattle.version_changes.proofs.KeepingLemmas.{newest_grants}
use Rattle.version_changes.proofs.sound.tables.are_parts.Goals as goal

pub newest_number-requires : goal.newest_number-requires
newest_number-requires c = c.are_versions.ensures.fits c.if-not-are_versions.false

pub returns : goal.returns
returns c = λ yes.
    let base = c.args.base.now in
    let changes = c.args.changes.now in
    let sure = c.if-not-are_versions.false in
    let lead = c.are_versions.ensures.lead sure in
    let newest : c.last_grants.result.now ≡ last_grants base.grants changes = c.last_grants.ensures ∙ ap (λ grants. last_grants grants changes) c.as_slice.ensures in
    record {
      versions = c.are_versions.ensures.versions sure;
      changes = c.see_order.ensures;
      lead = lead;
      oldest = c.are_kept.ensures c.if-not-are_kept.false;
      first = c.is_first.ensures c.if-not-is_first.false;
      since = subst (λ (grants : List GrantRow). AllByRecursion (λ row. 1 ≤ row.grant.since) grants) (newest ∙ sym (newest_grants empty_version base changes)) (c.are_since.ensures c.if-not-are_since.false);
      grants = c.keep_grants.ensures c.if-not-keep_grants.false;
      marks = subst (λ n. AreMarks n c.args.marks.now) (c.newest_number.ensures ∙ sym (version_lemmas.newest_number empty_version base changes lead)) (c.are_marks.ensures yes);
    }
