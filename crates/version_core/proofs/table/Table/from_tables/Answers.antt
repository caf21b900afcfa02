use Rattle.std.proofs.Common.{◌≡◌, ◌∷◌, ◌++◌, [], ◌+◌, ◌<◌, List, None, Some, get_or, length, map, take, sym, ap, subst}
use Rattle.std.proofs.Common.{◌∙◌}
use Rattle.std.proofs.lemmas.List.{take_all, take_more}
use Rattle.version_core.specs.Changes.{AreChanges, change_key}
use Rattle.version_core.specs.Version.{IsVersion, Log, after, empty_version, last_or, versions_from}
use Rattle.version_core.specs.declared.change.BaseVersion.{BaseVersion}
use Rattle.version_core.specs.declared.change.Change.{Change}
use Rattle.version_core.proofs.TableLemmas.{all_get, base_meets, kept_from, next_leads, next_meets}
use Rattle.version_core.proofs.VersionLemmas.{versions_from-push}
use Rattle.version_core.proofs.table.Table.from_tables.Goals as goal

pub from_base-requires : goal.from_base-requires
from_base-requires c = base_meets IsVersion c.args.tables.now.base c.args.tables.now.changes c.requires.versions

pub push-requires : goal.push-requires
push-requires c =
    let tables = c.args.tables.now in
    let reserved = c.reserve.new.self in
    let n = c.loop-change.change-index in
    let change = c.change-item.result in
    let same = c.in_ok-copy.ensures in
    let items = c.as_slice-change-items.ensures in
    let lt : n < length tables.changes = subst (λ (cs : List Change). n < length cs) items c.loop-change-test.true in
    let here : change ≡ get_or tables.changes n change = subst (λ (cs : List Change). change ≡ get_or cs n change) items c.change-item.is in
    let at : reserved.versions ≡ versions_from tables.base (take n tables.changes) = ap (λ (log : Log). log.versions) (c.in_ok-reserve.ensures.ok) ∙ ap (λ (log : Log). log.versions) c.loop-change.invariant ∙ ap (λ (cs : List Change). versions_from tables.base (take n cs)) items in
    record {
      room = ap (λ (log : Log). log.room) (c.in_ok-reserve.ensures.ok) ∙ ap (λ (x : Change). Some (map change_key x.rows)) (sym same);
      next = ap (λ (x : Change). x.version) same ∙ next_leads empty_version tables.base tables.changes n change lt here c.requires.lead ∙ ap (λ vs. (last_or empty_version vs).number + 1) (sym at);
      version = subst (λ (x : Change). IsVersion (after (last_or empty_version reserved.versions) x)) (sym same) (subst (λ vs. IsVersion (after (last_or empty_version vs) change)) (sym at) (next_meets IsVersion empty_version tables.base tables.changes n change lt here c.requires.versions));
      changes = subst (λ (x : Change). AreChanges x.rows) (sym same) (all_get (λ (x : Change). AreChanges x.rows) tables.changes n change lt here c.requires.changes);
    }

pub loop-change-preserved : goal.loop-change-preserved
loop-change-preserved c =
    let base = c.args.tables.now.base in
    let items = c.as_slice-change-items.result.now in
    let n = c.loop-change.change-index in
    let change = c.change-item.result in
    let at : c.reserve.new.self.versions ≡ versions_from base (take n items) = ap (λ (log : Log). log.versions) (c.in_ok-reserve.ensures.ok) ∙ ap (λ (log : Log). log.versions) c.loop-change.invariant in
    let more : take (n + 1) items ≡ take n items ++ change ∷ [] = take_more items n change c.loop-change-test.true ∙ ap (λ (x : Change). take n items ++ x ∷ []) (sym c.change-item.is) in
    c.push.ensures ∙ ap (λ (vs : List BaseVersion). record { versions = vs; room = None })
    ((λ i. at i ++ after (last_or empty_version (at i)) (c.in_ok-copy.ensures i) ∷ []) ∙ sym (versions_from-push empty_version base (take n items) change) ∙ ap (versions_from base) (sym more))

pub invariant_of-result : goal.invariant_of-result
invariant_of-result c =
    let tables = c.args.tables.now in
    let all = take_all c.loop-change.change-index c.as_slice-change-items.result.now c.loop-change-test.false ∙ c.as_slice-change-items.ensures in
    rw (c.loop-change.invariant, all) (kept_from tables.keep tables.base tables.changes c.requires.versions c.requires.lead c.requires.oldest)
