-- What stands behind a hub.
use Rattle.std.proofs.Common.{◌≡◌, ◌⊎◌, Bool, true, false, List, Option, None, Some, inl, inr, refl, sym, ap, subst}
use Rattle.std.proofs.Common.{◌∙◌, arith}
use Rattle.std.proofs.Common.{cond}
use Rattle.std.specs.List.{prefix_len}
use Rattle.std.specs.Prelude.{IsSome, bytes_eq, is_some, ◌==◌}
use Rattle.std.proofs.lemmas.Bool.{and_from}
use Rattle.std.proofs.lemmas.Bool.Decides.{Decides-eqb}
use Rattle.std.proofs.lemmas.Slice.Eq.{bytes_eq-Decides}
use Rattle.std.specs.Option.{ForSome}
use Rattle.std.proofs.lemmas.Bool.{le-leb, lt-leb}
use Rattle.version_core.specs.declared.mark.MarkRow.{MarkRow}
use Rattle.version_core.specs.Marks.{CanMark, is_below, mark_at, mark_key, same_mark, with_mark}
use Rattle.hub_core.specs.Made.{has_change_or, has_commit, taken_in}
use Rattle.version_core.specs.Version.{after}
use Rattle.version_core.specs.declared.change.BaseVersion.{BaseVersion}
use Rattle.version_core.specs.declared.change.Change.{Change}
use Rattle.keeper_memory.proofs.KeptLemmas.{newest_after}
use Rattle.keeper_memory.proofs.CommitLemmas.{IsKept-with_commit}
use Rattle.version_core.proofs.MarkLemmas.{mark_at-insert}
use Rattle.keeper_memory.specs.Commits.{CanCommit, CanLead, marks_after, versions_after, with_commit}
use Rattle.keeper_memory.specs.Kept.{IsKept, KeptState, newest_kept}
use Rattle.keeper_memory.specs.declared.hub_commit.HubCommit.{HubCommit}
use Rattle.version_core.specs.Version.{Versions}
use Rattle.version_core.specs.HeldMarks.{HeldMarks}
use Rattle.hub_core.specs.Hub.{MayBeMade, kept_in}
use Rattle.hub_core.specs.Room.{StaysAsItIs}
use Rattle.hub_core.specs.Standing.{HeldHub, IsStanding}

pub stays : (table table' : Versions) (held held' : HeldMarks) → StaysAsItIs table table' held held' → kept_in table' held'.marks ≡ kept_in table held.marks
stays table table' held held' same = λ i. record { keep = same.keep i; versions = same.versions i; marks = same.marks i }

-- where no commit is left open, the hub's own state stands
pub settled : (hub : HeldHub) → hub.commit_open ≡ false → (kept : KeptState) → IsStanding hub kept → kept ≡ hub.kept
settled hub closed kept (inl same) = same
settled hub closed kept (inr made) = let open_still = made.left_open in cc

-- a commit that may be made isn't made yet
pub not_made : (kept : KeptState) (commit : HubCommit) → CanCommit kept commit → has_commit kept commit ≡ false
not_made kept commit can = lacks commit.change commit.mark can.change can.mark
  where
    lacks : (change : Option Change) (mark : Option MarkRow) → ForSome change (CanLead kept.versions) → ForSome mark (CanMark (newest_kept (versions_after kept.keep kept.versions change)).number kept.marks) → has_change_or kept change mark ≡ false
    lacks (Some change) mark lead can = let next = (lead change refl).follows.number in lt-leb change.version (newest_kept kept.versions).number (omega arith)
    lacks None (Some mark) lead can = ap is_some (can mark refl).free
    lacks None None lead can = refl

-- the mark that was added is found
with_mark-found : (mark : MarkRow) (marks : List MarkRow) → mark_at (mark_key mark) marks ≡ None → is_some (mark_at (mark_key mark) (with_mark mark marks)) ≡ true
with_mark-found mark marks free =
    let itself : same_mark (mark_key mark) (mark_key mark) ≡ true = and_from (bytes_eq mark.caller mark.caller) (mark.number == mark.number) ((bytes_eq-Decides mark.caller mark.caller).1 refl) ((Decides-eqb mark.number mark.number).1 refl) in
    ap is_some (mark_at-insert (mark_key mark) mark marks (prefix_len (is_below mark) marks) free) ∙ ap (λ b. is_some (cond b (Some mark) (mark_at (mark_key mark) marks))) itself

-- and is seen once it is
pub made : (kept : KeptState) (commit : HubCommit) → CanCommit kept commit → has_commit (with_commit kept commit) commit ≡ true
made kept commit can = shows commit.change commit.mark can.some can.mark
  where
    shows : (change : Option Change) (mark : Option MarkRow) → IsSome change ⊎ IsSome mark
        → ForSome mark (CanMark (newest_kept (versions_after kept.keep kept.versions change)).number kept.marks)
        → has_change_or (record {
          keep = kept.keep;
          versions = versions_after kept.keep kept.versions change;
          marks = marks_after kept.marks mark;
        }) change mark ≡ true
    shows (Some change) mark some can =
        let newest = ap (λ (v : BaseVersion). v.number) (newest_after kept.keep kept.versions (after (newest_kept kept.versions) change)) in
        le-leb change.version (newest_kept (versions_after kept.keep kept.versions (Some change))).number (omega arith)
    shows None (Some mark) some can = with_mark-found mark kept.marks (can mark refl).free
    shows None None (inl none) can = cc
    shows None None (inr none) can = cc

-- the commit that was left open may be made
pub can_last : (kept : KeptState) (handed : Option HubCommit) (commit : HubCommit) → MayBeMade kept handed → handed ≡ Some commit → CanCommit kept commit
can_last kept handed commit may is = let same : may.commit ≡ commit = let e = may.last in cc in subst (CanCommit kept) same may.can

pub IsKept-taken_in : (b : Bool) (kept : KeptState) (commit : HubCommit) → CanCommit kept commit → IsKept kept → IsKept (taken_in b kept commit)
IsKept-taken_in true kept commit can is = IsKept-with_commit kept commit can is
IsKept-taken_in false kept commit can is = is

-- what the store told is the state with the commit exactly where it has it
pub reloaded : (hub : HeldHub) (commit : HubCommit) (told : KeptState) → hub.last ≡ Some commit → CanCommit hub.kept commit → (kept : KeptState) → IsStanding hub kept → kept ≡ told → kept ≡ taken_in (has_commit told commit) hub.kept commit
reloaded hub commit told last can kept (inl same) shown =
    let has : has_commit told commit ≡ false = ap (λ (k : KeptState). has_commit k commit) (sym shown ∙ same) ∙ not_made hub.kept commit can in
    same ∙ ap (λ b. taken_in b hub.kept commit) (sym has)
reloaded hub commit told last can kept (inr with) shown =
    let one : with.commit ≡ commit = let e = with.last in cc in
    let is : kept ≡ with_commit hub.kept commit = with.made ∙ ap (with_commit hub.kept) one in
    let has : has_commit told commit ≡ true = ap (λ (k : KeptState). has_commit k commit) (sym shown ∙ is) ∙ made hub.kept commit can in
    is ∙ ap (λ b. taken_in b hub.kept commit) (sym has)
