use Rattle.std.proofs.Common.{◌≤◌, ◌∙◌, List, ap, slice_get, subst, sym}
use Rattle.std.specs.List.{AllByRecursion}
use Rattle.version_core.specs.Changes.{rows_of}
use Rattle.version_core.specs.History.{AreUpTo, IsPast, Past, is_past_of, pasts_of, rows_at}
use Rattle.version_core.specs.declared.history.History.{History}
use Rattle.version_core.proofs.KindCounts.{pasts_kept, rows_of_kind}
use Rattle.version_core.proofs.view.VersionView.row_at.Goals as goal

pub row_of_each-requires-clause-pasts : goal.row_of_each-requires-clause-pasts
row_of_each-requires-clause-pasts c =
    subst (λ (hs : List History). AllByRecursion IsPast (pasts_of hs)) (sym c.histories_of_kind-histories.ensures) (pasts_kept IsPast (is_past_of c.args.kind) c.self.inside.histories.now c.self.invariant.pasts.all)

pub row_of_each-requires-clause-newest : goal.row_of_each-requires-clause-newest
row_of_each-requires-clause-newest c =
    let version = c.self.inside.version in
    subst (λ (hs : List History). AreUpTo version (pasts_of hs)) (sym c.histories_of_kind-histories.ensures)
    (pasts_kept (λ (past : Past). AllByRecursion (λ entry. entry.version ≤ version) past) (is_past_of c.args.kind) c.self.inside.histories.now (c.self.invariant.newest c.if-self.true))

pub returns-then-self : goal.returns-then-self
returns-then-self c =
    let version = c.self.inside.version in
    rw (← c.self.view_is) (c.row_of_each.ensures ∙ ap (λ (hs : List History). slice_get (rows_of (rows_at version (pasts_of hs))) c.args.place) c.histories_of_kind-histories.ensures
    ∙ ap (λ rows. slice_get rows c.args.place) (sym (rows_of_kind c.args.kind version c.self.inside.histories.now c.self.invariant.pasts.all)))

pub returns : goal.returns
returns c =
    let version = c.self.inside.version in
    rw (← c.self.view_is) (c.row_of_some.ensures ∙ ap (λ (hs : List History). slice_get (rows_of (rows_at version (pasts_of hs))) c.args.place) c.histories_of_kind-histories.ensures
    ∙ ap (λ rows. slice_get rows c.args.place) (sym (rows_of_kind c.args.kind version c.self.inside.histories.now c.self.invariant.pasts.all)))
