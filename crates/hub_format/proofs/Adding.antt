-- Tables with one change more.
use Rattle.std.proofs.Common.{◌≡◌, ℕ, List, [], ◌∷◌, ◌++◌, Option, None, Some, refl, sym, ap, ◌∙◌, append-nil}
use Rattle.std.proofs.Common.{append_assoc}
use Rattle.version_core.specs.Grants.{caller_of}
use Rattle.version_core.specs.declared.change.Change.{Change}
use Rattle.version_core.specs.declared.grant_row.GrantRow.{GrantRow}
use Rattle.std.specs.Option.{ForSome}
use Rattle.roster_base.specs.Order.{RiseBy}
use Rattle.hub_format.specs.Format.{Entry, of_changes, some_grants}
use Rattle.hub_format.proofs.EntryMaps.{Differ}
use Rattle.hub_format.proofs.Labels.{grants_differ}

pub of_changes-push : (own : Change → List Entry) (changes : List Change) (change : Change) → of_changes own (changes ++ change ∷ []) ≡ own change ++ of_changes own changes
of_changes-push own [] change = sym (append-nil (own change))
of_changes-push own (x ∷ changes) change = ap (λ es. es ++ own x) (of_changes-push own changes change) ∙ append_assoc (own change) (of_changes own changes) (own x)

pub own_differ : (version : ℕ) (grants : Option (List GrantRow)) → ForSome grants (RiseBy caller_of) → Differ (some_grants version grants)
own_differ version None rise = tt
own_differ version (Some grants) rise = grants_differ version grants (rise grants refl)
