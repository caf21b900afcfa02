use Rattle.std.proofs.Common.{◌≡◌, ◌+◌, ◌≤◌, ◌∷◌, [], ℤ, List, None, vec_len, sym, ap, subst, ◌∙◌, arith, unwrap_or}
use Rattle.std.specs.List.{AllByRecursion}
use Rattle.version_core.specs.History.{AreHistoriesOf, AreUpTo, pasts_of}
use Rattle.version_core.specs.Since.{standing}
use Rattle.version_core.specs.VersionLog.{version_at, versions_at}
use Rattle.version_core.specs.Version.{IsVersion}
use Rattle.version_core.specs.declared.change.BaseVersion.{BaseVersion}
use Rattle.version_core.specs.declared.grant_row.GrantRow.{GrantRow}
use Rattle.version_core.specs.declared.history.History.{History}
use Rattle.version_core.specs.declared.since.Since.{Since}
use Rattle.version_core.proofs.PutLemmas.{leb_same}
use Rattle.version_core.proofs.SinceLemmas.{standing-pushed}
use Rattle.version_core.proofs.version_log.VersionLog.from_base.Goals as goal

-- what stands at the base's number is the base
base_is : (base : BaseVersion) (histories : List History) (grants : List (Since (List GrantRow))) → AreHistoriesOf base.number base.rows histories → grants ≡ record { version = base.number; value = base.grants } ∷ [] → version_at base.number base.moment (pasts_of histories) grants ≡ base
base_is base histories grants are same =
    let granted : unwrap_or (standing base.number grants) [] ≡ base.grants =
    ap (λ (gs : List (Since (List GrantRow))). unwrap_or (standing base.number gs) []) same
    ∙ ap (λ o. unwrap_or o []) (standing-pushed base.number [] (record { version = base.number; value = base.grants }) (leb_same base.number)) in
    λ i. record { number = base.number; moment = base.moment; rows = are.rows i; grants = granted i }

pub invariant_of-result : goal.invariant_of-result
invariant_of-result c =
    let base = c.args.base.now in
    let grants = c.in_ok-grants.grants in
    let histories = c.in_ok-histories.histories in
    let are : AreHistoriesOf base.number base.rows histories.items = subst (λ rows. AreHistoriesOf base.number rows histories.items) c.as_slice.ensures.changes c.in_ok-histories.ensures in
    let number : base.number ≡ base.number + vec_len c.new.result = omega (arith, c.new.ensures.len) in
    record {
      versions = rw c.new.ensures.items (subst IsVersion (sym (base_is base histories.items grants.items are c.in_ok-grants.ensures)) c.requires, tt);
      pasts = are.pasts;
      up_to = subst (λ k. AreUpTo k (pasts_of histories.items)) number are.up_to;
      grants = subst (AllByRecursion (λ (entry : Since (List GrantRow)). entry.version ≤ base.number + vec_len c.new.result)) (sym c.in_ok-grants.ensures) (omega (arith, number), tt);
      spare = c.new-2.ensures.items;
      fresh = rw c.new-3.ensures.items tt;
      room = λ keys none. cc;
      index = λ on. cc;
    }

pub returns : goal.returns
returns c =
    let base = c.args.base.now in
    let grants = c.in_ok-grants.grants in
    let histories = c.in_ok-histories.histories in
    let are : AreHistoriesOf base.number base.rows histories.items = subst (λ rows. AreHistoriesOf base.number rows histories.items) c.as_slice.ensures.changes c.in_ok-histories.ensures in
    ap (λ (ms : List ℤ). record { versions = versions_at base.number (base.moment ∷ ms) (pasts_of histories.items) grants.items; room = None }) c.new.ensures.items
    ∙ ap (λ (v : BaseVersion). record { versions = v ∷ []; room = None }) (base_is base histories.items grants.items are c.in_ok-grants.ensures)
