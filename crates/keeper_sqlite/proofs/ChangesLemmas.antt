-- The changes that a store tells, one place after another.
use Rattle.std.proofs.Common.{◌≡◌, ◌+◌, ◌<◌, ◌≤◌, ℕ, zero, suc, pos, List, [], ◌∷◌, ◌++◌, None, Some, get_or, length}
use Rattle.std.proofs.Common.{take, sym, ap, ◌∙◌, inl, inr, arith}
use Rattle.std.proofs.lemmas.Bool.{cases_lt}
use Rattle.std.proofs.lemmas.List.{take_all, take_more}
use Rattle.item_maps.specs.Items.{Items}
use Rattle.version_core.proofs.HistoryLemmas.{all_at}
use Rattle.version_core.specs.Table.{LeadOn}
use Rattle.version_core.specs.declared.change.Change.{Change}
use Rattle.version_core.specs.declared.hub_tables.HubTables.{HubTables}
use Rattle.hub_format.specs.Format.{FitsChange, items_of, listed_of, own_grants, own_version}
use Rattle.hub_format.specs.Pieces.{number}
use Rattle.hub_format.proofs.TableListings.{IsToldBy, changes_told, newest_from, none_told}
use Rattle.keeper_sqlite.proofs.HubKeepingLemmas.{listed_alike}
use Rattle.keeper_sqlite.specs.hub.Rows.{HasChanges}
use Rattle.hub_format.specs.Areas.{grants_area, versions_area}

version_at : (n : ℕ) (changes : List Change) (k : ℕ) (d : Change) → LeadOn n changes → k < length changes → (get_or changes k d).version ≡ n + 1 + k
version_at n [] k d lead lt = absurd (omega arith)
version_at n (change ∷ changes) zero d lead lt = let next = lead.0 in omega (arith, next)
version_at n (change ∷ changes) (suc k) d lead lt =
    let rest = version_at change.version changes k d lead.1 (omega arith) in
    let next = lead.0 in
    omega (arith, rest, next)

newest_is : (n : ℕ) (changes : List Change) → LeadOn n changes → newest_from n changes ≡ n + length changes
newest_is n [] lead = omega arith
newest_is n (change ∷ changes) lead =
    let rest = newest_is change.version changes lead.1 in
    let next = lead.0 in
    omega (arith, rest, next)

abbrev no_change : Change
no_change = record { version = 0; moment = pos 0; rows = []; grants = None }

-- the change that is stored at a place
pub record IsStored (tell : Items → Change → Type 0) (m : Items) (t : HubTables) (k version : ℕ) : Type 0 where
  pub change : Change
  pub more : take (k + 1) t.changes ≡ take k t.changes ++ change ∷ []
  pub fits : FitsChange change
  pub number : version ≡ change.version
  pub own : listed_of versions_area version m ≡ own_version change
  pub rows : tell m change
  pub grants : listed_of grants_area version m ≡ own_grants change

module _ (stand : Items → Type 0) (tell : Items → Change → Type 0) (t : HubTables) (has : HasChanges stand tell t) where
  abbrev m : Items
  m = has.tables.items

  alike : (version : ℕ) → listed_of versions_area version m ≡ listed_of versions_area version (items_of t)
  alike version = listed_alike versions_area (number version) (number (version + 1)) m (items_of t) has.tables.versions

  grants_alike : (version : ℕ) → listed_of grants_area version m ≡ listed_of grants_area version (items_of t)
  grants_alike version = listed_alike grants_area (number version) (number (version + 1)) m (items_of t) has.tables.grants

  stored_at : (k version : ℕ) → version ≡ t.base.number + 1 + k → k < length t.changes → IsStored tell m t k version
  stored_at k version is lt =
      let change = get_or t.changes k no_change in
      let told : IsToldBy (items_of t) change = all_at (IsToldBy (items_of t)) t.changes k no_change (changes_told t has.tables.are has.tables.fit) lt in
      let same : version ≡ change.version = is ∙ sym (version_at t.base.number t.changes k no_change has.tables.are.lead lt) in
      record {
        change = change;
        more = take_more t.changes k no_change lt;
        fits = all_at FitsChange t.changes k no_change has.tables.fit.changes lt;
        number = same;
        own = alike version ∙ ap (λ v. listed_of versions_area v (items_of t)) same ∙ told.version;
        rows = all_at (tell m) t.changes k no_change has.rows lt;
        grants = grants_alike version ∙ ap (λ v. listed_of grants_area v (items_of t)) same ∙ told.grants;
      }

  -- and none behind the last
  none_at : (k version : ℕ) → version ≡ t.base.number + 1 + k → k ≡ length t.changes → listed_of versions_area version m ≡ []
  none_at k version is last =
      let newest = newest_is t.base.number t.changes has.tables.are.lead in
      let same : version ≡ newest_from t.base.number t.changes + 1 = omega (arith, newest, is, last) in
      alike version ∙ ap (λ v. listed_of versions_area v (items_of t)) same ∙ none_told t has.tables.are has.tables.fit

  pub found_more : (base k : ℕ) (found new : List Change) (change : Change) → base ≡ t.base.number → (found ≡ take k t.changes) × (k ≤ length t.changes) → new ≡ found ++ change ∷ []
      → ((here : IsStored tell m t k (base + 1 + k)) → Some change ≡ Some here.change) → (listed_of versions_area (base + 1 + k) m ≡ [] → Some change ≡ None) → (new ≡ take (k + 1) t.changes) × (k + 1 ≤ length t.changes)
  found_more base k found new change bases so_far is some none =
      let le = so_far.1 in
      elim (cases_lt k (length t.changes)) [
        | inl lt ↦
            let here = stored_at k (base + 1 + k) (omega (arith, bases)) lt in
            let same : change ≡ here.change = let told = some here in cc in
            (is ∙ (λ i. so_far.0 i ++ same i ∷ []) ∙ sym here.more, omega (arith, lt))
        | inr ge ↦ absurd (let told = none (none_at k (base + 1 + k) (omega (arith, bases)) (omega (arith, ge, le))) in cc)
      ]

  -- where none is stored at a place, all are found before it
  pub found_all : (base k : ℕ) (found : List Change) → base ≡ t.base.number → (found ≡ take k t.changes) × (k ≤ length t.changes) → ((here : IsStored tell m t k (base + 1 + k)) → None ≡ Some here.change) → found ≡ t.changes
  found_all base k found bases so_far none = elim (cases_lt k (length t.changes)) [
    | inl lt ↦ absurd (let told = none (stored_at k (base + 1 + k) (omega (arith, bases)) lt) in cc)
    | inr ge ↦ so_far.0 ∙ take_all k t.changes (omega (arith, ge))
  ]

  -- no more are stored than are kept
  pub found_kept : (keep k : ℕ) (found : List Change) → keep ≡ t.keep → (found ≡ take k t.changes) × (k ≤ length t.changes) → keep ≤ k → found ≡ t.changes
  found_kept keep k found keeps so_far le = let oldest = has.tables.are.oldest in so_far.0 ∙ take_all k t.changes (omega (arith, oldest, keeps, le))
