-- What held rows make of a version, by what the set that lists them changes; and that it is one thing.
use Rattle.std.proofs.Common.{◌≡◌, ℕ, ℤ, ◌+◌, ◌&&◌, cond, List, [], ◌∷◌, Option, None, Some, inl, map, option_map, refl}
use Rattle.std.proofs.Common.{sym, ap, subst, ◌∙◌}
use Rattle.std.specs.List.{AllByRecursion}
use Rattle.std.specs.Option.{option_or}
use Rattle.hub_cascade.specs.Cascading.{AreCascaded, Cascades, cascaded, fault_of_owner, owned_by_other, refusal_of}
use Rattle.hub_cascade.specs.Cascading.{unheld}
use Rattle.hub_cascade.specs.Steps.{LeadsWith, ListsAll, dated}
use Rattle.roster_types.specs.Keys.{Key, look_up, row_key}
use Rattle.roster_types.specs.Records.{Record}
use Rattle.roster_types.specs.Sets.{SetRecord}
use Rattle.roster_values.specs.Kinds.{all_kinds}
use Rattle.version_changes.proofs.Outcomes.{ChangesOf, makes_next, makes_no_more, makes_nothing, makes_on, one_made}
use Rattle.version_changes.specs.declared.sets.publish_fault.PublishFault.{PublishFault}
use Rattle.version_changes.specs.declared.sets.publish_fault.PublishFault.TheVariants.{LastVersion}
use Rattle.version_changes.specs.sets.Applying.{Becomes, Leads, Makes, Outcome, Refuses, Unchanged, is_active, is_own}
use Rattle.version_changes.specs.sets.Applying.{marked, owned_by, rows_in, set_key, too_many, unlisted}
use Rattle.version_changes.specs.sets.Applying as applying
use Rattle.version_changes.specs.sets.Steps.{ChangesAt}
use Rattle.version_core.proofs.LookUps.{look_up-map}
use Rattle.version_core.proofs.OrderLemmas.{Ascends-overlaid, look_up-overlaid, same_from_look_up}
use Rattle.version_core.specs.Changes.{AreChanges, change_key, rows_of}
use Rattle.version_core.specs.Order.{overlaid}
use Rattle.version_core.specs.Version.{IsVersion, after, last_version}
use Rattle.version_core.specs.declared.change.BaseVersion.{BaseVersion}
use Rattle.version_core.specs.declared.row_change.RowChange.{RowChange}

-- ---- a set that lists all held rows makes of a version what they do

keep_keys : (rows : List Record) → AllByRecursion (λ (row : Record). set_key (dated row) ≡ row_key row) rows
keep_keys [] = tt
keep_keys (row ∷ rows) = (refl, keep_keys rows)

module _ (feed : List ℕ) (held : List Record) (set : SetRecord) (lists : ListsAll feed held set) (at : ℤ) where
  listed_at : (k : Key) → look_up set_key k (rows_in set) ≡ option_map dated (look_up row_key k held)
  listed_at k = ap (look_up set_key k) lists.rows ∙ look_up-map row_key set_key dated k held (keep_keys held)

  unlisted_is : (stored : RowChange) → unlisted set at stored ≡ unheld feed at stored
  unlisted_is stored =
      λ i. cond (lists.whole stored.row.kind i && (is_own (lists.by i) stored.owner && is_active stored.row.status)) (marked at stored) stored

  becomes : (h : Option Record) (stored new : Option RowChange) → Becomes set at (option_map dated h) stored new → new ≡ cascaded feed at h stored
  becomes None None new is = is
  becomes None (Some stored) new is = is ∙ ap (λ c. Some c) (unlisted_is stored)
  becomes (Some row) stored (Some new) is = ap (λ c. Some c) (is ∙ ap (λ f. owned_by f row) lists.by)
  becomes (Some row) stored None is = absurd is

  changes : (h : Option Record) (stored change : Option RowChange) → ChangesAt set at (option_map dated h) stored change → option_or change stored ≡ cascaded feed at h stored
  changes h stored None is = becomes h stored stored is
  changes h stored (Some change) is = becomes h stored (Some change) is.0

  are_cascaded : (rows those : List RowChange) → AreChanges rows → ChangesOf set at rows those → AreCascaded feed at held rows (overlaid change_key rows those)
  are_cascaded rows those up each = record {
    order = Ascends-overlaid change_key rows those up;
    entries = λ k.
        look_up-overlaid change_key k rows those
        ∙ changes (look_up row_key k held) (look_up change_key k rows) (look_up change_key k those) (subst (λ l. ChangesAt set at l (look_up change_key k rows) (look_up change_key k those)) (listed_at k) (each k));
  }

  fault_is : (row : Record) (stored : Option RowChange) → applying.fault_of_owner feed (dated row) stored ≡ fault_of_owner feed row stored
  fault_is row None = refl
  fault_is row (Some stored) = refl

  others_are : (rows : List RowChange) (those : List Record) → applying.owned_by_other feed rows (map dated those) ≡ owned_by_other feed rows those
  others_are rows [] = refl
  others_are rows (row ∷ later) = λ i. option_or (fault_is row (look_up change_key (row_key row) rows) i) (others_are rows later i)

  other_is : (rows : List RowChange) → applying.owned_by_other set.feed rows (rows_in set) ≡ owned_by_other feed rows held
  other_is rows = (λ i. applying.owned_by_other (lists.by i) rows (lists.rows i)) ∙ others_are rows held

-- ---- what is made of a version, where the set changes these rows

module _ (set : SetRecord) (at : ℤ) (version : BaseVersion) (is : IsVersion version) (changes : List RowChange) (each : ChangesOf set at version.rows changes) where
  abbrev new : List RowChange
  new = overlaid change_key version.rows changes

  abbrev other : Option PublishFault
  other = applying.owned_by_other set.feed version.rows (rows_in set)

  abbrev many : Option PublishFault
  many = too_many (rows_of new) all_kinds

  module _ (feed : List ℕ) (held : List Record) (lists : ListsAll feed held set) where
    new_are : AreCascaded feed at held version.rows new
    new_are = are_cascaded feed held set lists at version.rows changes is.rows each

    own_is : other ≡ owned_by_other feed version.rows held
    own_is = other_is feed held set lists at version.rows

    pub refused_for_owner : (fault : PublishFault) → other ≡ Some fault → Cascades version feed held at (Refuses fault)
    refused_for_owner fault told = (new, new_are, inl (ap (λ o. option_or o many) (sym own_is ∙ told)))

    module _ (own : other ≡ None) where
      pub refused_for_rows : (fault : PublishFault) → many ≡ Some fault → Cascades version feed held at (Refuses fault)
      refused_for_rows fault told = (new, new_are, inl (ap (λ o. option_or o many) (sym own_is ∙ own) ∙ told))

      module _ (good : many ≡ None) where
        passes : refusal_of feed held version.rows new ≡ None
        passes = ap (λ o. option_or o many) (sym own_is ∙ own) ∙ good

        pub unchanged : changes ≡ [] → Cascades version feed held at Unchanged
        unchanged none = (new, new_are, makes_nothing set at version is changes each (refusal_of feed held version.rows new) passes none)

        module _ (some : changes ≡ [] → ⊥) where
          pub refused_at_last : version.number ≡ last_version → Cascades version feed held at (Refuses LastVersion)
          refused_at_last last = (new, new_are, makes_no_more set at version is changes each (refusal_of feed held version.rows new) passes some last)

          pub leads : (version.number ≡ last_version → ⊥) → (n : ℕ) → n ≡ version.number + 1 → Cascades version feed held at (Leads (after version (record { version = n; moment = at; rows = changes; grants = None })))
          leads more n next = (new, new_are, makes_next set at version is changes each (refusal_of feed held version.rows new) passes some more n next)

  pub leads_with : many ≡ None → (version.number ≡ last_version → ⊥) → (n : ℕ) → n ≡ version.number + 1 → AreChanges changes → LeadsWith version (record { version = n; moment = at; rows = changes; grants = None })
  leads_with good more n next up = record { on = makes_on set at version is changes each good more n next up; grants = refl }

-- ---- held rows make one outcome

module _ (version : BaseVersion) (feed : List ℕ) (held : List Record) (at : ℤ) where
  one_list : (new other : List RowChange) → AreCascaded feed at held version.rows new → AreCascaded feed at held version.rows other → new ≡ other
  one_list new other are are' = same_from_look_up change_key new other are.order are'.order (λ k. are.entries k ∙ sym (are'.entries k))

  pub one_outcome : (one other : Outcome) → Cascades version feed held at one → Cascades version feed held at other → one ≡ other
  one_outcome one other is is' =
      let same : is.0 ≡ is'.0 = one_list is.0 is'.0 is.1 is'.1 in
      one_made at version (refusal_of feed held version.rows is'.0) is'.0 one other (subst (λ new. Makes version at (refusal_of feed held version.rows new) new one) same is.2) is'.2
