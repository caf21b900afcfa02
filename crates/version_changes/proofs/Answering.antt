-- What a set makes of a version, by what is found of it.
use Rattle.std.proofs.Common.{◌≡◌, ℕ, ℤ, ◌+◌, List, [], Option, Some, None, inl, refl, ap, ◌∙◌}
use Rattle.std.specs.Option.{option_or}
use Rattle.reference_rules.specs.Faults.{faults_of}
use Rattle.roster_types.specs.Sets.{SetRecord}
use Rattle.roster_values.specs.Kinds.{all_kinds}
use Rattle.version_changes.proofs.Outcomes.{ChangesOf, are_new, makes_next, makes_no_more, makes_nothing, makes_on}
use Rattle.version_changes.specs.sets.Applying.{Applies, Leads, LeadsOn, Refuses, Unchanged, owned_by_other, refusal_of}
use Rattle.version_changes.specs.sets.Applying.{rows_in, too_many, unsound}
use Rattle.version_changes.specs.declared.sets.publish_fault.PublishFault.{PublishFault}
use Rattle.version_changes.specs.declared.sets.publish_fault.PublishFault.TheVariants.{LastVersion}
use Rattle.version_core.specs.Changes.{AreChanges, change_key, rows_of}
use Rattle.version_core.specs.Order.{overlaid}
use Rattle.version_core.specs.Version.{IsVersion, after, last_version}
use Rattle.version_core.specs.declared.change.BaseVersion.{BaseVersion}
use Rattle.version_core.specs.declared.change.Change.{Change}
use Rattle.version_core.specs.declared.row_change.RowChange.{RowChange}

first_none : (o p : Option PublishFault) → option_or o p ≡ None → o ≡ None
first_none None p e = refl
first_none (Some fault) p e = cc

module _ (set : SetRecord) (at : ℤ) (version : BaseVersion) (is : IsVersion version) (changes : List RowChange) (each : ChangesOf set at version.rows changes) where
  abbrev new : List RowChange
  new = overlaid change_key version.rows changes

  abbrev other : Option PublishFault
  other = owned_by_other set.feed version.rows (rows_in set)

  abbrev of_rows : Option PublishFault
  of_rows = option_or (too_many (rows_of new) all_kinds) (unsound (faults_of (rows_of new)))

  pub refused_for_owner : (fault : PublishFault) → other ≡ Some fault → Applies version set at (Refuses fault)
  refused_for_owner fault told = (new, are_new set at version.rows changes is.rows each, inl (ap (λ o. option_or o of_rows) told))

  module _ (own : other ≡ None) where
    pub refused_for_rows : (fault : PublishFault) → of_rows ≡ Some fault → Applies version set at (Refuses fault)
    refused_for_rows fault told = (new, are_new set at version.rows changes is.rows each, inl (ap (λ o. option_or o of_rows) own ∙ told))

    module _ (good : of_rows ≡ None) where
      passes : refusal_of set version.rows new ≡ None
      passes = ap (λ o. option_or o of_rows) own ∙ good

      pub unchanged : changes ≡ [] → Applies version set at Unchanged
      unchanged none = (new, are_new set at version.rows changes is.rows each, makes_nothing set at version is changes each (refusal_of set version.rows new) passes none)

      module _ (some : changes ≡ [] → ⊥) where
        pub refused_at_last : version.number ≡ last_version → Applies version set at (Refuses LastVersion)
        refused_at_last last = (new, are_new set at version.rows changes is.rows each, makes_no_more set at version is changes each (refusal_of set version.rows new) passes some last)

        module _ (more : version.number ≡ last_version → ⊥) (n : ℕ) (next : n ≡ version.number + 1) where
          abbrev change : Change
          change = record { version = n; moment = at; rows = changes; grants = None }

          pub leads : Applies version set at (Leads (after version change))
          leads = (new, are_new set at version.rows changes is.rows each, makes_next set at version is changes each (refusal_of set version.rows new) passes some more n next)

          pub leads_on : AreChanges changes → LeadsOn version change
          leads_on up = makes_on set at version is changes each (first_none (too_many (rows_of new) all_kinds) (unsound (faults_of (rows_of new))) good) more n next up
