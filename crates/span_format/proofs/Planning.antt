-- Which change goes into the base.
use Rattle.std.proofs.Common.{◌≡◌, ◌+◌, ◌-◌, ℕ, List, [], ◌∷◌, ◌++◌, true, false, length, length-append, refl, sym, ap}
use Rattle.std.proofs.Common.{subst, ◌∙◌, arith}
use Rattle.std.specs.Prelude.{nat_lt}
use Rattle.keeper_memory.specs.Commits.{CanLead}
use Rattle.version_core.specs.Table.{LeadOn}
use Rattle.version_core.specs.Tables.{AreTables}
use Rattle.version_core.specs.Version.{versions_from}
use Rattle.version_core.specs.declared.change.BaseVersion.{BaseVersion}
use Rattle.version_core.specs.declared.change.Change.{Change}
use Rattle.version_core.specs.declared.hub_tables.HubTables.{HubTables}
use Rattle.hub_format.proofs.Planning.{so_many}
use Rattle.span_format.specs.Edits.{folded, let_go}

all_changes : (t : HubTables) (change : Change) (base : ℕ) → AreTables t → base ≡ t.base.number → CanLead (versions_from t.base t.changes) change → length (t.changes ++ change ∷ []) ≡ change.version - base
all_changes t change base are bases can =
    let many = so_many t change are can in
    let long = length-append t.changes (change ∷ []) in
    omega (arith, many, long, bases)

-- the first of all changes goes
goes_first : (keep : ℕ) (base : BaseVersion) (oldest : Change) (rest : List Change) → nat_lt keep (length (oldest ∷ rest)) ≡ true → let_go keep base (oldest ∷ rest) ≡ folded keep base oldest
goes_first keep base oldest rest above = rw above refl

pub goes_none : (t : HubTables) (change : Change) (keep base : ℕ) → AreTables t → base ≡ t.base.number → nat_lt keep (change.version - base) ≡ false → CanLead (versions_from t.base t.changes) change
    → let_go keep t.base (t.changes ++ change ∷ []) ≡ []
goes_none t change keep base are bases within can = go (t.changes ++ change ∷ []) (ap (nat_lt keep) (all_changes t change base are bases can) ∙ within)
  where
    go : (all : List Change) → nat_lt keep (length all) ≡ false → let_go keep t.base all ≡ []
    go [] within = refl
    go (oldest ∷ rest) within = rw within refl

pub goes_new : (t : HubTables) (change : Change) (keep base : ℕ) → AreTables t → base ≡ t.base.number → nat_lt keep (change.version - base) ≡ true → CanLead (versions_from t.base t.changes) change → change.version ≡ base + 1
    → let_go keep t.base (t.changes ++ change ∷ []) ≡ folded keep t.base change
goes_new t change keep base are bases above can next = go t.changes refl
  where
    go : (changes : List Change) → t.changes ≡ changes → let_go keep t.base (changes ++ change ∷ []) ≡ folded keep t.base change
    go [] is = let one : 1 ≡ change.version - base = omega (arith, next) in goes_first keep t.base change [] (ap (nat_lt keep) one ∙ above)
    go (oldest ∷ rest) is = absurd (let many = so_many t change are can in let long = ap length is in omega (arith, many, long, bases, next))

pub goes_stored : (t : HubTables) (change : Change) (keep base : ℕ) → AreTables t → base ≡ t.base.number → nat_lt keep (change.version - base) ≡ true → CanLead (versions_from t.base t.changes) change → (change.version ≡ base + 1 → ⊥)
    → (first : Change) × (rest : List Change) × (t.changes ≡ first ∷ rest) × (first.version ≡ base + 1) × (let_go keep t.base (t.changes ++ change ∷ []) ≡ folded keep t.base first)
goes_stored t change keep base are bases above can apart = go t.changes refl
  where
    go : (changes : List Change) → t.changes ≡ changes → (first : Change) × (rest : List Change) × (t.changes ≡ first ∷ rest) × (first.version ≡ base + 1) × (let_go keep t.base (changes ++ change ∷ []) ≡ folded keep t.base first)
    go [] is = absurd (apart (let many = so_many t change are can in let long = ap length is in omega (arith, many, long, bases)))
    go (first ∷ rest) is =
        let lead = subst (LeadOn t.base.number) is are.lead in
        let long : length (first ∷ rest ++ change ∷ []) ≡ change.version - base = sym (ap (λ changes. length (changes ++ change ∷ [])) is) ∙ all_changes t change base are bases can in
        (first, rest, is, lead.0 ∙ ap (λ n. n + 1) (sym bases), goes_first keep t.base first (rest ++ change ∷ []) (ap (nat_lt keep) long ∙ above))
