-- Changes that were tested one after another.
use Rattle.std.proofs.Common.{◌≡◌, ◌+◌, ◌<◌, ◌≤◌, ℕ, List, ◌∷◌, drop, get_or, length, refl, sym, subst}
use Rattle.std.proofs.lemmas.List.{drop_all}
use Rattle.version_core.specs.Table.{LeadOn}
use Rattle.version_core.specs.declared.change.Change.{Change}
use Rattle.version_changes.proofs.AdjacentLemmas.{drop_more}

-- where the changes so far lead on and the next does
pub leads_more : (number last : ℕ) (changes : List Change) (k : ℕ) (change : Change) → (LeadOn last (drop k changes) → LeadOn number changes) → k < length changes → change ≡ get_or changes k change
    → change.version ≡ last + 1 → LeadOn change.version (drop (k + 1) changes) → LeadOn number changes
leads_more number last changes k change so_far lt is next rest =
    let split : drop k changes ≡ change ∷ drop (k + 1) changes = rw (drop_more changes k change lt, ← is) refl in
    so_far (subst (LeadOn last) (sym split) (next, rest))

pub leads_all : (number last : ℕ) (changes : List Change) (k : ℕ) → (LeadOn last (drop k changes) → LeadOn number changes) → length changes ≤ k → LeadOn number changes
leads_all number last changes k so_far le = so_far (subst (LeadOn last) (sym (drop_all k changes le)) tt)
