-- The texts that stood in earlier records.
use Rattle.std.specs.Prelude.{◌≡◌, ◌||◌, ℕ, List, Result, Ok, Err, String, bytes_eq, map, take}
use Rattle.std.specs.BTreeSet.{BTreeSet, contains_text}
use Rattle.std.specs.declared.alloc.Global.{Global}
use Rattle.grant_files.specs.declared.known.Known.{Known}
use Rattle.grant_files.specs.declared.fault.GrantFault.{GrantFault}
use Rattle.grant_files.specs.Grants.{stands_in}
use Rattle.grant_scopes.specs.declared.entry.GrantEntry.{GrantEntry}
use Rattle.grant_scopes.specs.Entries.{entry_caller, entry_token, grant_limit}
use Rattle.roster_base.specs.Reading.{Fails}
use Rattle.roster_base.specs.declared.refusal.Refusal.{Refusal}

-- a set of texts got this one too
abbrev pub Notes : BTreeSet (String Global) → BTreeSet (String Global) → List ℕ → Type 0
Notes old new text = (q : List ℕ) → contains_text new q ≡ (bytes_eq text q || contains_text old q)

-- a set holds these texts and no others
abbrev pub HoldsTexts : BTreeSet (String Global) → List (List ℕ) → Type 0
HoldsTexts set texts = (q : List ℕ) → contains_text set q ≡ stands_in q texts

-- the callers and the tokens of these grants are known, and no others
pub record Knows (known : Known) (entries : List GrantEntry) : Type 0 where
  pub callers : HoldsTexts known.callers (map entry_caller entries)
  pub tokens : HoldsTexts known.tokens (map entry_token entries)

-- what is known and kept of the grants so far: no more are kept than a file may ask for
pub record Stands (known : Known) (kept front : List GrantEntry) : Type 0 where
  pub knows : Knows known front
  pub taken : kept ≡ take grant_limit front

-- `Stands` holds again behind one more record, unless that record is refused
abbrev pub Adds : {X : Type 0} → Result X (Refusal GrantFault) → Result (List GrantEntry) GrantFault → Known
    → List GrantEntry → Type 0
Adds (Ok x) meaning known kept = (more : List GrantEntry) × (meaning ≡ Ok more) × Stands known kept more
Adds (Err e) meaning known kept = Fails e meaning
