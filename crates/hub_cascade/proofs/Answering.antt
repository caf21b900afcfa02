-- The errors of a cascade, by those of the calls that it makes.
use Rattle.std.proofs.Common.{◌≡◌, ℕ, Bool, true, false, Option, None, Some, Ok, Err, Result, ap, refl}
use Rattle.std.specs.Prelude.{is_some}
use Rattle.hub_cascade.specs.Answers.{CountsCopy, CountsHub, LeavesOpen, MakesCascade, TellsHeld, answer_of}
use Rattle.hub_cascade.specs.Answers.{error_of_copy}
use Rattle.hub_cascade.specs.Held.{HoldNothing, HoldSomething}
use Rattle.hub_cascade.specs.Steps.{ReadsHeld}
use Rattle.hub_cascade.specs.declared.error.CascadeError.{CascadeError}
use Rattle.hub_cascade.specs.declared.error.CascadeError.TheVariants as error
use Rattle.hub_core.specs.Steps.{CountsFault, MakesNext}
use Rattle.hub_core.specs.Steps as steps
use Rattle.hub_core.specs.declared.hub_error.HubError.{HubError}
use Rattle.hub_core.specs.declared.hub_error.HubError.TheVariants as hub_error
use Rattle.hub_core.specs.declared.published.Published.{Published}
use Rattle.keeper_memory.specs.Kept.{KeptState}
use Rattle.keeper_memory.specs.copy.Copies.{Copy, Held}
use Rattle.roster_base.specs.Faults.{CountsError}
use Rattle.roster_base.specs.declared.keeper.KeeperError.{KeeperError}
use Rattle.roster_base.specs.declared.keeper.KeeperError.TheVariants as keeper
use Rattle.version_changes.specs.sets.Applying.{Outcome}
use Rattle.version_core.specs.declared.change.BaseVersion.{BaseVersion}

-- ---- of a copy that wasn't read

pub copy_makes : (asks : BaseVersion → Outcome → Type 0) (copies : Copy → Type 0) (before now : ℕ) (e : CascadeError) (state : KeptState) → ReadsHeld copies before now (Err e) → MakesCascade asks (Err e) state state
copy_makes asks copies before now error.HubKeeper state reads = absurd reads
copy_makes asks copies before now (error.Refused fault) state reads = absurd reads
copy_makes asks copies before now other state reads = refl

pub copy_tells : (copies : Copy → Type 0) (before now : ℕ) (e : CascadeError) → ReadsHeld copies before now (Err e) → TellsHeld copies (Err e)
copy_tells copies before now error.CopyKeeper reads = tt
copy_tells copies before now error.NoMemory reads = tt
copy_tells copies before now error.NothingHeld reads = reads.0
copy_tells copies before now error.HubKeeper reads = absurd reads
copy_tells copies before now (error.Refused fault) reads = absurd reads

pub copy_leaves : (copies : Copy → Type 0) (before now : ℕ) (e : CascadeError) (commit_open : Bool) → ReadsHeld copies before now (Err e) → LeavesOpen (Err e) commit_open
copy_leaves copies before now error.HubKeeper commit_open reads = absurd reads
copy_leaves copies before now (error.Refused fault) commit_open reads = absurd reads
copy_leaves copies before now other commit_open reads = tt

pub copy_counts : (copies : Copy → Type 0) (before now : ℕ) (e : CascadeError) → ReadsHeld copies before now (Err e) → CountsCopy before now (Err e)
copy_counts copies before now error.CopyKeeper reads = reads
copy_counts copies before now error.NoMemory reads = reads
copy_counts copies before now error.NothingHeld reads = reads.1
copy_counts copies before now error.HubKeeper reads = absurd reads
copy_counts copies before now (error.Refused fault) reads = absurd reads

pub copy_alone : (copies : Copy → Type 0) (before now : ℕ) (e : CascadeError) (count : ℕ) → ReadsHeld copies before now (Err e) → CountsHub count count (Err e)
copy_alone copies before now error.HubKeeper count reads = absurd reads
copy_alone copies before now (error.Refused fault) count reads = absurd reads
copy_alone copies before now other count reads = refl

pub keeper_reads : (copies : Copy → Type 0) (before now : ℕ) (e : KeeperError) → CountsError before now e → ReadsHeld copies before now (Err (error_of_copy e))
keeper_reads copies before now keeper.Failed counts = counts
keeper_reads copies before now keeper.NoMemory counts = counts

none_held : (held : Option Held) → is_some held ≡ false → held ≡ None
none_held None is = refl
none_held (Some h) is = cc

pub hold_nothing : (copies : Copy → Type 0) → ((copy : Copy) → copies copy → is_some copy.held ≡ false) → HoldNothing copies
hold_nothing copies are copy stands = none_held copy.held (are copy stands)

pub hold_something : (copies : Copy → Type 0) → ((copy : Copy) → copies copy → is_some copy.held ≡ true) → HoldSomething copies
hold_something copies are copy stands none = let here = are copy stands in let no : is_some copy.held ≡ false = ap (λ (o : Option Held). is_some o) none in cc

-- ---- of the hub's calls

pub answer_makes : (asks : BaseVersion → Outcome → Type 0) (made : Result Published HubError) (before after : KeptState) → MakesNext asks made before after → MakesCascade asks (answer_of made) before after
answer_makes asks (Ok published) before after makes = makes
answer_makes asks (Err hub_error.Keeper) before after makes = makes
answer_makes asks (Err hub_error.NoMemory) before after makes = makes
answer_makes asks (Err (hub_error.Refused fault)) before after makes = makes

pub answer_tells : (copies : Copy → Type 0) (made : Result Published HubError) → HoldSomething copies → TellsHeld copies (answer_of made)
answer_tells copies (Ok published) some = some
answer_tells copies (Err hub_error.Keeper) some = some
answer_tells copies (Err hub_error.NoMemory) some = tt
answer_tells copies (Err (hub_error.Refused fault)) some = some

pub answer_leaves : (made : Result Published HubError) (commit_open : Bool) → steps.LeavesOpen made commit_open → LeavesOpen (answer_of made) commit_open
answer_leaves (Ok published) commit_open leaves = leaves
answer_leaves (Err hub_error.Keeper) commit_open leaves = leaves
answer_leaves (Err hub_error.NoMemory) commit_open leaves = tt
answer_leaves (Err (hub_error.Refused fault)) commit_open leaves = leaves

pub answer_counts : (made : Result Published HubError) (before now : ℕ) → CountsFault before now made → CountsHub before now (answer_of made)
answer_counts (Ok published) before now counts = counts
answer_counts (Err hub_error.Keeper) before now counts = counts
answer_counts (Err hub_error.NoMemory) before now counts = counts
answer_counts (Err (hub_error.Refused fault)) before now counts = counts

pub answer_alone : (made : Result Published HubError) (before now : ℕ) → now ≡ before → CountsCopy before now (answer_of made)
answer_alone (Ok published) before now same = same
answer_alone (Err hub_error.Keeper) before now same = same
answer_alone (Err hub_error.NoMemory) before now same = same
answer_alone (Err (hub_error.Refused fault)) before now same = same
