-- When a change may be made of a copy, and what it makes of it.
use Rattle.std.specs.Prelude.{◌≡◌, ◌<◌, ◌≤◌, ◌⊎◌, ℕ, ◌+◌, ◌++◌, Bool, true, false, List, [], ◌∷◌, Option, Some, None}
use Rattle.std.specs.Prelude.{Result, Ok, Err, is_none, if◌then◌else◌, option_map, IsSomeAnd, ⊤}
use Rattle.std.specs.List.{All}
use Rattle.roster_base.specs.declared.keeper.KeeperError.{KeeperError}
use Rattle.roster_base.specs.declared.keeper.KeeperError.TheVariants.{Failed, NoMemory}
use Rattle.roster_types.specs.Records.{Record}
use Rattle.roster_values.specs.declared.kind.Kind.{Kind}
use Rattle.roster_values.specs.Kinds.{place_of_kind}
use Rattle.keeper_memory.specs.declared.copy.change.CopyChange.{CopyChange}
use Rattle.keeper_memory.specs.declared.copy.change.CopyChange.TheVariants.{Run, Begin, Page, Drop, Swap, Enter, Settle}
use Rattle.keeper_memory.specs.declared.copy.entry.OutEntry.{OutEntry}
use Rattle.keeper_memory.specs.declared.copy.entry.Settled.{Settled}
use Rattle.keeper_memory.specs.declared.copy.state.StageState.{StageState}
use Rattle.keeper_memory.specs.declared.copy.state.TheConstants.{LAST}
use Rattle.keeper_memory.specs.copy.Copies.{Copy, Held, IsOutWrite, Stage, first_unsettled}
use Rattle.keeper_memory.specs.copy.Lists.{ascends, kind_count}
use Rattle.keeper_memory.specs.copy.States.{stage_of}

-- ---- when

-- a page may be added to the stage: rows of the next kind, with ids above those that are there
abbrev pub CanPage : Kind → List Record → Option StageState → Type 0
CanPage kind rows None = ⊥
CanPage kind rows (Some s) = (place_of_kind kind ≡ s.kinds_done) × All (λ row. row.kind ≡ kind) rows × (ascends s.last rows ≡ true)

-- there is a stage, and all its kinds are done
abbrev pub AllDone : Option StageState → Type 0
AllDone None = ⊥
AllDone (Some s) = s.kinds_done ≡ kind_count

-- the change may be made of the copy
abbrev pub CanChange : CopyChange → Copy → Type 0
CanChange (Run run) c = (c.run < run) × (run ≤ LAST)
CanChange (Begin pin token) c = (c.stage ≡ None) × (pin ≤ LAST)
CanChange (Page kind rows total done) c = CanPage kind rows (stage_of c)
CanChange Drop c = ⊤
CanChange Swap c = AllDone (stage_of c)
CanChange (Enter number write) c = (number ≡ c.last_number + 1) × (number ≤ LAST) × IsOutWrite write
CanChange (Settle number status version) c = IsSomeAnd (first_unsettled c.entries) (λ entry. entry.number ≡ number)

-- ---- what

-- a stage that was begun just now: no kind is done, and no row is there
abbrev pub begun : ℕ → List ℕ → Stage
begun pin token = record { pin = pin; token = token; done = []; present = []; total = None }

-- the stage with more rows of the next kind, which is done with them or not
abbrev pub stage_after : Stage → List Record → ℕ → Bool → Stage
stage_after s rows total true = record { pin = s.pin; token = s.token; done = s.done ++ (s.present ++ rows) ∷ []; present = []; total = None }
stage_after s rows total false = record { pin = s.pin; token = s.token; done = s.done; present = s.present ++ rows; total = Some total }

-- what a stage holds, under its token, once all its kinds are done
abbrev pub held_of : Stage → Held
held_of s = record { version = s.pin; token = Some s.token; lists = s.done }

-- the copy with its stage in the place of what is held
abbrev pub swapped : Copy → Option Stage → Copy
swapped c None = c
swapped c (Some s) = record c { held = Some (held_of s); stage = None }

-- the first entry that isn't settled becomes so
abbrev pub settled_first : Settled → List OutEntry → List OutEntry
settled_first settled [] = []
settled_first settled (entry ∷ entries) =
    if is_none entry.settled then record entry { settled = Some settled } ∷ entries else entry ∷ settled_first settled entries

-- what a change makes of a copy
abbrev pub copy_after : CopyChange → Copy → Copy
copy_after (Run run) c = record c { run = run }
copy_after (Begin pin token) c = record c { stage = Some (begun pin token) }
copy_after (Page kind rows total done) c = record c { stage = option_map (λ s. stage_after s rows total done) c.stage }
copy_after Drop c = record c { stage = None }
copy_after Swap c = swapped c c.stage
copy_after (Enter number write) c = record c { entries = c.entries ++ (record { number = number; write = write; settled = None }) ∷ []; last_number = number }
copy_after (Settle number status version) c = record c { entries = settled_first (record { status = status; version = version }) c.entries }

-- a commit makes the change; after `Failed` it has or has not, after `NoMemory` it has not
abbrev pub Commits : CopyChange → Result (Unit {0}) KeeperError → Copy → Copy → Type 0
Commits change (Ok x) before after = after ≡ copy_after change before
Commits change (Err Failed) before after = (after ≡ before) ⊎ (after ≡ copy_after change before)
Commits change (Err NoMemory) before after = after ≡ before

-- the changes for which a keeper in memory takes no memory
abbrev pub IsQuick : CopyChange → Type 0
IsQuick (Run run) = ⊤
IsQuick Drop = ⊤
IsQuick Swap = ⊤
IsQuick (Settle number status version) = ⊤
IsQuick change = ⊥
