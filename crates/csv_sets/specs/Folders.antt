-- What a call read from a folder, and why it failed.
use Rattle.std.specs.Prelude.{◌≡◌, ◌≢◌, ◌⊎◌, ℕ, List, Option, Result, Ok, Err, IfSome}
use Rattle.outside_ports.specs.Files.{Stored}
use Rattle.roster_base.specs.Faults.{Rose}
use Rattle.roster_base.specs.declared.refusal.Refusal.{Refusal}
use Rattle.roster_base.specs.declared.refusal.Refusal.TheVariants as refusal
use Rattle.csv_sets.specs.declared.fault.SetFault.{SetFault}
use Rattle.csv_sets.specs.declared.fault.SetFault.TheVariants.{Folder}

-- a fault is that of the folder, whose count of faults rose; or it is the first one of what its files mean
abbrev pub FaultOf : {Y : Type 0} → Option (List Stored) → ℕ → ℕ → SetFault → (List Stored → Result Y SetFault) → Type 0
FaultOf files before now fault meaning =
    ((fault ≡ Folder) × Rose before now)
    ⊎ ((fault ≢ Folder) × (now ≡ before) × IfSome files (λ fs. meaning fs ≡ Err fault))

-- a folder that a call reads: its files, where they are told, and how many faults it has counted before the call and
-- by its end
pub record FolderRead : Type 0 where
  pub files : Option (List Stored)
  pub before : ℕ
  pub now : ℕ

-- the same from its parts
abbrev pub folder_read : Option (List Stored) → ℕ → ℕ → FolderRead
folder_read files before now = record { files = files; before = before; now = now }

-- what a call read, seen by `view`, is what the folder's files mean, where they are told; the count of faults stands
-- still but where the folder failed
abbrev pub ReadsFolder : {X Y : Type 0} → (X → Y) → FolderRead → Result X (Refusal SetFault)
    → (List Stored → Result Y SetFault) → Type 0
ReadsFolder view read (Ok x) meaning = (read.now ≡ read.before) × IfSome read.files (λ fs. meaning fs ≡ Ok (view x))
ReadsFolder view read (Err (refusal.Fault f)) meaning = FaultOf read.files read.before read.now f meaning
ReadsFolder view read (Err refusal.NoMemory) meaning = read.now ≡ read.before
