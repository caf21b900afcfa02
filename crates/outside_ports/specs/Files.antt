-- The files of a folder.
use Rattle.std.specs.Prelude.{bytes_eq, ◌≡◌, ◌<◌, ◌≤◌, ◌&&◌, ℕ, List, [], ◌∷◌, length, Option, Some, None, Result}
use Rattle.std.specs.Prelude.{if◌then◌else◌, ⊤, IfSome, IfOk, option_map, string_bytes, String, Vec}
use Rattle.std.specs.declared.alloc.Global.{Global}
use Rattle.outside_ports.specs.declared.folder.FileRead.{FileRead}
use Rattle.outside_ports.specs.declared.folder.FileRead.TheVariants.{Absent, TooLong, Bytes}

-- a file of a folder
pub record Stored : Type 0 where
  pub dir : List ℕ
  pub name : List ℕ
  pub bytes : List ℕ

-- the bytes of the first file of a folder and a name
abbrev pub file_at : List Stored → List ℕ → List ℕ → Option (List ℕ)
file_at [] dir name = None
file_at (f ∷ fs) dir name = if bytes_eq f.dir dir && bytes_eq f.name name then Some f.bytes else file_at fs dir name

-- what a read of at most so many bytes says of a file
abbrev pub IsReadOf : Option (List ℕ) → ℕ → FileRead → Type 0
IsReadOf file limit Absent = file ≡ None
IsReadOf file limit TooLong = (bytes : List ℕ) × (file ≡ Some bytes) × (limit < length bytes)
IsReadOf file limit (Bytes bytes) = (file ≡ Some bytes) × (length bytes ≤ limit)

-- of files that are told, a read says what stands there
abbrev pub ReadsFile : {E : Type 0} → Option (List Stored) → List ℕ → List ℕ → ℕ → Result FileRead E → Type 0
ReadsFile files dir name limit result =
    IfSome files (λ fs. IfOk result (IsReadOf (file_at fs dir name) limit))

-- of files that are told, a size is the length of what stands there
abbrev pub SizesFile : {E : Type 0} → Option (List Stored) → List ℕ → List ℕ → Result (Option ℕ) E → Type 0
SizesFile files dir name result =
    IfSome files (λ fs. IfOk result (λ size. size ≡ option_map length (file_at fs dir name)))

-- no more bytes were read than asked for
abbrev pub IsWithin : ℕ → FileRead → Type 0
IsWithin limit Absent = ⊤
IsWithin limit TooLong = ⊤
IsWithin limit (Bytes bytes) = length bytes ≤ limit

-- a file as it lies in memory
abbrev pub stored_of : (String Global × String Global × Vec ℕ Global) → Stored
stored_of f = record { dir = string_bytes f.0; name = string_bytes f.1; bytes = f.2.items }
