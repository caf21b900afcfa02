-- What `show` answers: the rows of one file, in order of id.
use Rattle.std.specs.Prelude.{◌≡◌, ◌++◌, ℕ, ℤ, List, [], Option, None, Some, Result, Ok, Err, IfSome, codes, map}
use Rattle.std.specs.Prelude.{if◌then◌else◌}
use Rattle.csv_sets.specs.declared.fault.SetFault.{SetFault}
use Rattle.csv_sets.specs.declared.fault.SetFault.TheVariants.{MissingFile}
use Rattle.csv_sets.specs.declared.fault.SetFile.TheVariants.{RowsOf}
use Rattle.csv_sets.specs.Files as files
use Rattle.outside_ports.specs.Files.{file_at}
use Rattle.roster_base.specs.Order.{in_order}
use Rattle.roster_types.specs.declared.set_row.SetRow.{SetRow}
use Rattle.roster_types.specs.Records.{Record}
use Rattle.roster_values.specs.declared.kind.Kind.{Kind}
use Rattle.roster_values.specs.declared.mode.Mode.TheVariants.{Bulk}
use Rattle.roster_values.specs.Kinds.{file_of}
use Rattle.row_json.specs.Json.{collection_text}
use Rattle.rest_provider.specs.Moments.{IsMomentOf}
use Rattle.hub_commands.specs.declared.answer.Answer.{Answer}
use Rattle.hub_commands.specs.declared.answer.End.TheVariants.{Done, Refused}
use Rattle.hub_commands.specs.Outside.{Outside}

-- the row of a set, dated by the clock where it brings no date
abbrev pub dated_row : ℤ → SetRow → Record
dated_row at r = if r.dated then r.row else record r.row { modified = at }

abbrev pub id_of : Record → List ℕ
id_of r = r.id

-- the collection of the rows in order of id, and a line feed
unfoldable pub shown_text : Kind → ℤ → List SetRow → List ℕ
shown_text kind at rows = collection_text None kind (in_order id_of (map (dated_row at) rows)) ++ codes "\n"

-- the output where a file spells rows, and else its first fault
abbrev pub answer_of_rows : Kind → ℤ → Result (List SetRow) SetFault → Answer
answer_of_rows kind at (Ok rows) = record { done = shown_text kind at rows; end = Done }
answer_of_rows kind at (Err fault) = record { done = []; end = Refused fault }

-- the answer over a file that is there or not
abbrev pub answer_of_file : Kind → ℤ → Option (List ℕ) → Answer
answer_of_file kind at None = record { done = []; end = Refused (MissingFile (RowsOf kind)) }
answer_of_file kind at (Some bytes) = answer_of_rows kind at (files.file_of kind Bulk bytes)

-- the answer is the one over a file and a moment: the file is the kind's in the root folder and the moment the clock's,
-- where folder and clock tell
pub record IsShown (outside : Outside) (kind : Kind) (answer : Answer) : Type 0 where
  pub file : Option (List ℕ)
  pub at : ℤ
  pub is_file : IfSome outside.files (λ fs. file ≡ file_at fs [] (file_of kind))
  pub is_moment : IsMomentOf outside.moment at
  pub is : answer ≡ answer_of_file kind at file
