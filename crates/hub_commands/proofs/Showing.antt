-- The answer to what a read gave is the answer over the file.
use Rattle.std.proofs.Common.{◌≡◌, ◌<◌, ◌∷◌, ◌∙◌, [], ℕ, ℤ, zero, suc, List, Option, Some, None, Ok, true, IfSome}
use Rattle.std.proofs.Common.{length, nat_lt, refl, sym, arith}
use Rattle.std.proofs.lemmas.Bool.{lt-ltb}
use Rattle.csv_sets.specs.declared.fault.SetFault.TheVariants as fault
use Rattle.csv_sets.specs.declared.fault.SetFile.TheVariants.{RowsOf}
use Rattle.csv_sets.specs.Files as files
use Rattle.outside_ports.specs.declared.folder.FileRead.{FileRead}
use Rattle.outside_ports.specs.declared.folder.FileRead.TheVariants.{Absent, Bytes, TooLong}
use Rattle.outside_ports.specs.declared.failed.IoError.{IoError}
use Rattle.outside_ports.specs.Files.{ReadsFile, Stored, file_at}
use Rattle.roster_values.specs.declared.kind.Kind.{Kind}
use Rattle.roster_values.specs.Kinds.{file_of}
use Rattle.rest_provider.specs.Moments.{IsMomentOf}
use Rattle.hub_commands.specs.declared.answer.Answer.{Answer}
use Rattle.hub_commands.specs.declared.answer.End.TheVariants.{Refused}
use Rattle.hub_commands.specs.Outside.{Faults, outside_of}
use Rattle.hub_commands.specs.Reads.{IsAnswerTo}
use Rattle.hub_commands.specs.ShowAnswers.{IsShown, answer_of_file}

-- there are bytes of any length
longer : (n : ℕ) → (bytes : List ℕ) × (n < length bytes)
longer zero = (0 ∷ [], omega arith)
longer (suc n) = let (bytes, more) = longer n in (0 ∷ bytes, omega (arith, more))

too_large : (kind : Kind) (at : ℤ) (bytes : List ℕ) → files.largest < length bytes → answer_of_file kind at (Some bytes) ≡ record { done = []; end = Refused (fault.TooLarge (RowsOf kind)) }
unfolding files.file_of
too_large kind at bytes long =
    let test : nat_lt files.largest (length bytes) ≡ true = lt-ltb files.largest (length bytes) long in
    rw test refl

module _ (told : Option (List Stored)) (moment : Option ℤ) (folder keeper : Faults) (kind : Kind) (at : ℤ) (m : IsMomentOf moment at) where
  shown_over : (answer : Answer) (file : Option (List ℕ)) → IfSome told (λ fs. file ≡ file_at fs [] (file_of kind)) → answer ≡ answer_of_file kind at file → IsShown (outside_of told moment folder keeper) kind answer
  shown_over answer file t e = record { file = file; at = at; is_file = t; is_moment = m; is = e }

pub shown_by : (told : Option (List Stored)) (moment : Option ℤ) (folder keeper : Faults) (kind : Kind) (at : ℤ) (read : FileRead) (answer : Answer) → ReadsFile {E = IoError} told [] (file_of kind) files.largest (Ok read) → IsMomentOf moment at
    → IsAnswerTo kind at read answer → IsShown (outside_of told moment folder keeper) kind answer
shown_by None moment folder keeper kind at Absent answer t m h = shown_over None moment folder keeper kind at m answer None tt h
shown_by None moment folder keeper kind at TooLong answer t m h =
    let (bytes, long) = longer files.largest in
    shown_over None moment folder keeper kind at m answer (Some bytes) tt (h ∙ sym (too_large kind at bytes long))
shown_by None moment folder keeper kind at (Bytes bytes) answer t m h = shown_over None moment folder keeper kind at m answer (Some bytes) tt h
shown_by (Some fs) moment folder keeper kind at Absent answer t m h = shown_over (Some fs) moment folder keeper kind at m answer None (sym t) h
shown_by (Some fs) moment folder keeper kind at TooLong answer t m h =
    let (bytes, is, long) = t in
    shown_over (Some fs) moment folder keeper kind at m answer (Some bytes) (sym is) (h ∙ sym (too_large kind at bytes long))
shown_by (Some fs) moment folder keeper kind at (Bytes bytes) answer t m h = shown_over (Some fs) moment folder keeper kind at m answer (Some bytes) (sym t.0) h
