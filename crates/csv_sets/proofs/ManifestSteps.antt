-- The records of a manifest, one by one.
use Rattle.std.proofs.Common.{◌≡◌, ◌≤◌, ◌+◌, ℕ, List, [], ◌∷◌, ◌++◌, length, drop, map, Option, Some, None, Ok, Less}
use Rattle.std.proofs.Common.{nat_cmp, refl, sym, ap, ◌∙◌, arith, append_assoc}
use Rattle.std.proofs.lemmas.List.{append-nil, drop_all}
use Rattle.std.specs.List.{AllByRecursion}
use Rattle.std.specs.List.Sorted.{IsStrictlySortedBy}
use Rattle.roster_base.specs.Reading.{Fails}
use Rattle.roster_base.specs.declared.refusal.Refusal.{Refusal}
use Rattle.roster_base.specs.declared.refusal.Refusal.TheVariants as refusal
use Rattle.roster_values.specs.declared.kind.Kind.{Kind}
use Rattle.roster_values.specs.declared.mode.Mode.{Mode}
use Rattle.roster_values.specs.Kinds.{place_of_kind}
use Rattle.csv_sets.specs.declared.fault.ManifestFault.{ManifestFault}
use Rattle.csv_sets.specs.declared.manifest.ListedFile.{ListedFile}
use Rattle.csv_sets.specs.declared.manifest.Said.{Said}
use Rattle.csv_sets.specs.Left.{AllRowsText}
use Rattle.csv_sets.proofs.RecordSteps.{text_behind}
use Rattle.csv_sets.specs.Manifests.{RisingFiles, files_said, listed, mode_of, said_after, said_by}

-- how far the reading has come: the records that are left lead to the whole answer
pub record Says (front : List Said) (number : ℕ) (left whole : List (List (List ℕ))) : Type 0 where
  pub same : said_after front number left ≡ said_after [] 2 whole
  pub text : AllRowsText left
  pub count : number + length left ≡ 2 + length whole

pub says_start : (whole : List (List (List ℕ))) → AllRowsText whole → Says [] 2 whole whole
says_start whole text = record { same = refl; text = text; count = refl }

pub says_end : {front : List Said} {number : ℕ} {left whole : List (List (List ℕ))} → Says front number left whole → left ≡ [] → said_after [] 2 whole ≡ Ok front
unfolding said_after
says_end s e = sym s.same ∙ rw e refl

pub says_fail : {front : List Said} {number : ℕ} {left whole : List (List (List ℕ))} (cells : List (List ℕ)) (new : List (List (List ℕ))) (e : Refusal ManifestFault)
    → Says front number left whole → left ≡ cells ∷ new → Fails e (said_by front number cells) → Fails e (said_after [] 2 whole)
unfolding said_after
says_fail cells new refusal.NoMemory s d h = tt
says_fail cells new (refusal.Fault f) s d h = rw (sym s.same, d, h) refl

pub says_on : {front : List Said} {number : ℕ} {left whole : List (List (List ℕ))} (cells : List (List ℕ)) (new : List (List (List ℕ))) (more : List Said)
    → Says front number left whole → left ≡ cells ∷ new → said_by front number cells ≡ Ok more → Says more (number + 1) new whole
unfolding said_after
says_on {number = number} {left} cells new more s d h = record {
  same = rw (d, h) at s.same;
  text = text_behind left cells new d s.text;
  count = omega (arith, ap length d, s.count);
}

-- how far the listing of files has come
pub record Lists (said : List Said) (kinds : List Kind) (files : List ListedFile) (place : ℕ) : Type 0 where
  pub same : files ++ files_said said (drop place kinds) ≡ files_said said kinds

pub lists_on : {said : List Said} {kinds : List Kind} {files : List ListedFile} {place : ℕ} (kind : Kind) (mode : Option Mode) → Lists said kinds files place → drop place kinds ≡ kind ∷ drop (place + 1) kinds
    → mode_of said kind ≡ mode → Lists said kinds (files ++ listed kind mode) (place + 1)
unfolding files_said
lists_on kind mode l d m = record { same = rw append_assoc (rw (d, m) at l.same) }

pub lists_end : {said : List Said} {kinds : List Kind} {files : List ListedFile} {place : ℕ} → Lists said kinds files place → length kinds ≤ place → files ≡ files_said said kinds
unfolding files_said
lists_end {files = files} l past = sym (append-nil files) ∙ rw (drop_all _ _ past) at l.same

below_said : (n : ℕ) (said : List Said) (kinds : List Kind) → AllByRecursion (λ p. nat_cmp n p ≡ Less) (map place_of_kind kinds) → AllByRecursion (λ p. nat_cmp n p ≡ Less) (map (λ (f : ListedFile). place_of_kind f.kind) (files_said said kinds))
unfolding files_said
below_said n said [] h = tt
below_said n said (kind ∷ kinds) h = by (mode_of said kind) (below_said n said kinds h.1)
  where
    by : (mode : Option Mode) → AllByRecursion (λ p. nat_cmp n p ≡ Less) (map (λ (f : ListedFile). place_of_kind f.kind) (files_said said kinds))
        → AllByRecursion (λ p. nat_cmp n p ≡ Less) (map (λ (f : ListedFile). place_of_kind f.kind) (listed kind mode ++ files_said said kinds))
    by None more = more
    by (Some mode) more = (h.0, more)

pub said_rise : (said : List Said) (kinds : List Kind) → IsStrictlySortedBy nat_cmp (map place_of_kind kinds) → RisingFiles (files_said said kinds)
unfolding files_said IsStrictlySortedBy
said_rise said [] h = tt
said_rise said (kind ∷ kinds) h = by (mode_of said kind) (said_rise said kinds h.1)
  where
    by : (mode : Option Mode) → RisingFiles (files_said said kinds) → RisingFiles (listed kind mode ++ files_said said kinds)
    by None more = more
    by (Some mode) more = (below_said (place_of_kind kind) said kinds h.0, more)
