-- A whole set, file by file.
use Rattle.std.proofs.Common.{◌≡◌, ◌≤◌, ◌+◌, ℕ, List, [], ◌∷◌, ◌++◌, length, drop, map, Bool, true, false, Option, Some}
use Rattle.std.proofs.Common.{None, Result, Ok, Err, IfOk, refl, sym, ap, ◌∙◌, subst, append_assoc, inl, inr, IsUtf8}
use Rattle.std.proofs.Common.{Vec, Global}
use Rattle.std.specs.Prelude.{IfSome}
use Rattle.std.proofs.lemmas.List.{append-nil, drop_all, map_push}
use Rattle.std.proofs.lemmas.List.Elements.{All-nil, All-push}
use Rattle.std.proofs.lemmas.Str.{IsUtf8-from_is_utf8, is_utf8-from_IsUtf8}
use Rattle.std.specs.List.{All}
use Rattle.std.specs.Str.{is_utf8}
use Rattle.csv.specs.Reading.{default_config, records, strip_bom}
use Rattle.outside_ports.specs.Files.{Stored}
use Rattle.roster_base.specs.Faults.{Rose}
use Rattle.roster_base.specs.Reading.{Fails, Gives, ◌>>=◌}
use Rattle.roster_base.specs.declared.refusal.Refusal.{Refusal}
use Rattle.roster_base.specs.declared.refusal.Refusal.TheVariants as refusal
use Rattle.roster_types.specs.declared.set.SetPart.{SetPart}
use Rattle.roster_types.specs.Sets.{AreParts, IsPart}
use Rattle.roster_values.specs.declared.kind.Kind.{Kind}
use Rattle.roster_values.specs.Kinds.{place_of_kind}
use Rattle.csv_sets.specs.declared.fault.SetFault.{SetFault}
use Rattle.csv_sets.specs.declared.fault.SetFault.TheVariants as fault
use Rattle.csv_sets.specs.declared.fault.SetFile.TheVariants as file
use Rattle.csv_sets.specs.declared.manifest.ListedFile.{ListedFile}
use Rattle.csv_sets.specs.declared.manifest.Manifest.{Manifest}
use Rattle.csv_sets.specs.Folders.{FaultOf, ReadsFolder, folder_read}
use Rattle.csv_sets.specs.Manifests.{RisingFiles, manifest_of}
use Rattle.csv_sets.specs.Files.{file_of}
use Rattle.roster_types.specs.declared.set_row.SetRow.{SetRow}
use Rattle.csv_sets.specs.Sets.{AreListed, AreSpelled, IsSpelled, all_stand, bytes_at, bytes_of, in_manifest, listed_as}
use Rattle.csv_sets.specs.Sets.{listed_in, manifest_at, part_at, parts_at, stands_at}
use Rattle.csv_sets.proofs.FaultLaws.{from_given, no_file, no_listed, told}

pub text_listed : (bytes text : List ℕ) (r : Result Manifest (Refusal SetFault)) → text ≡ bytes → IsUtf8 bytes → Gives (λ m. m.files) r (in_manifest (manifest_of (records default_config (strip_bom text)))) → Gives (λ m. m.files) r (listed_in bytes)
unfolding listed_in
text_listed bytes text r same u g = rw (is_utf8-from_IsUtf8 bytes u) (rw same at g)

pub other_listed : (bytes : List ℕ) → ¬ IsUtf8 bytes → listed_in bytes ≡ Err (fault.NotUtf8 file.Manifest)
unfolding listed_in
other_listed bytes h = by (is_utf8 bytes) refl
  where
    by : (b : Bool) → is_utf8 bytes ≡ b → listed_in bytes ≡ Err (fault.NotUtf8 file.Manifest)
    by true e = absurd (h (IsUtf8-from_is_utf8 bytes e))
    by false e = rw e refl

-- what follows from two facts on files that are told
both_told : (o : Option (List Stored)) (P Q R : List Stored → Type 0) → ((fs : List Stored) → P fs → Q fs → R fs) → IfSome o P → IfSome o Q → IfSome o R
both_told None P Q R f p q = tt
both_told (Some fs) P Q R f p q = f fs p q

-- the same of a fault: it is that of the whole, where the whole has it whenever the step has it
fault_on : {Y Z : Type 0} (first now : Option (List Stored)) (before after later : ℕ) (f : SetFault) (step : List Stored → Result Y SetFault) (whole : List Stored → Result Z SetFault) (P : List Stored → Type 0)
    → now ≡ first → after ≡ before → IfSome first P → ((fs : List Stored) → P fs → step fs ≡ Err f → whole fs ≡ Err f) → FaultOf now after later f step → FaultOf first before later f whole
fault_on first now before after later f step whole P e n known leads (inl h) = inl (h.0, subst (λ b. Rose b later) n h.1)
fault_on first now before after later f step whole P e n known leads (inr h) = inr (h.0, h.1 ∙ n, both_told first P _ _ leads known (subst (λ o. IfSome o (λ fs. step fs ≡ Err f)) e h.2))

-- how far the look at the kinds' files has come: those that are left lead to the whole answer
pub record Looks (dir : List ℕ) (listed : List ListedFile) (kinds : List Kind) (first now : Option (List Stored)) (before after : ℕ) (place : ℕ) : Type 0 where
  pub same : IfSome first (λ fs. all_stand dir listed (drop place kinds) fs ≡ all_stand dir listed kinds fs)
  pub files : now ≡ first
  pub count : after ≡ before

told_start : (o : Option (List Stored)) (P : List Stored → Type 0) → ((fs : List Stored) → P fs) → IfSome o P
told_start None P f = tt
told_start (Some fs) P f = f fs

pub looks_start : (dir : List ℕ) (listed : List ListedFile) (kinds : List Kind) (first : Option (List Stored)) (before : ℕ) → Looks dir listed kinds first first before before 0
looks_start dir listed kinds first before = record { same = told_start first _ (λ fs. refl); files = refl; count = refl }

stand_on : (dir : List ℕ) (listed : List ListedFile) (left rest : List Kind) (kind : Kind) (fs : List Stored) (whole : Result Bool SetFault) → left ≡ kind ∷ rest → all_stand dir listed left fs ≡ whole → stands_at dir listed kind fs ≡ Ok true
    → all_stand dir listed rest fs ≡ whole
unfolding all_stand
stand_on dir listed left rest kind fs whole d h q = rw (d, q) at h

stand_fail : (dir : List ℕ) (listed : List ListedFile) (left rest : List Kind) (kind : Kind) (fs : List Stored) (whole : Result Bool SetFault) (f : SetFault) → left ≡ kind ∷ rest → all_stand dir listed left fs ≡ whole
    → stands_at dir listed kind fs ≡ Err f → whole ≡ Err f
unfolding all_stand
stand_fail dir listed left rest kind fs whole f d h q = sym h ∙ rw (d, q) refl

pub looks_on : {dir : List ℕ} {listed : List ListedFile} {kinds : List Kind} {first now : Option (List Stored)} {before after place : ℕ} (new : Option (List Stored)) (later : ℕ) (kind : Kind)
    → Looks dir listed kinds first now before after place → drop place kinds ≡ kind ∷ drop (place + 1) kinds → (later ≡ after) × IfSome now (λ fs. stands_at dir listed kind fs ≡ Ok true) → new ≡ now
    → Looks dir listed kinds first new before later (place + 1)
looks_on {dir} {listed} {kinds} {first} {place = place} new later kind l d read e = record {
  same = both_told first _ _ _ (λ fs p q. stand_on dir listed (drop place kinds) (drop (place + 1) kinds) kind fs _ d p q) l.same (subst (λ o. IfSome o (λ fs. stands_at dir listed kind fs ≡ Ok true)) l.files read.1);
  files = e ∙ l.files;
  count = read.0 ∙ l.count;
}

pub looks_fail : {dir : List ℕ} {listed : List ListedFile} {kinds : List Kind} {first now : Option (List Stored)} {before after place : ℕ} (later : ℕ) (kind : Kind) (e : Refusal SetFault)
    → Looks dir listed kinds first now before after place → drop place kinds ≡ kind ∷ drop (place + 1) kinds → ReadsFolder {X = Unit {0}} (λ _. true) (folder_read now after later) (Err e) (stands_at dir listed kind)
    → ReadsFolder {X = Unit {0}} (λ _. true) (folder_read first before later) (Err e) (all_stand dir listed kinds)
looks_fail later kind refusal.NoMemory l d h = h ∙ l.count
looks_fail {dir} {listed} {kinds} {first} {now} {before} {after} {place} later kind (refusal.Fault f) l d h =
    fault_on first now before after later f (stands_at dir listed kind) (all_stand dir listed kinds) _ l.files l.count l.same (λ fs p q. stand_fail dir listed (drop place kinds) (drop (place + 1) kinds) kind fs _ f d p q) h

stand_end : (dir : List ℕ) (listed : List ListedFile) (left : List Kind) (fs : List Stored) (whole : Result Bool SetFault) → left ≡ [] → all_stand dir listed left fs ≡ whole → whole ≡ Ok true
unfolding all_stand
stand_end dir listed left fs whole d h = sym h ∙ rw d refl

pub looks_end : {dir : List ℕ} {listed : List ListedFile} {kinds : List Kind} {first now : Option (List Stored)} {before after place : ℕ} → Looks dir listed kinds first now before after place → length kinds ≤ place
    → (after ≡ before) × IfSome first (λ fs. all_stand dir listed kinds fs ≡ Ok true)
looks_end {dir} {listed} {kinds} {first} {place = place} l past = (l.count, told first _ _ (λ fs p. stand_end dir listed (drop place kinds) fs _ (drop_all place kinds past) p) l.same)

-- the parts that are read behind others
abbrev pub behind : List SetPart → Result (List SetPart) SetFault → Result (List SetPart) SetFault
behind front r = r >>= (λ more. Ok (front ++ more))

behind_none : (r : Result (List SetPart) SetFault) → behind [] r ≡ r
behind_none (Ok ps) = refl
behind_none (Err f) = refl

behind_one : (front : List SetPart) (p : SetPart) (r : Result (List SetPart) SetFault) → behind front (r >>= (λ ps. Ok (p ∷ ps))) ≡ behind (front ++ p ∷ []) r
behind_one front p (Ok ps) = ap (λ xs. Ok xs) (sym (append_assoc front (p ∷ []) ps))
behind_one front p (Err f) = refl

pub places_listed : (parts : List SetPart) → map (λ (p : SetPart). place_of_kind p.kind) parts ≡ map (λ (f : ListedFile). place_of_kind f.kind) (map listed_as parts)
places_listed [] = refl
places_listed (p ∷ parts) = ap (λ ns. place_of_kind p.kind ∷ ns) (places_listed parts)

-- how far the reading of the parts has come
pub record Parts (dir : List ℕ) (listed : List ListedFile) (parts : List SetPart) (first now : Option (List Stored)) (before after : ℕ) (place : ℕ) : Type 0 where
  pub same : IfSome first (λ fs. behind parts (parts_at dir (drop place listed) fs) ≡ parts_at dir listed fs)
  pub files : now ≡ first
  pub count : after ≡ before
  pub listed_all : map listed_as parts ++ drop place listed ≡ listed
  pub good : All IsPart parts
  pub some : All IsSpelled parts

pub parts_start : (dir : List ℕ) (listed : List ListedFile) (first : Option (List Stored)) (before : ℕ) → Parts dir listed [] first first before before 0
parts_start dir listed first before = record {
  same = told_start first _ (λ fs. behind_none (parts_at dir listed fs));
  files = refl;
  count = refl;
  listed_all = refl;
  good = All-nil IsPart;
  some = All-nil IsSpelled;
}

parts_one : (dir : List ℕ) (left rest : List ListedFile) (file : ListedFile) (front : List SetPart) (part : SetPart) (fs : List Stored) (whole : Result (List SetPart) SetFault) → left ≡ file ∷ rest
    → behind front (parts_at dir left fs) ≡ whole → part_at dir file fs ≡ Ok part → behind (front ++ part ∷ []) (parts_at dir rest fs) ≡ whole
unfolding parts_at
parts_one dir left rest file front part fs whole d h q = sym (behind_one front part (parts_at dir rest fs)) ∙ rw (d, q) at h

parts_bad : (dir : List ℕ) (left rest : List ListedFile) (file : ListedFile) (front : List SetPart) (fs : List Stored) (whole : Result (List SetPart) SetFault) (f : SetFault) → left ≡ file ∷ rest
    → behind front (parts_at dir left fs) ≡ whole → part_at dir file fs ≡ Err f → whole ≡ Err f
unfolding parts_at
parts_bad dir left rest file front fs whole f d h q = sym h ∙ rw (d, q) refl

pub parts_on : {dir : List ℕ} {listed : List ListedFile} {parts : List SetPart} {first now : Option (List Stored)} {before after place : ℕ} (new : Option (List Stored)) (later : ℕ) (file : ListedFile) (part : SetPart)
    → Parts dir listed parts first now before after place → drop place listed ≡ file ∷ drop (place + 1) listed → (later ≡ after) × IfSome now (λ fs. part_at dir file fs ≡ Ok part) → new ≡ now → listed_as part ≡ file → IsPart part → IsSpelled part
    → Parts dir listed (parts ++ part ∷ []) first new before later (place + 1)
parts_on {dir} {listed} {parts} {first} {place = place} new later file part s d read e k g b = record {
  same = both_told first _ _ _ (λ fs p q. parts_one dir (drop place listed) (drop (place + 1) listed) file parts part fs _ d p q) s.same (subst (λ o. IfSome o (λ fs. part_at dir file fs ≡ Ok part)) s.files read.1);
  files = e ∙ s.files;
  count = read.0 ∙ s.count;
  listed_all = rw (map_push listed_as parts part, append_assoc, k) (rw d at s.listed_all);
  good = All-push IsPart parts part s.good g;
  some = All-push IsSpelled parts part s.some b;
}

pub parts_fail : {dir : List ℕ} {listed : List ListedFile} {parts : List SetPart} {first now : Option (List Stored)} {before after place : ℕ} (later : ℕ) (file : ListedFile) (e : Refusal SetFault)
    → Parts dir listed parts first now before after place → drop place listed ≡ file ∷ drop (place + 1) listed → ReadsFolder {X = SetPart} (λ p. p) (folder_read now after later) (Err e) (part_at dir file)
    → ReadsFolder {X = Vec SetPart Global} (λ v. v.items) (folder_read first before later) (Err e) (parts_at dir listed)
parts_fail later file refusal.NoMemory s d h = h ∙ s.count
parts_fail {dir} {listed} {parts} {first} {now} {before} {after} {place} later file (refusal.Fault f) s d h =
    fault_on first now before after later f (part_at dir file) (parts_at dir listed) _ s.files s.count s.same (λ fs p q. parts_bad dir (drop place listed) (drop (place + 1) listed) file parts fs _ f d p q) h

parts_done : (dir : List ℕ) (left : List ListedFile) (front : List SetPart) (fs : List Stored) (whole : Result (List SetPart) SetFault) → left ≡ [] → behind front (parts_at dir left fs) ≡ whole → whole ≡ Ok front
unfolding parts_at
parts_done dir left front fs whole d h = sym h ∙ rw (d, append-nil front) refl

pub parts_end : {dir : List ℕ} {listed : List ListedFile} {parts : List SetPart} {first now : Option (List Stored)} {before after place : ℕ} → Parts dir listed parts first now before after place → length listed ≤ place
    → (after ≡ before) × IfSome first (λ fs. parts_at dir listed fs ≡ Ok parts)
parts_end {dir} {listed} {parts} {first} {place = place} s past = (s.count, told first _ _ (λ fs p. parts_done dir (drop place listed) parts fs _ (drop_all place listed past) p) s.same)

pub listed_end : {dir : List ℕ} {listed : List ListedFile} {parts : List SetPart} {first now : Option (List Stored)} {before after place : ℕ} → Parts dir listed parts first now before after place → length listed ≤ place
    → map listed_as parts ≡ listed
listed_end {listed = listed} {parts} {place = place} s past = sym (append-nil (map listed_as parts)) ∙ rw (drop_all place listed past) at s.listed_all

pub part_some : (listed : ListedFile) (bytes : List ℕ) (rows : List SetRow) → file_of listed.kind listed.mode bytes ≡ Ok rows → IsSpelled (record { kind = listed.kind; mode = listed.mode; rows = rows })
part_some listed bytes rows h = (bytes, h)

pub some_listed : (bytes : List ℕ) (r : Result Manifest (Refusal SetFault)) → Gives (λ m. m.files) r (listed_in bytes) → IfOk r (λ m. AreListed m.files)
some_listed bytes (Ok m) g = (bytes, g)
some_listed bytes (Err e) g = tt

pub parts_fit : (parts : List SetPart) (listed files : List ListedFile) → map listed_as parts ≡ listed → listed ≡ files → RisingFiles files → All IsPart parts → AreParts parts
parts_fit parts listed files e same rise good = record { rise = rw (places_listed parts, e, same) rise; parts = good }

pub spelled_by : (parts : List SetPart) (listed files : List ListedFile) → map listed_as parts ≡ listed → listed ≡ files → AreListed files → All IsSpelled parts → AreSpelled parts
spelled_by parts listed files e same some rows = record { listed = rw (e, same) some; rows = rows }

-- what an answer of `read` means for the whole, where the bytes are known
manifest_told : (dir : List ℕ) (files : Option (List Stored)) (bytes : List ℕ) → IfSome files (λ fs. bytes_of file.Manifest (bytes_at fs dir file.Manifest) ≡ Ok bytes) → IfSome files (λ fs. manifest_at dir fs ≡ listed_in bytes)
unfolding manifest_at
manifest_told dir files bytes h = told files _ _ (λ fs e. rw e refl) h

pub manifest_read : (dir : List ℕ) (files : Option (List Stored)) (before now : ℕ) (bytes : List ℕ) (r : Result Manifest (Refusal SetFault)) → (now ≡ before) × IfSome files (λ fs. bytes_of file.Manifest (bytes_at fs dir file.Manifest) ≡ Ok bytes)
    → Gives (λ m. m.files) r (listed_in bytes) → ReadsFolder (λ m. m.files) (folder_read files before now) r (manifest_at dir)
manifest_read dir files before now bytes r read g = from_given (λ m. m.files) files before now r (listed_in bytes) (manifest_at dir) g (no_listed bytes) read.0 (manifest_told dir files bytes read.1)

rows_told : (dir : List ℕ) (listed : ListedFile) (files : Option (List Stored)) (bytes : List ℕ) (f : SetFault) → file_of listed.kind listed.mode bytes ≡ Err f → IfSome files (λ fs. bytes_of (file.RowsOf listed.kind) (bytes_at fs dir (file.RowsOf listed.kind)) ≡ Ok bytes)
    → IfSome files (λ fs. part_at dir listed fs ≡ Err f)
unfolding part_at
rows_told dir listed files bytes f g h = told files _ _ (λ fs e. rw e (rw g refl)) h

-- a fault of a listed file
pub part_refused : (dir : List ℕ) (listed : ListedFile) (files : Option (List Stored)) (before now : ℕ) (bytes : List ℕ) (e : Refusal SetFault) → (now ≡ before) × IfSome files (λ fs. bytes_of (file.RowsOf listed.kind) (bytes_at fs dir (file.RowsOf listed.kind)) ≡ Ok bytes)
    → Fails e (file_of listed.kind listed.mode bytes) → ReadsFolder {X = SetPart} (λ p. p) (folder_read files before now) (Err e) (part_at dir listed)
part_refused dir listed files before now bytes refusal.NoMemory read g = read.0
part_refused dir listed files before now bytes (refusal.Fault f) read g = inr (rw g at (no_file listed.kind listed.mode bytes), read.0, rows_told dir listed files bytes f g read.1)
