-- The metadata of an object, member by member.
use Rattle.std.proofs.Common.{◌≡◌, ◌++◌, ◌==◌, ℕ, Bool, true, false, List, [], ◌∷◌, Option, Some, None, Result, Ok, Err}
use Rattle.std.proofs.Common.{Global, String, Less, if◌then◌else◌, length, map, string_bytes, refl, sym, ap, ◌∙◌}
use Rattle.std.proofs.Common.{append_assoc, append-nil}
use Rattle.std.proofs.lemmas.Bool.{and_from}
use Rattle.std.proofs.lemmas.List.{map-append}
use Rattle.std.specs.Cmp.Lexicographic.{slice_cmp}
use Rattle.std.specs.List.{AllByRecursion}
use Rattle.std.specs.List.Sorted.{IsStrictlySortedBy}
use Rattle.std.specs.Map.{keys_of}
use Rattle.std.specs.Ordering.{nat_cmp}
use Rattle.std.specs.String.{string_cmp}
use Rattle.serde_json.specs.Find.{as_str}
use Rattle.serde_json.specs.View.{members_view, view}
use Rattle.serde_json.proofs.Views.{Entry as Member}
use Rattle.roster_base.proofs.Rising.{rise_front, rise_without}
use Rattle.roster_base.specs.Order.{RiseBy}
use Rattle.roster_base.specs.Reading.{Fails, ◌>>=◌}
use Rattle.roster_base.specs.declared.refusal.Refusal.{Refusal}
use Rattle.roster_base.specs.declared.refusal.Refusal.TheVariants as refusal
use Rattle.roster_texts.specs.declared.fault.ValueFault.{ValueFault}
use Rattle.roster_texts.specs.declared.fault.ValueFault.TheVariants.{BadList}
use Rattle.roster_texts.specs.Texts.{is_id}
use Rattle.roster_texts.specs.Trim.{trimmed}
use Rattle.roster_types.specs.declared.metadata.Entry.{Entry}
use Rattle.roster_types.specs.Records.{key_of}
use Rattle.roster_values.proofs.TrimLaws.{trimmed_plain}
use Rattle.roster_values.specs.Fit.{is_plain_text}
use Rattle.roster_values.specs.Lists.{is_filled}
use Rattle.row_json.specs.Reading.{entries_in, entry_from, entry_in}
use Rattle.row_json.proofs.ItemSteps.{kept}

abbrev Rise : List (List ℕ) → Type 0
Rise keys = IsStrictlySortedBy (slice_cmp nat_cmp) keys

abbrev names_of : List Member → List (List ℕ)
names_of ms = map (λ m. string_bytes m.0) ms

all_names : (first : List ℕ) (k : String Global) (ms : List Member) → first ≡ string_bytes k → AllByRecursion (λ y. string_cmp k y ≡ Less) (keys_of ms) → AllByRecursion (λ y. slice_cmp nat_cmp first y ≡ Less) (names_of ms)
all_names first k [] e h = tt
all_names first k (m ∷ ms) e h = (rw e h.0, all_names first k ms e h.1)

-- the names of a map rise
pub names_rise : (ms : List Member) → IsStrictlySortedBy string_cmp (keys_of ms) → Rise (names_of ms)
unfolding IsStrictlySortedBy
names_rise [] h = tt
names_rise (m ∷ ms) h = (all_names (string_bytes m.0) m.0 ms refl h.0, names_rise ms h.1)

-- how far the metadata is read
pub record Gathers (whole : Result (List Entry) ValueFault) (entries : List Entry) (left : List Member) : Type 0 where
  pub same : (entries_in (members_view left) >>= (λ es. Ok (entries ++ es))) ≡ whole
  pub order : Rise (map key_of entries ++ names_of left)

pub gathers-start : (entries : List Entry) (ms : List Member) → entries ≡ [] → IsStrictlySortedBy string_cmp (keys_of ms) → Gathers (entries_in (members_view ms)) entries ms
gathers-start entries ms e h = record { same = rw e (kept (entries_in (members_view ms))); order = rw e (names_rise ms h) }

-- the next member said nothing, or an entry of its name
pub gathers-blank : {whole : Result (List Entry) ValueFault} {entries : List Entry} {left rest : List Member} (m : Member) → Gathers whole entries left → left ≡ m ∷ rest
    → entry_in (string_bytes m.0) (as_str (view m.1)) ≡ Ok None → Gathers whole entries rest
unfolding entries_in
gathers-blank {entries = entries} {rest = rest} m g l h = record {
  same = behind_none entries (entries_in (members_view rest)) ∙ rw (l, h) at g.same;
  order = rise_without (map key_of entries) (names_of rest) (string_bytes m.0) (rw l at g.order);
}
  where
    behind_none : (front : List Entry) (r : Result (List Entry) ValueFault) → (r >>= (λ es. Ok (front ++ es))) ≡ ((r >>= (λ es. Ok es)) >>= (λ es. Ok (front ++ es)))
    behind_none front (Ok es) = refl
    behind_none front (Err f) = refl

-- the keys of the entries with one more, and then the names that are left
keys_on : {whole : Result (List Entry) ValueFault} {entries : List Entry} {left rest : List Member} (m : Member) (e : Entry) → Gathers whole entries left → left ≡ m ∷ rest → e.key ≡ string_bytes m.0
    → Rise (map key_of (entries ++ e ∷ []) ++ names_of rest)
keys_on {entries = entries} m e g l k = rw (map-append key_of entries (e ∷ []), append_assoc, k) (rw l at g.order)

pub entry_rises : {whole : Result (List Entry) ValueFault} {entries : List Entry} {left rest : List Member} (m : Member) (e : Entry) → Gathers whole entries left → left ≡ m ∷ rest → e.key ≡ string_bytes m.0 → RiseBy key_of (entries ++ e ∷ [])
entry_rises {entries = entries} {rest = rest} m e g l k = rise_front (map key_of (entries ++ e ∷ [])) (names_of rest) (keys_on m e g l k)

pub gathers-one : {whole : Result (List Entry) ValueFault} {entries : List Entry} {left rest : List Member} (m : Member) (e : Entry) (new : List Entry) → Gathers whole entries left → left ≡ m ∷ rest
    → entry_in (string_bytes m.0) (as_str (view m.1)) ≡ Ok (Some e) → e.key ≡ string_bytes m.0 → new ≡ entries ++ e ∷ [] → Gathers whole new rest
unfolding entries_in
gathers-one {entries = entries} {rest = rest} m e new g l h k n = record {
  same = rw n (behind_one entries e (entries_in (members_view rest))) ∙ rw (l, h) at g.same;
  order = rw n (keys_on m e g l k);
}
  where
    behind_one : (front : List Entry) (e : Entry) (r : Result (List Entry) ValueFault) → (r >>= (λ es. Ok ((front ++ e ∷ []) ++ es))) ≡ ((r >>= (λ es. Ok (e ∷ es))) >>= (λ es. Ok (front ++ es)))
    behind_one front e (Ok es) = ap (λ xs. Ok xs) (append_assoc front (e ∷ []) es)
    behind_one front e (Err f) = refl

pub gathers-fail : {whole : Result (List Entry) ValueFault} {entries : List Entry} {left rest : List Member} (m : Member) (f : Refusal ValueFault) → Gathers whole entries left → left ≡ m ∷ rest
    → Fails f (entry_in (string_bytes m.0) (as_str (view m.1))) → Fails f whole
unfolding entries_in
gathers-fail m refusal.NoMemory g l h = tt
gathers-fail m (refusal.Fault f) g l h = rw (sym g.same, l, h) refl

pub gathers-end : {whole : Result (List Entry) ValueFault} {entries : List Entry} {left : List Member} → Gathers whole entries left → left ≡ [] → whole ≡ Ok entries
unfolding entries_in
gathers-end {entries = entries} g l = rw (sym g.same, l) (ap (λ es. Ok es) (append-nil entries))

filled_from : (text : List ℕ) → (length text == 0) ≡ false → is_filled text ≡ true
filled_from text h = rw h refl

-- an entry that was read has the member's name, and its text is plain
pub record IsEntryOf (key : List ℕ) (e : Entry) : Type 0 where
  pub named : e.key ≡ key
  pub plain : is_plain_text e.text ≡ true

entry_is : (key text : List ℕ) (b : Bool) (e : Entry) → (length (trimmed text) == 0) ≡ b → entry_from key (trimmed text) ≡ Some e → IsEntryOf key e
entry_is key text true e blank h = cc (blank, h)
entry_is key text false e blank h =
    let found : Some (record { key = key; text = trimmed text }) ≡ Some e = rw blank at h in
    let is : record { key = key; text = trimmed text } ≡ e = cc found in
    record { named = ap key_of (sym is); plain = rw (← is) (and_from _ _ (filled_from (trimmed text) blank) (trimmed_plain text (filled_from (trimmed text) blank))) }

pub entry_read : (key : List ℕ) (text : Option (List ℕ)) (e : Entry) → entry_in key text ≡ Ok (Some e) → IsEntryOf key e
unfolding entry_in
entry_read key None e h = cc h
entry_read key (Some text) e h = by (is_id key) h
  where
    by : (b : Bool) → (if b then Ok (entry_from key (trimmed text)) else Err BadList) ≡ Ok (Some e) → IsEntryOf key e
    by true h = entry_is key text (length (trimmed text) == 0) e refl (cc h)
    by false h = cc h
