-- A header that is written is read back: all fields have their places, and the keys stand behind them.
use Rattle.std.proofs.Common.{◌≡◌, ◌≢◌, ◌<◌, ◌+◌, ◌-◌, get_or, ℕ, suc, List, [], ◌∷◌, ◌++◌, map, length, Bool, true}
use Rattle.std.proofs.Common.{false, Option, Some, None, Ok, codes, not, refl, sym, ap, ◌∙◌, arith, bytes_eq, Less}
use Rattle.std.proofs.Common.{nat_cmp, nat_lt, cond}
use Rattle.std.proofs.Math.Bool.{and-false}
use Rattle.std.specs.Prelude.{◌||◌, ◌&&◌, position}
use Rattle.std.proofs.lemmas.Bool.Decides.{nat_tests}
use Rattle.std.proofs.lemmas.List.{length-append, length-map}
use Rattle.std.specs.Cmp.Lexicographic.{slice_cmp}
use Rattle.std.specs.List.{AllByRecursion, list_any, position_or_len}
use Rattle.std.specs.List.Sorted.{IsStrictlySortedBy}
use Rattle.roster_base.specs.Order.{RiseBy, in_order, placed}
use Rattle.roster_texts.specs.Texts.{is_id}
use Rattle.roster_texts.specs.Trim.{trimmed}
use Rattle.roster_values.specs.declared.kind.Kind.{Kind}
use Rattle.roster_values.specs.declared.kind.Kind.TheVariants.{Orgs}
use Rattle.roster_values.specs.declared.mode.Mode.{Mode}
use Rattle.roster_values.specs.Table.{Info, info_in, table}
use Rattle.std.proofs.lemmas.Bool.{and_parts, or_parts}
use Rattle.roster_texts.specs.Texts.{has_plain_ends}
use Rattle.roster_values.proofs.CellLaws.{id_plain}
use Rattle.roster_values.proofs.TrimLaws.{filled_long, last_append, last_of_plain, plain_text_from, trimmed_same}
use Rattle.roster_values.specs.Lists.{is_filled}
use Rattle.csv_sets.specs.declared.header.MetadataColumn.{MetadataColumn}
use Rattle.csv_sets.specs.declared.keys.MetadataKey.{MetadataKey}
use Rattle.csv_sets.specs.Headers.{Header, columns_checked, columns_of, has_column, header_from, header_of, is_metadata}
use Rattle.csv_sets.specs.Headers.{is_read, key_in, metadata_from, metadata_key, place_of, required_checked}
use Rattle.csv_sets.specs.Written.{written_header}
use Rattle.csv_sets.proofs.KeyLaws.{less_differ, numbered, same_bytes}

abbrev pub columns : Kind → List (List ℕ)
columns kind = map (λ i. i.column) (table kind)

abbrev key_column : MetadataKey → List ℕ
key_column k = codes "metadata." ++ k.key

-- the places of the fields' columns, from a place on
abbrev pub count_from : ℕ → List Info → List (Option ℕ)
count_from n [] = []
count_from n (i ∷ is) = Some n ∷ count_from (n + 1) is

-- each field has its column
abbrev all_there : List (List ℕ) → List Info → Bool
all_there columns [] = true
all_there columns (i ∷ is) = has_column columns i.column && all_there columns is

-- what holds of the columns of each kind
pub record Plain (kind : Kind) : Type 0 where
  pub trims : map trimmed (columns kind) ≡ columns kind
  pub other : list_any is_metadata (columns kind) ≡ false
  pub once : columns_checked kind [] (columns kind) ≡ Ok true
  pub whole : all_there (columns kind) (table kind) ≡ true
  pub places : map (λ i. place_of (columns kind) i.column) (table kind) ≡ count_from 0 (table kind)

plain : (kind : Kind) → Plain kind
unfolding trimmed columns_checked required_checked
plain Orgs = record { trims = refl; other = refl; once = refl; whole = refl; places = refl }
plain _ = record { trims = refl; other = refl; once = refl; whole = refl; places = refl }

-- the names of metadata columns
key_is_metadata : (k : MetadataKey) → is_metadata (key_column k) ≡ true
key_is_metadata k = refl

key_of_column : (k : MetadataKey) → key_in (key_column k) ≡ k.key
key_of_column k = refl

not_metadata : (c : List ℕ) (k : MetadataKey) → is_metadata c ≡ false → bytes_eq c (key_column k) ≡ false
not_metadata c k h = by (bytes_eq c (key_column k)) refl
  where
    by : (b : Bool) → bytes_eq c (key_column k) ≡ b → bytes_eq c (key_column k) ≡ false
    by true e = cc (sym h ∙ ap is_metadata (same_bytes c (key_column k) e) ∙ key_is_metadata k)
    by false e = e

-- no column before is the column of one of the keys
abbrev AllNew : List (List ℕ) → List MetadataKey → Type 0
AllNew before ks = AllByRecursion (λ k. has_column before (key_column k) ≡ false) ks

new_columns : (cs : List (List ℕ)) (k : MetadataKey) → list_any is_metadata cs ≡ false → has_column cs (key_column k) ≡ false
new_columns [] k h = refl
new_columns (c ∷ cs) k h =
    let parts = or_parts (is_metadata c) (list_any is_metadata cs) h in
    rw (not_metadata c k parts.0) (new_columns cs k parts.1)

-- the columns that were checked, with those before them
abbrev onto : List (List ℕ) → List (List ℕ) → List (List ℕ)
onto [] before = before
onto (c ∷ cs) before = onto cs (c ∷ before)

any_onto : (cs before : List (List ℕ)) → list_any is_metadata cs ≡ false → list_any is_metadata before ≡ false → list_any is_metadata (onto cs before) ≡ false
any_onto [] before h g = g
any_onto (c ∷ cs) before h g =
    let parts = or_parts (is_metadata c) (list_any is_metadata cs) h in
    any_onto cs (c ∷ before) parts.1 (rw parts.0 g)

checked_on : (kind : Kind) (before : List (List ℕ)) (cs more : List (List ℕ)) → columns_checked kind before cs ≡ Ok true → columns_checked kind before (cs ++ more) ≡ columns_checked kind (onto cs before) more
unfolding columns_checked
checked_on kind before [] more h = refl
checked_on kind before (c ∷ cs) more h = by (is_read kind c && has_column before c) (is_metadata c && not (is_id (key_in c))) refl refl (λ h2. checked_on kind (c ∷ before) cs more h2) h
  where
    by : (a b : Bool) → (is_read kind c && has_column before c) ≡ a → (is_metadata c && not (is_id (key_in c))) ≡ b
        → (columns_checked kind (c ∷ before) cs ≡ Ok true → columns_checked kind (c ∷ before) (cs ++ more) ≡ columns_checked kind (onto cs (c ∷ before)) more)
        → columns_checked kind before (c ∷ cs) ≡ Ok true → columns_checked kind before (c ∷ (cs ++ more)) ≡ columns_checked kind (onto cs (c ∷ before)) more
    by true b ea eb on h2 = cc (rw ea at h2)
    by false true ea eb on h2 = cc (rw (ea, eb) at h2)
    by false false ea eb on h2 = rw (ea, eb) (on (rw (ea, eb) at h2))

new_on : (t : List ℕ) (before : List (List ℕ)) (ks : List MetadataKey) → AllByRecursion (λ u. slice_cmp nat_cmp t u ≡ Less) (map (λ k. k.key) ks) → AllNew before ks → AllNew ((codes "metadata." ++ t) ∷ before) ks
new_on t before [] above h = tt
new_on t before (k ∷ ks) above h = (rw (less_differ t k.key above.0) h.0, new_on t before ks above.1 h.1)

keys_checked : (kind : Kind) (before : List (List ℕ)) (ks : List MetadataKey) → AllByRecursion (λ k. is_id k.key ≡ true) ks → RiseBy (λ k. k.key) ks → AllNew before ks
    → columns_checked kind before (map key_column ks) ≡ Ok true
unfolding columns_checked IsStrictlySortedBy
keys_checked kind before [] good rise fresh = refl
keys_checked kind before (k ∷ ks) good rise fresh =
    rw (fresh.0, good.0, and-false (is_read kind (key_column k))) (keys_checked kind (key_column k ∷ before) ks good.1 rise.1 (new_on k.key before ks rise.0 fresh.1))

has_on : (cs more : List (List ℕ)) (name : List ℕ) → has_column cs name ≡ true → has_column (cs ++ more) name ≡ true
has_on [] more name h = cc h
has_on (c ∷ cs) more name h = by (bytes_eq c name) (λ h2. has_on cs more name h2) h
  where
    by : (b : Bool) → (has_column cs name ≡ true → has_column (cs ++ more) name ≡ true) → (b || has_column cs name) ≡ true → (b || has_column (cs ++ more) name) ≡ true
    by true on h2 = refl
    by false on h2 = on h2

-- so none is missing, whatever a mode requires and whatever stands behind
required_on : (kind : Kind) (mode : Mode) (cs more : List (List ℕ)) (place : ℕ) (is : List Info) → all_there cs is ≡ true → required_checked kind mode (cs ++ more) place is ≡ Ok true
unfolding required_checked
required_on kind mode cs more place [] h = refl
required_on kind mode cs more place (i ∷ is) h =
    let parts = and_parts (has_column cs i.column) (all_there cs is) h in
    rw (has_on cs more i.column parts.0, and-false (info_in mode place i).required) (required_on kind mode cs more (place + 1) is parts.1)

-- a place is that of the first columns, whatever stands behind them
len_on : (p : List ℕ → Bool) (xs more : List (List ℕ)) → position_or_len p xs < length xs → position_or_len p (xs ++ more) ≡ position_or_len p xs
len_on p [] more h = absurd (omega arith)
len_on p (x ∷ xs) more h = by (p x) refl (λ h2. len_on p xs more h2) h
  where
    by : (b : Bool) → p x ≡ b → (position_or_len p xs < length xs → position_or_len p (xs ++ more) ≡ position_or_len p xs) → position_or_len p (x ∷ xs) < length (x ∷ xs)
        → position_or_len p (x ∷ xs ++ more) ≡ position_or_len p (x ∷ xs)
    by true e on h2 = rw e refl
    by false e on h2 =
        let h3 : 1 + position_or_len p xs < suc (length xs) = rw e at h2 in
        rw e (ap (λ n. 1 + n) (on (omega (arith, h3))))

within : (n len : ℕ) → nat_lt n len ≡ true → n < len
within n len e = grind (arith, nat_tests)

within_more : (n len more : ℕ) → nat_lt n len ≡ true → nat_lt n (len + more) ≡ true
within_more n len more e = grind (arith, nat_tests)

place_on : (p : List ℕ → Bool) (xs more : List (List ℕ)) (i : ℕ) → position p xs ≡ Some i → position p (xs ++ more) ≡ Some i
place_on p xs more i h = by (nat_lt (position_or_len p xs) (length xs)) refl h
  where
    by : (b : Bool) → nat_lt (position_or_len p xs) (length xs) ≡ b → cond b (Some (position_or_len p xs)) None ≡ Some i → position p (xs ++ more) ≡ Some i
    by true e h2 = rw (len_on p xs more (within (position_or_len p xs) (length xs) e), length-append xs more, within_more (position_or_len p xs) (length xs) (length more) e) h2
    by false e h2 = cc h2

places_on : (cs more : List (List ℕ)) (n : ℕ) (is : List Info) → map (λ i. place_of cs i.column) is ≡ count_from n is → map (λ i. place_of (cs ++ more) i.column) is ≡ count_from n is
places_on cs more n [] h = refl
places_on cs more n (i ∷ is) h =
    let first : place_of cs i.column ≡ Some n = cc h in
    let later : map (λ i. place_of cs i.column) is ≡ count_from (n + 1) is = cc h in
    rw (place_on (λ c. bytes_eq c i.column) cs more n first) (ap (λ ps. Some n ∷ ps) (places_on cs more (n + 1) is later))

-- the metadata columns behind the others
behind_others : (place : ℕ) (cs more : List (List ℕ)) → list_any is_metadata cs ≡ false → metadata_from place (cs ++ more) ≡ metadata_from (place + length cs) more
unfolding metadata_from
behind_others place [] more h = ap (λ n. metadata_from n more) (omega arith)
behind_others place (c ∷ cs) more h =
    let parts = or_parts (is_metadata c) (list_any is_metadata cs) h in
    rw parts.0 (behind_others (place + 1) cs more parts.1 ∙ ap (λ n. metadata_from n more) (omega arith))

keys_numbered : (place : ℕ) (ks : List MetadataKey) → metadata_from place (map key_column ks) ≡ numbered place ks
unfolding metadata_from
keys_numbered place [] = refl
keys_numbered place (k ∷ ks) = ap (λ cs. record { key = k.key; place = place } ∷ cs) (keys_numbered (place + 1) ks)

same_keys : (place : ℕ) (ks : List MetadataKey) → map metadata_key (numbered place ks) ≡ map (λ k. k.key) ks
same_keys place [] = refl
same_keys place (k ∷ ks) = ap (λ ts. k.key ∷ ts) (same_keys (place + 1) ks)

-- what is in order stays as it is
placed_first : (x : MetadataColumn) (xs : List MetadataColumn) → AllByRecursion (λ u. slice_cmp nat_cmp x.key u ≡ Less) (map metadata_key xs) → placed metadata_key x xs ≡ x ∷ xs
unfolding placed
placed_first x [] above = refl
placed_first x (y ∷ ys) above = rw above.0 refl

kept_order : (xs : List MetadataColumn) → RiseBy metadata_key xs → in_order metadata_key xs ≡ xs
unfolding IsStrictlySortedBy
kept_order [] rise = refl
kept_order (x ∷ xs) rise = rw (kept_order xs rise.1) (placed_first x xs rise.0)

trimmed_key : (k : MetadataKey) → is_id k.key ≡ true → trimmed (key_column k) ≡ key_column k
trimmed_key k good =
    let parts = and_parts (is_filled k.key) (has_plain_ends k.key) (id_plain k.key good) in
    let back : get_or (key_column k) (length (key_column k) - 1) 0 ≢ 32 = λ e. last_of_plain k.key parts.1 (sym (last_append (codes "metadata.") k.key (filled_long k.key parts.0)) ∙ e) in
    let ends = and_parts (is_filled (key_column k)) (has_plain_ends (key_column k)) (plain_text_from (key_column k) (omega arith) (λ e. cc e) back) in
    trimmed_same (key_column k) ends.0 ends.1

trimmed_keys : (ks : List MetadataKey) → AllByRecursion (λ k. is_id k.key ≡ true) ks → map trimmed (map key_column ks) ≡ map key_column ks
trimmed_keys [] good = refl
trimmed_keys (k ∷ ks) good = rw (trimmed_key k good.0, trimmed_keys ks good.1) refl

new_all : (cs : List (List ℕ)) (ks : List MetadataKey) → list_any is_metadata cs ≡ false → AllNew cs ks
new_all cs [] h = tt
new_all cs (k ∷ ks) h = (new_columns cs k h, new_all cs ks h)

-- the header that a written one spells
abbrev pub read_header : Kind → List MetadataKey → Header
read_header kind ks = record { places = count_from 0 (table kind); metadata = numbered (length (table kind)) ks; width = length (table kind) + length ks }

map_append : (f : List ℕ → List ℕ) (xs ys : List (List ℕ)) → map f (xs ++ ys) ≡ map f xs ++ map f ys
map_append f [] ys = refl
map_append f (x ∷ xs) ys = ap (λ zs. f x ∷ zs) (map_append f xs ys)

header_is : (kind : Kind) (ks : List MetadataKey) → RiseBy (λ k. k.key) ks → header_from kind (columns kind ++ map key_column ks) ≡ read_header kind ks
unfolding header_from
header_is kind ks rise =
    let p = plain kind in
    let keys = behind_others 0 (columns kind) (map key_column ks) p.other ∙ ap (λ n. metadata_from n (map key_column ks)) (omega (arith, length-map (table kind) (λ i. i.column))) ∙ keys_numbered (length (table kind)) ks in
    let ordered = kept_order (numbered (length (table kind)) ks) (rw (same_keys (length (table kind)) ks) rise) in
    rw (places_on (columns kind) (map key_column ks) 0 (table kind) p.places, keys, ordered, length-append (columns kind) (map key_column ks), length-map (table kind) (λ i. i.column), length-map ks key_column) refl

pub header_back : (kind : Kind) (mode : Mode) (ks : List MetadataKey) → AllByRecursion (λ k. is_id k.key ≡ true) ks → RiseBy (λ k. k.key) ks → header_of kind mode (written_header kind ks) ≡ Ok (read_header kind ks)
unfolding header_of
header_back kind mode ks good rise =
    let p = plain kind in
    let names : columns_of (written_header kind ks) ≡ columns kind ++ map key_column ks = map_append trimmed (columns kind) (map key_column ks) ∙ rw (p.trims, trimmed_keys ks good) refl in
    let once = checked_on kind [] (columns kind) (map key_column ks) p.once ∙ keys_checked kind (onto (columns kind) []) ks good rise (new_all (onto (columns kind) []) ks (any_onto (columns kind) [] p.other refl)) in
    let whole = required_on kind mode (columns kind) (map key_column ks) 0 (table kind) p.whole in
    rw (names, once, whole, header_is kind ks rise) refl
