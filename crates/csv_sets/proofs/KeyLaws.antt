-- Metadata that is written under keys in order is read back.
use Rattle.std.proofs.Common.{◌≡◌, ◌+◌, ◌⊎◌, inl, inr, ℕ, zero, suc, List, [], ◌∷◌, ◌++◌, map, drop, length, Bool, true}
use Rattle.std.proofs.Common.{false, Some, Less, Equal, Greater, Ordering, nat_cmp, is_eq, bytes_eq, refl, sym, ap, ◌∙◌}
use Rattle.std.proofs.Common.{subst, add-one}
use Rattle.std.proofs.lemmas.Bool.{and_parts, ne_eqb}
use Rattle.std.proofs.lemmas.Cmp.{nat_list_cmp_total}
use Rattle.std.proofs.lemmas.Map.Text.{is_eq-slice_cmp}
use Rattle.std.proofs.lemmas.Slice.Eq.{bytes_eq-Decides}
use Rattle.std.specs.Cmp.Lexicographic.{slice_cmp}
use Rattle.std.specs.List.{AllByRecursion, list_all, list_any}
use Rattle.std.specs.List.Sorted.{IsStrictlySortedBy}
use Rattle.std.specs.Ordering.{match_ordering}
use Rattle.std.specs.Prelude.{◌||◌, ◌==◌, ⊤, unwrap_or}
use Rattle.csv.specs.Records.{field_at}
use Rattle.roster_base.specs.Order.{RiseBy, in_order, placed}
use Rattle.roster_texts.specs.Trim.{trimmed}
use Rattle.roster_types.specs.declared.metadata.Entry.{Entry}
use Rattle.roster_types.specs.Records.{Record, has_plain_text, key_of}
use Rattle.roster_values.proofs.TrimLaws.{trimmed_same}
use Rattle.roster_values.specs.Fit.{is_plain_text}
use Rattle.roster_values.specs.Lists.{is_filled}
use Rattle.roster_texts.specs.Texts.{has_plain_ends}
use Rattle.csv_sets.specs.declared.header.MetadataColumn.{MetadataColumn}
use Rattle.csv_sets.specs.declared.keys.MetadataKey.{MetadataKey}
use Rattle.csv_sets.specs.Cells.{cell_at}
use Rattle.csv_sets.specs.Rows.{metadata_at}
use Rattle.csv_sets.specs.Written.{all_keys, entry_key, key_in, keys_of, metadata_cell}

pub less_differ : (t u : List ℕ) → slice_cmp nat_cmp t u ≡ Less → bytes_eq t u ≡ false
less_differ t u e = sym (is_eq-slice_cmp t u) ∙ ap is_eq e

pub same_bytes : (t u : List ℕ) → bytes_eq t u ≡ true → t ≡ u
same_bytes t u e = (bytes_eq-Decides t u).0 e

pub differ_back : (t u : List ℕ) → bytes_eq t u ≡ false → bytes_eq u t ≡ false
differ_back t u e = by (bytes_eq u t) refl
  where
    by : (b : Bool) → bytes_eq u t ≡ b → bytes_eq u t ≡ false
    by true q = cc (sym e ∙ ap (bytes_eq t) (same_bytes u t q) ∙ (bytes_eq-Decides t t).1 refl)
    by false q = q

-- a key among others
abbrev pub has_key : List ℕ → List MetadataKey → Bool
has_key q ks = list_any (λ k. bytes_eq k.key q) ks

abbrev pub AllHave : List MetadataKey → List Entry → Type 0
AllHave ks es = AllByRecursion (λ e. has_key e.key ks ≡ true) es

abbrev KeysAbove : List ℕ → List MetadataKey → Type 0
KeysAbove t ks = AllByRecursion (λ u. slice_cmp nat_cmp t u ≡ Less) (map key_in ks)

abbrev EntriesAbove : List ℕ → List Entry → Type 0
EntriesAbove t es = AllByRecursion (λ u. slice_cmp nat_cmp t u ≡ Less) (map key_of es)

entries_above : (t u : List ℕ) (es : List Entry) → slice_cmp nat_cmp t u ≡ Less → EntriesAbove u es → EntriesAbove t es
entries_above t u [] l h = tt
entries_above t u (e ∷ es) l h = (nat_list_cmp_total.trans t u e.key l h.0, entries_above t u es l h.1)

-- the entries' keys are some of the keys, in their order
abbrev pub Picks : List Entry → List MetadataKey → Type 0
Picks es [] = es ≡ []
Picks [] (k ∷ ks) = ⊤
Picks (e ∷ es) (k ∷ ks) = ((e.key ≡ k.key) × Picks es ks) ⊎ Picks (e ∷ es) ks

other_key : (k : MetadataKey) (q : List ℕ) (ks : List MetadataKey) → bytes_eq k.key q ≡ false → has_key q (k ∷ ks) ≡ true → has_key q ks ≡ true
other_key k q ks d h = rw d at h

later_keys : (k : MetadataKey) (ks : List MetadataKey) (es : List Entry) → EntriesAbove k.key es → AllHave (k ∷ ks) es → AllHave ks es
later_keys k ks [] above h = tt
later_keys k ks (e ∷ es) above h = (other_key k e.key ks (less_differ k.key e.key above.0) h.0, later_keys k ks es above.1 h.1)

member_above : (t q : List ℕ) (ks : List MetadataKey) → KeysAbove t ks → has_key q ks ≡ true → slice_cmp nat_cmp t q ≡ Less
member_above t q [] above h = cc h
member_above t q (k ∷ ks) above h = by (bytes_eq k.key q) refl (λ h2. member_above t q ks above.1 h2) h
  where
    by : (b : Bool) → bytes_eq k.key q ≡ b → (has_key q ks ≡ true → slice_cmp nat_cmp t q ≡ Less) → has_key q (k ∷ ks) ≡ true → slice_cmp nat_cmp t q ≡ Less
    by true e more h2 = subst (λ u. slice_cmp nat_cmp t u ≡ Less) (same_bytes k.key q e) above.0
    by false e more h2 = more (other_key k q ks e h2)

picks_by : (e : Entry) (es : List Entry) (k : MetadataKey) (ks : List MetadataKey) → EntriesAbove e.key es → KeysAbove k.key ks → AllHave (k ∷ ks) (e ∷ es)
    → (AllHave ks es → Picks es ks) → (AllHave ks (e ∷ es) → Picks (e ∷ es) ks) → (b : Bool) → bytes_eq k.key e.key ≡ b → Picks (e ∷ es) (k ∷ ks)
picks_by e es k ks es_above ks_above h one more true q =
    let same = same_bytes k.key e.key q in
    inl (sym same, one (later_keys k ks es (subst (λ t. EntriesAbove t es) (sym same) es_above) h.1))
picks_by e es k ks es_above ks_above h one more false q =
    let there = other_key k e.key ks q h.0 in
    inr (more (there, later_keys k ks es (entries_above k.key e.key es (member_above k.key e.key ks ks_above there) es_above) h.1))

pub picks : (es : List Entry) (ks : List MetadataKey) → RiseBy key_of es → RiseBy key_in ks → AllHave ks es → Picks es ks
unfolding IsStrictlySortedBy
picks [] [] r s h = refl
picks (e ∷ es) [] r s h = cc h.0
picks [] (k ∷ ks) r s h = tt
picks (e ∷ es) (k ∷ ks) r s h = picks_by e es k ks r.0 s.0 h (λ h2. picks es ks r.1 s.1 h2) (λ h2. picks (e ∷ es) ks r s.1 h2) (bytes_eq k.key e.key) refl

-- a key below those that are picked from has no cell
no_cell : (t : List ℕ) (es : List Entry) (ks : List MetadataKey) → Picks es ks → KeysAbove t ks → metadata_cell es t ≡ []
no_cell t es [] p above = rw p refl
no_cell t [] (k ∷ ks) p above = refl
no_cell t (e ∷ es) (k ∷ ks) (inl p) above =
    let differ : bytes_eq e.key t ≡ false = rw p.0 (differ_back t k.key (less_differ t k.key above.0)) in
    rw differ (no_cell t es ks p.1 above.1)
no_cell t (e ∷ es) (k ∷ ks) (inr p) above = no_cell t (e ∷ es) ks p above.1

-- an entry says nothing of keys above it
cells_behind : (e : Entry) (es : List Entry) (ks : List MetadataKey) → KeysAbove e.key ks → map (λ k. metadata_cell (e ∷ es) k.key) ks ≡ map (λ k. metadata_cell es k.key) ks
cells_behind e es [] above = refl
cells_behind e es (k ∷ ks) above = rw (less_differ e.key k.key above.0) (ap (λ cs. metadata_cell es k.key ∷ cs) (cells_behind e es ks above.1))

-- the columns of keys from a place on
abbrev pub numbered : ℕ → List MetadataKey → List MetadataColumn
numbered place [] = []
numbered place (k ∷ ks) = record { key = k.key; place = place } ∷ numbered (place + 1) ks

cell_here : (cells : List (List ℕ)) (n : ℕ) (c : List ℕ) (rest : List (List ℕ)) → drop n cells ≡ c ∷ rest → field_at cells n ≡ Some c
unfolding field_at
cell_here [] zero c rest e = cc e
cell_here [] (suc n) c rest e = cc e
cell_here (x ∷ cells) zero c rest e = let first : x ≡ c = cc e in ap (λ y. Some y) first
cell_here (x ∷ cells) (suc n) c rest e = cell_here cells n c rest e

cells_there : (cells : List (List ℕ)) (n : ℕ) (c : List ℕ) (rest : List (List ℕ)) → drop n cells ≡ c ∷ rest → drop (suc n) cells ≡ rest
cells_there [] zero c rest e = cc e
cells_there [] (suc n) c rest e = cc e
cells_there (x ∷ cells) zero c rest e = let later : cells ≡ rest = cc e in later
cells_there (x ∷ cells) (suc n) c rest e = cells_there cells n c rest e

-- the cell at a place, and those behind it
pub cell_from : (cells : List (List ℕ)) (n : ℕ) (c : List ℕ) (rest : List (List ℕ)) → drop n cells ≡ c ∷ rest → (cell_at cells (Some n) ≡ c) × (drop (n + 1) cells ≡ rest)
cell_from cells n c rest e = (ap (λ o. unwrap_or o []) (cell_here cells n c rest e), rw add-one (cells_there cells n c rest e))

blank_skipped : (c : MetadataColumn) (cs : List MetadataColumn) (cells : List (List ℕ)) → cell_at cells (Some c.place) ≡ [] → metadata_at (c ∷ cs) cells ≡ metadata_at cs cells
unfolding metadata_at trimmed
blank_skipped c cs cells e = rw e refl

not_zero : (t : List ℕ) → is_plain_text t ≡ true → (length t == 0) ≡ false
not_zero [] h = cc h
not_zero (b ∷ t) h = ne_eqb (length (b ∷ t)) 0 (λ z. cc z)

plain_read : (key : List ℕ) (place : ℕ) (cs : List MetadataColumn) (cells : List (List ℕ)) (e : Entry) → cell_at cells (Some place) ≡ e.text → e.key ≡ key → is_plain_text e.text ≡ true
    → metadata_at (record { key = key; place = place } ∷ cs) cells ≡ e ∷ metadata_at cs cells
unfolding metadata_at
plain_read key place cs cells e is k plain =
    let parts = and_parts (is_filled e.text) (has_plain_ends e.text) plain in
    rw (is, trimmed_same e.text parts.0 parts.1, not_zero e.text plain, ← k) refl

none_picked : (ks : List MetadataKey) → Picks [] ks
none_picked [] = refl
none_picked (k ∷ ks) = tt

pub metadata_back : (cells : List (List ℕ)) (n : ℕ) (es : List Entry) (ks : List MetadataKey) → Picks es ks → RiseBy key_in ks → list_all has_plain_text es ≡ true
    → drop n cells ≡ map (λ k. metadata_cell es k.key) ks → metadata_at (numbered n ks) cells ≡ es
unfolding metadata_at IsStrictlySortedBy
metadata_back cells n es [] p r plain d = sym p
metadata_back cells n [] (k ∷ ks) p r plain d =
    let c = cell_from cells n [] _ d in
    blank_skipped (record { key = k.key; place = n }) (numbered (n + 1) ks) cells c.0 ∙ metadata_back cells (n + 1) [] ks (none_picked ks) r.1 refl c.1
metadata_back cells n (e ∷ es) (k ∷ ks) (inl p) r plain d =
    let parts = and_parts (has_plain_text e) (list_all has_plain_text es) plain in
    let here : metadata_cell (e ∷ es) k.key ≡ e.text = rw (p.0, (bytes_eq-Decides k.key k.key).1 refl) refl in
    let c = cell_from cells n e.text (map (λ k2. metadata_cell es k2.key) ks) (d ∙ rw (here, cells_behind e es ks (subst (λ t. KeysAbove t ks) (sym p.0) r.0)) refl) in
    plain_read k.key n (numbered (n + 1) ks) cells e c.0 p.0 parts.0 ∙ ap (λ more. e ∷ more) (metadata_back cells (n + 1) es ks p.1 r.1 parts.1 c.1)
metadata_back cells n (e ∷ es) (k ∷ ks) (inr p) r plain d =
    let c = cell_from cells n [] (map (λ k2. metadata_cell (e ∷ es) k2.key) ks) (d ∙ rw (no_cell k.key (e ∷ es) ks p r.0) refl) in
    blank_skipped (record { key = k.key; place = n }) (numbered (n + 1) ks) cells c.0 ∙ metadata_back cells (n + 1) (e ∷ es) ks p r.1 plain c.1

-- putting keys in order loses none
or_true : (a b : Bool) → b ≡ true → (a || b) ≡ true
or_true true b h = refl
or_true false b h = h

kept_placed : (q : List ℕ) (x : MetadataKey) (ks : List MetadataKey) → has_key q (x ∷ ks) ≡ true → has_key q (placed key_in x ks) ≡ true
unfolding placed
kept_placed q x [] h = h
kept_placed q x (y ∷ ys) h = by (slice_cmp nat_cmp x.key y.key) refl (λ h2. kept_placed q x ys h2)
  where
    by : (o : Ordering) → slice_cmp nat_cmp x.key y.key ≡ o → (has_key q (x ∷ ys) ≡ true → has_key q (placed key_in x ys) ≡ true)
        → has_key q (match_ordering o (x ∷ y ∷ ys) (x ∷ ys) (y ∷ placed key_in x ys)) ≡ true
    by Less e more = h
    by Equal e more = twice (bytes_eq x.key q) (bytes_eq y.key q) (has_key q ys) (ap (λ t. bytes_eq t q) (same_bytes x.key y.key (sym (is_eq-slice_cmp x.key y.key) ∙ ap is_eq e))) h
      where
        twice : (a b r : Bool) → a ≡ b → (a || (b || r)) ≡ true → (a || r) ≡ true
        twice true b r e2 h2 = refl
        twice false b r e2 h2 = rw (← e2) at h2
    by Greater e more = swap (bytes_eq x.key q) (bytes_eq y.key q) (has_key q ys) (has_key q (placed key_in x ys)) more h
      where
        swap : (a b r p : Bool) → ((a || r) ≡ true → p ≡ true) → (a || (b || r)) ≡ true → (b || p) ≡ true
        swap a true r p m h2 = refl
        swap a false r p m h2 = m h2

pub kept_in_order : (q : List ℕ) (ks : List MetadataKey) → has_key q ks ≡ true → has_key q (in_order key_in ks) ≡ true
kept_in_order q [] h = h
kept_in_order q (k ∷ ks) h = kept_placed q k (in_order key_in ks) (by (bytes_eq k.key q) (λ h2. kept_in_order q ks h2) h)
  where
    by : (b : Bool) → (has_key q ks ≡ true → has_key q (in_order key_in ks) ≡ true) → (b || has_key q ks) ≡ true → (b || has_key q (in_order key_in ks)) ≡ true
    by true more h2 = refl
    by false more h2 = more h2

-- the keys of entries, and of those behind them
in_front : (q : List ℕ) (xs ys : List MetadataKey) → has_key q ys ≡ true → has_key q (xs ++ ys) ≡ true
in_front q [] ys h = h
in_front q (x ∷ xs) ys h = or_true (bytes_eq x.key q) (has_key q (xs ++ ys)) (in_front q xs ys h)

own_keys : (es : List Entry) (more keys : List MetadataKey) → ((q : List ℕ) → has_key q (map entry_key es ++ more) ≡ true → has_key q keys ≡ true) → AllHave keys es
own_keys [] more keys h = tt
own_keys (e ∷ es) more keys h = (h e.key (rw ((bytes_eq-Decides e.key e.key).1 refl) refl), own_keys es more keys (λ q k. h q (or_true (bytes_eq e.key q) _ k)))

all_have : (rows : List Record) (keys : List MetadataKey) → ((q : List ℕ) → has_key q (all_keys rows) ≡ true → has_key q keys ≡ true) → AllByRecursion (λ r. AllHave keys r.metadata) rows
unfolding all_keys
all_have [] keys h = tt
all_have (r ∷ rows) keys h = (own_keys r.metadata (all_keys rows) keys h, all_have rows keys (λ q k. h q (in_front q (map entry_key r.metadata) (all_keys rows) k)))

pub rows_have : (rows : List Record) → AllByRecursion (λ r. AllHave (keys_of rows) r.metadata) rows
rows_have rows = all_have rows (keys_of rows) (λ q h. kept_in_order q (all_keys rows) h)
