-- Lists read item by item.
use Rattle.std.proofs.Common.{◌≡◌, ℕ, ◌+◌, ◌<◌, ◌≤◌, List, [], ◌∷◌, ◌++◌, length, map, cond, not, Bool, true, false}
use Rattle.std.proofs.Common.{Result, Ok, Err, refl, sym, ap, ◌∙◌, arith, append_assoc, append-nil, drop, get_or}
use Rattle.std.proofs.Common.{drop-cons, add-one, suc}
use Rattle.std.proofs.lemmas.List.{drop_all}
use Rattle.std.specs.Result.{IsErrAnd}
use Rattle.std.specs.List.{before_first, after_first, filter, position_or_len, slice_split}
use Rattle.std.proofs.lemmas.List.Splits.{slice_split_first}
use Rattle.roster_texts.specs.declared.fault.ValueFault.{ValueFault}
use Rattle.roster_values.specs.Lists.{is_comma, is_filled, item_of, items_of, read_all}
use Rattle.roster_texts.specs.Trim.{trimmed}
use Rattle.roster_base.specs.Reading.{Fails, Gives}
use Rattle.roster_base.specs.Reading.{◌>>=◌}
use Rattle.roster_base.specs.declared.refusal.Refusal.{Refusal}
use Rattle.roster_base.specs.declared.refusal.Refusal.TheVariants as refusal

no_comma_step : (b : ℕ) (t : List ℕ) (r : Bool) → is_comma b ≡ r → cond (not r) (1 + position_or_len is_comma t) 0 ≡ 1 + length t
    → (position_or_len is_comma t ≡ length t → slice_split is_comma t ≡ t ∷ []) → slice_split is_comma (b ∷ t) ≡ (b ∷ t) ∷ []
no_comma_step b t true e h below = absurd (omega arith)
no_comma_step b t false e h below = rw (e, below (omega arith)) refl

-- a text without a comma is one part
pub no_comma : (t : List ℕ) → position_or_len is_comma t ≡ length t → slice_split is_comma t ≡ t ∷ []
no_comma [] h = refl
no_comma (b ∷ t) h = no_comma_step b t (is_comma b) refl (h ∙ omega arith) (no_comma t)

pub filter_first : (t : List ℕ) (ts : List (List ℕ)) (r : Bool) → cond r (t ∷ filter is_filled ts) (filter is_filled ts) ≡ cond r (t ∷ []) [] ++ filter is_filled ts
filter_first t ts true = refl
filter_first t ts false = refl

pub last_item : (t : List ℕ) → position_or_len is_comma t ≡ length t → items_of t ≡ item_of t
unfolding items_of
last_item t h = rw (no_comma t h) refl

pub first_item : (t : List ℕ) → position_or_len is_comma t < length t → items_of t ≡ item_of (before_first is_comma t) ++ items_of (after_first is_comma t)
unfolding items_of
first_item t h =
    rw (slice_split_first is_comma t 0 h) (filter_first (trimmed (before_first is_comma t)) (map trimmed (slice_split is_comma (after_first is_comma t))) (is_filled (trimmed (before_first is_comma t))))

-- the items that were read already, and those that are left
abbrev pub onto : {A : Type 0} → List A → Result (List A) ValueFault → Result (List A) ValueFault
onto front (Ok xs) = Ok (front ++ xs)
onto front (Err e) = Err e

regroup : {A : Type 0} (front : List A) (x : A) (r : Result (List A) ValueFault) → onto front (r >>= (λ xs. Ok (x ∷ xs))) ≡ onto (front ++ x ∷ []) r
regroup front x (Ok xs) = ap (λ ys. Ok ys) (sym (append_assoc front (x ∷ []) xs))
regroup front x (Err e) = refl

pub onto_read : {A : Type 0} (read : List ℕ → Result A ValueFault) (front : List A) (t : List ℕ) (ts : List (List ℕ)) (x : A) → read t ≡ Ok x
    → onto front (read_all read (t ∷ ts)) ≡ onto (front ++ x ∷ []) (read_all read ts)
unfolding read_all
onto_read read front t ts x e = rw e (regroup front x (read_all read ts))

pub onto_refused : {A : Type 0} (read : List ℕ → Result A ValueFault) (front : List A) (t : List ℕ) (ts : List (List ℕ)) (e : ValueFault) → read t ≡ Err e
    → onto front (read_all read (t ∷ ts)) ≡ Err e
unfolding read_all
onto_refused read front t ts e h = rw h refl

pub onto_end : {A : Type 0} (read : List ℕ → Result A ValueFault) (front : List A) → onto front (read_all read []) ≡ Ok front
unfolding read_all
onto_end read front = ap (λ ys. Ok ys) (append-nil front)

pub onto_start : {A : Type 0} (r : Result (List A) ValueFault) → onto [] r ≡ r
onto_start (Ok xs) = refl
onto_start (Err e) = refl

-- a text of parts between commas: one more part was cut off, and what it gives was added
pub part_cut : (parts part : List ℕ → List (List ℕ))
    → ((text : List ℕ) → position_or_len is_comma text < length text
    → parts text ≡ part (before_first is_comma text) ++ parts (after_first is_comma text))
    → (whole front more : List (List ℕ)) (rest one later : List ℕ)
    → whole ≡ front ++ parts rest → position_or_len is_comma rest < length rest → one ≡ before_first is_comma rest
    → later ≡ after_first is_comma rest → more ≡ front ++ part one → whole ≡ more ++ parts later
part_cut parts part first whole front more rest one later is inside cut left added =
    is ∙ ap (λ those. front ++ those) (first rest inside)
    ∙ sym (append_assoc front (part (before_first is_comma rest)) (parts (after_first is_comma rest)))
    ∙ ap (λ text. (front ++ part text) ++ parts (after_first is_comma rest)) (sym cut)
    ∙ ap (λ text. (front ++ part one) ++ parts text) (sym left) ∙ ap (λ those. those ++ parts later) (sym added)

-- its last part was added
pub part_last : (parts part : List ℕ → List (List ℕ))
    → ((text : List ℕ) → position_or_len is_comma text ≡ length text → parts text ≡ part text)
    → (whole front more : List (List ℕ)) (rest : List ℕ)
    → whole ≡ front ++ parts rest → position_or_len is_comma rest ≡ length rest → more ≡ front ++ part rest → more ≡ whole
part_last parts part last whole front more rest is none added =
    added ∙ ap (λ those. front ++ those) (sym (last rest none)) ∙ sym is

-- the next item was read, or was refused
pub item_read : {A : Type 0} (read : List ℕ → Result A ValueFault) (whole : Result (List A) ValueFault) (front more : List A) (ts : List (List ℕ)) (i : ℕ) (t text : List ℕ) (x : A)
    → whole ≡ onto front (read_all read (drop i ts)) → i < length ts → t ≡ get_or ts i t → text ≡ t → read text ≡ Ok x → more ≡ front ++ x ∷ []
    → whole ≡ onto more (read_all read (drop (i + 1) ts))
item_read read whole front more ts i t text x e inside et el er em =
    let here : drop i ts ≡ t ∷ drop (suc i) ts = drop-cons ts i t inside ∙ ap (λ y. y ∷ drop (suc i) ts) (sym et) in
    let good : read t ≡ Ok x = rw (← el) er in
    e ∙ ap (λ ys. onto front (read_all read ys)) here ∙ onto_read read front t (drop (suc i) ts) x good
    ∙ ap (λ ys. onto ys (read_all read (drop (suc i) ts))) (sym em) ∙ ap (λ k. onto more (read_all read (drop k ts))) (sym (add-one i))

pub item_refused : {A : Type 0} (read : List ℕ → Result A ValueFault) (whole : Result (List A) ValueFault) (front : List A) (ts : List (List ℕ)) (i : ℕ) (t text : List ℕ) (e : Refusal ValueFault)
    → whole ≡ onto front (read_all read (drop i ts)) → i < length ts → t ≡ get_or ts i t → text ≡ t → Fails e (read text) → Fails e whole
item_refused read whole front ts i t text refusal.NoMemory ew inside et el er = tt
item_refused read whole front ts i t text (refusal.Fault f) ew inside et el er =
    let here : drop i ts ≡ t ∷ drop (suc i) ts = drop-cons ts i t inside ∙ ap (λ y. y ∷ drop (suc i) ts) (sym et) in
    let bad : read t ≡ Err f = rw (← el) er in
    ew ∙ ap (λ ys. onto front (read_all read ys)) here ∙ onto_refused read front t (drop (suc i) ts) f bad

pub all_read : {A : Type 0} (read : List ℕ → Result A ValueFault) (whole : Result (List A) ValueFault) (front : List A) (ts : List (List ℕ)) (i : ℕ)
    → whole ≡ onto front (read_all read (drop i ts)) → length ts ≤ i → whole ≡ Ok front
all_read read whole front ts i e past = e ∙ ap (λ ys. onto front (read_all read ys)) (drop_all i ts past) ∙ onto_end read front

-- an error that `?` passes on
pub passed_on : {X Y : Type 0} (view : X → Y) (r : Result X (Refusal ValueFault)) (e : Refusal ValueFault) (whole : Result Y ValueFault) → IsErrAnd r (λ f. f ≡ e) → Fails e whole → Gives view r whole
passed_on view (Ok x) e whole h f = absurd h
passed_on view (Err g) e whole h f = rw h f
