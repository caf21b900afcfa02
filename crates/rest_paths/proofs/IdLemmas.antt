-- The ids that segments stand for.
use Rattle.std.proofs.Common.{◌≡◌, ℕ, suc, arith, ◌+◌, ◌<◌, ◌≤◌, Bool, true, false, ◌&&◌, List, [], ◌∷◌, ◌++◌}
use Rattle.std.proofs.Common.{append_assoc, append-nil, drop, get_or, length, Option, None, Some, IsUtf8, cond, refl}
use Rattle.std.proofs.Common.{sym, ap, ◌∙◌}
use Rattle.std.specs.Prelude.{option_map, Err, IfOk, MatchOption, Ok, Result}
use Rattle.std.specs.List.{list_all}
use Rattle.std.specs.Str.{is_utf8}
use Rattle.std.proofs.lemmas.Bool.{and_from, and_left, and_right, cond-false, cond-true, false_from_ne_true}
use Rattle.std.proofs.lemmas.Str.{IsUtf8-from_is_utf8, is_utf8-from_IsUtf8}
use Rattle.filter_grammar.specs.Escapes.{has_whole_escapes, is_url_text}
use Rattle.std.proofs.lemmas.List.{drop_all, drop_more}
use Rattle.rest_paths.specs.Paths.{id_in, ids_at}
use Rattle.rest_paths.specs.Routes.{Object, Segment, Word, objects_among}
use Rattle.rest_paths.specs.Segments.{object_places, segment_at}
use Rattle.roster_texts.specs.Digits.{◌>>=◌}
use Rattle.percent_encoding.specs.Percent.{percent_decode}
use Rattle.roster_texts.specs.Texts.{is_id}

abbrev pub id_if : List ℕ → Option (List ℕ)
id_if text = cond (is_id text) (Some text) None

-- a segment whose escapes are whole and stand for UTF-8 is an id where its text is
pub whole_id : (t text : List ℕ) → has_whole_escapes t ≡ true → IsUtf8 (percent_decode t) → text ≡ percent_decode t → id_in t ≡ id_if text
unfolding id_in is_url_text
whole_id t text whole utf8 e = rw (whole, is_utf8-from_IsUtf8 _ utf8) (ap id_if (sym e))

pub broken_escape : (t : List ℕ) → has_whole_escapes t ≡ false → id_in t ≡ None
unfolding id_in is_url_text
broken_escape t broken = rw broken refl

pub broken_text : (t : List ℕ) → ¬ (IsUtf8 (percent_decode t)) → id_in t ≡ None
unfolding id_in is_url_text
broken_text t broken =
    let test : is_utf8 (percent_decode t) ≡ false = false_from_ne_true _ (λ good. broken (IsUtf8-from_is_utf8 _ good)) in
    cond-false _ _ _ (and_left _ _ (and_right (has_whole_escapes t) _ test))

-- what reading the text gives is the segment's id
pub read_is : {E : Type 0} (t text : List ℕ) (r : Result (Option (List ℕ)) E) → id_in t ≡ id_if text → IfOk r (λ o. MatchOption o (is_id text ≡ false) (λ i. (is_id text ≡ true) × (i ≡ text))) → IfOk r (λ o. o ≡ id_in t)
read_is t text (Err e) same given = tt
read_is t text (Ok None) same given = sym (same ∙ cond-false _ _ _ given)
read_is t text (Ok (Some i)) same given = ap Some given.1 ∙ sym (same ∙ cond-true _ _ _ given.0)

-- the ids that were read already, and those that are left
abbrev pub onto : List (List ℕ) → Option (List (List ℕ)) → Option (List (List ℕ))
onto front rest = option_map (λ ids. front ++ ids) rest

onto_one : (front : List (List ℕ)) (id : List ℕ) (rest : Option (List (List ℕ))) → onto front (rest >>= (λ ids. Some (id ∷ ids))) ≡ onto (front ++ id ∷ []) rest
onto_one front id None = refl
onto_one front id (Some ids) = ap Some (sym (append_assoc front (id ∷ []) ids))

pub onto_start : (rest : Option (List (List ℕ))) → rest ≡ onto [] rest
onto_start None = refl
onto_start (Some ids) = refl

-- one more id
pub id_read : (all : Option (List (List ℕ))) (path : List ℕ) (places : List ℕ) (i : ℕ) (front more : List (List ℕ)) (id : List ℕ) → all ≡ onto front (ids_at (drop i places) path) → i < length places
    → Some id ≡ id_in (segment_at (get_or places i 0) path) → more ≡ front ++ id ∷ [] → all ≡ onto more (ids_at (drop (i + 1) places) path)
unfolding ids_at
id_read all path places i front more id so_far inside e grown =
    so_far
    ∙ ap (λ l. onto front (ids_at l path)) (drop_more places i 0 inside)
    ∙ ap (λ o. onto front (o >>= (λ id. ids_at (drop (i + 1) places) path >>= (λ ids. Some (id ∷ ids))))) (sym e)
    ∙ onto_one front id (ids_at (drop (i + 1) places) path)
    ∙ ap (λ l. onto l (ids_at (drop (i + 1) places) path)) (sym grown)

pub id_refused : (all : Option (List (List ℕ))) (path : List ℕ) (places : List ℕ) (i : ℕ) (front : List (List ℕ)) → all ≡ onto front (ids_at (drop i places) path) → i < length places
    → None ≡ id_in (segment_at (get_or places i 0) path) → None ≡ all
unfolding ids_at
id_refused all path places i front so_far inside e =
    sym (so_far
    ∙ ap (λ l. onto front (ids_at l path)) (drop_more places i 0 inside)
    ∙ ap (λ o. onto front (o >>= (λ id. ids_at (drop (i + 1) places) path >>= (λ ids. Some (id ∷ ids))))) (sym e))

pub ids_read : (all : Option (List (List ℕ))) (path : List ℕ) (places : List ℕ) (i : ℕ) (front : List (List ℕ)) → all ≡ onto front (ids_at (drop i places) path) → length places ≤ i → Some front ≡ all
unfolding ids_at
ids_read all path places i front so_far past =
    sym (so_far ∙ ap (λ l. onto front (ids_at l path)) (drop_all i places past) ∙ ap Some (append-nil front))

counted : (id : List ℕ) (rest : Option (List (List ℕ))) (ids : List (List ℕ)) (n : ℕ) → ((ids : List (List ℕ)) → Some ids ≡ rest → length ids ≡ n) → Some ids ≡ (rest >>= (λ ids. Some (id ∷ ids))) → length ids ≡ suc n
counted id None ids n later e = cc
counted id (Some more) ids n later e = let same : ids ≡ id ∷ more = cc in let few : length more ≡ n = later more refl in omega (arith, ap length same)

count_step : (found : Option (List ℕ)) (rest : Option (List (List ℕ))) (ids : List (List ℕ)) (n : ℕ) → ((ids : List (List ℕ)) → Some ids ≡ rest → length ids ≡ n) → Some ids ≡ (found >>= (λ id. rest >>= (λ ids. Some (id ∷ ids)))) → length ids ≡ suc n
count_step None rest ids n later e = cc
count_step (Some id) rest ids n later e = counted id rest ids n later e

-- one id for each place
pub length-ids_at : (places path : List ℕ) (ids : List (List ℕ)) → Some ids ≡ ids_at places path → length ids ≡ length places
unfolding ids_at
length-ids_at [] path ids e = let none : ids ≡ [] = cc in ap length none
length-ids_at (place ∷ places) path ids e = count_step (id_in (segment_at place path)) (ids_at places path) ids (length places) (length-ids_at places path) e

-- and one place for each object
pub length-object_places : (n : ℕ) (segments : List Segment) → length (object_places n segments) ≡ length (objects_among segments)
length-object_places n [] = refl
length-object_places n (Word word ∷ segments) = length-object_places (n + 1) segments
length-object_places n (Object collection ∷ segments) = ap suc (length-object_places (n + 1) segments)

by_test : (url good : Bool) (text id : List ℕ) → is_id text ≡ good → Some id ≡ cond (url && good) (Some text) None → is_id id ≡ true
by_test true true text id is e = let same : text ≡ id = cc in ap is_id (sym same) ∙ is
by_test true false text id is e = cc
by_test false good text id is e = cc

good_id : (segment id : List ℕ) → Some id ≡ id_in segment → is_id id ≡ true
unfolding id_in
good_id segment id e = by_test (is_url_text segment) (is_id (percent_decode segment)) (percent_decode segment) id refl e

good_ids : (id : List ℕ) (rest : Option (List (List ℕ))) (ids : List (List ℕ)) → is_id id ≡ true → ((ids : List (List ℕ)) → Some ids ≡ rest → list_all is_id ids ≡ true) → Some ids ≡ (rest >>= (λ ids. Some (id ∷ ids))) → list_all is_id ids ≡ true
good_ids id None ids good later e = cc
good_ids id (Some more) ids good later e = let same : id ∷ more ≡ ids = cc in ap (list_all is_id) (sym same) ∙ and_from (is_id id) (list_all is_id more) good (later more refl)

good_step : (segment : List ℕ) (found : Option (List ℕ)) (rest : Option (List (List ℕ))) (ids : List (List ℕ)) → found ≡ id_in segment → ((ids : List (List ℕ)) → Some ids ≡ rest → list_all is_id ids ≡ true) → Some ids ≡ (found >>= (λ id. rest >>= (λ ids. Some (id ∷ ids)))) → list_all is_id ids ≡ true
good_step segment None rest ids is later e = cc
good_step segment (Some id) rest ids is later e = good_ids id rest ids (good_id segment id is) later e

-- each of them is an id
pub all_ids : (places path : List ℕ) (ids : List (List ℕ)) → Some ids ≡ ids_at places path → list_all is_id ids ≡ true
unfolding ids_at
all_ids [] path ids e = let none : [] ≡ ids = cc in ap (list_all is_id) (sym none)
all_ids (place ∷ places) path ids e = good_step (segment_at place path) (id_in (segment_at place path)) (ids_at places path) ids refl (all_ids places path) e
