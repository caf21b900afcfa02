-- The parts of a set that list what a copy holds.
use Rattle.std.proofs.Common.{◌≡◌, ℕ, ◌==◌, true, ◌&&◌, ◌||◌, List, [], ◌∷◌, ◌++◌, bytes_eq, map, None, refl, sym, ap}
use Rattle.std.proofs.Common.{subst, ◌∙◌}
use Rattle.std.proofs.Math.Bool.{and-true}
use Rattle.std.proofs.lemmas.List.{map-append}
use Rattle.std.proofs.lemmas.List.Elements.{All-from_recursion, All-head, All-tail}
use Rattle.std.specs.List.{All, AllByRecursion, IsDistinct, flat_map, list_any}
use Rattle.std.specs.List.Sorted.{IsStrictlySortedBy}
use Rattle.std.specs.Ordering.{nat_cmp}
use Rattle.std.specs.declared.cmp.Ordering.TheVariants.{Less}
use Rattle.hub_cascade.proofs.Ordering.{IsAbove, list_above, list_first}
use Rattle.hub_cascade.specs.Steps.{AreHeldParts, IsHeldPart, ListsHeld, dated, held_part, part_of}
use Rattle.keeper_memory.proofs.DistinctIds.{distinct_ids}
use Rattle.keeper_memory.specs.copy.Copies.{Copy, held_list}
use Rattle.keeper_memory.specs.copy.Lists.{IsList}
use Rattle.roster_types.specs.Keys.{Ascends, row_key}
use Rattle.roster_types.specs.Records.{Record}
use Rattle.roster_types.specs.Sets.{AreParts, IsDatedOrZero, IsPart}
use Rattle.roster_types.specs.declared.set.SetPart.{SetPart}
use Rattle.roster_types.specs.declared.set_row.SetRow.{SetRow}
use Rattle.roster_values.proofs.KindLaws.{kind_places_rise}
use Rattle.roster_values.specs.Kinds.{all_kinds, place_of_kind}
use Rattle.roster_values.specs.declared.kind.Kind.{Kind}
use Rattle.roster_values.specs.declared.kind.Kind.TheVariants.{Orgs}
use Rattle.version_changes.specs.sets.Applying.{is_bulk, is_whole}
use Rattle.version_core.proofs.PutLemmas.{all_append}

-- ---- part by part

pub parts_push : (kinds : List Kind) (parts : List SetPart) (kind : Kind) (part : SetPart) → AreHeldParts kinds parts → IsHeldPart kind part → AreHeldParts (kinds ++ kind ∷ []) (parts ++ part ∷ [])
parts_push [] [] kind part are is = (is, tt)
parts_push [] (p ∷ ps) kind part are is = absurd are
parts_push (k ∷ ks) [] kind part are is = absurd are
parts_push (k ∷ ks) (p ∷ ps) kind part are is = (are.0, parts_push ks ps kind part are.1 is)

abbrev row_in : SetRow → Record
row_in listed = listed.row

abbrev id_in : SetRow → List ℕ
id_in listed = listed.row.id

abbrev pub all_rows : List SetPart → List Record
all_rows parts = flat_map (λ part. map row_in part.rows) parts

undated : (rows : List Record) → map row_in (map dated rows) ≡ rows
undated [] = refl
undated (row ∷ rows) = ap (λ rs. row ∷ rs) (undated rows)

-- ---- the rows of the parts

listed : (kinds : List Kind) (parts : List SetPart) → AreHeldParts kinds parts → flat_map (λ part. part.rows) parts ≡ map dated (all_rows parts)
listed [] [] are = refl
listed [] (p ∷ ps) are = absurd are
listed (k ∷ ks) [] are = absurd are
listed (k ∷ ks) (p ∷ ps) are =
    let is : p.rows ≡ map dated are.0.rows = ap (λ (q : SetPart). q.rows) are.0.is in
    let here : p.rows ≡ map dated (map row_in p.rows) = is ∙ ap (map dated) (sym (ap (map row_in) is ∙ undated are.0.rows)) in
    (λ i. here i ++ listed ks ps are.1 i) ∙ sym (map-append dated (map row_in p.rows) (all_rows ps))

held_in : (copy : Copy) (kinds : List Kind) → all_rows (map (held_part copy) kinds) ≡ flat_map (held_list copy) kinds
held_in copy [] = refl
held_in copy (kind ∷ kinds) = λ i. undated (held_list copy kind) i ++ held_in copy kinds i

-- ---- the parts are all that there is of each kind

any_kind : (kind : Kind) → list_any (λ k. place_of_kind k == place_of_kind kind) all_kinds ≡ true
any_kind Orgs = refl
any_kind _ = refl

whole : (kind : Kind) (kinds : List Kind) (parts : List SetPart) → AreHeldParts kinds parts → is_whole parts kind ≡ list_any (λ k. place_of_kind k == place_of_kind kind) kinds
whole kind [] [] are = refl
whole kind [] (p ∷ ps) are = absurd are
whole kind (k ∷ ks) [] are = absurd are
whole kind (k ∷ ks) (p ∷ ps) are =
    let here : ((place_of_kind p.kind == place_of_kind kind) && is_bulk p.mode) ≡ (place_of_kind k == place_of_kind kind) =
    ap (λ (q : SetPart). (place_of_kind q.kind == place_of_kind kind) && is_bulk q.mode) are.0.is ∙ and-true (place_of_kind k == place_of_kind kind) in
    λ i. here i || whole kind ks ps are.1 i

-- ---- they are parts of a set

dated_kinds : (kind : Kind) (rows : List Record) → All (λ row. row.kind ≡ kind) rows → AllByRecursion (λ (r : SetRow). r.row.kind ≡ kind) (map dated rows)
dated_kinds kind [] all = tt
dated_kinds kind (row ∷ rows) all = (All-head (λ (r : Record). r.kind ≡ kind) row rows all, dated_kinds kind rows (All-tail (λ (r : Record). r.kind ≡ kind) row rows all))

dated_dates : (rows : List Record) → AllByRecursion IsDatedOrZero (map dated rows)
dated_dates [] = tt
dated_dates (row ∷ rows) = ((λ no. cc), dated_dates rows)

dated_ids : (rows : List Record) → map id_in (map dated rows) ≡ map (λ row. row.id) rows
dated_ids [] = refl
dated_ids (row ∷ rows) = ap (λ ids. row.id ∷ ids) (dated_ids rows)

list_is_part : (kind : Kind) (rows : List Record) → IsList kind rows → IsPart (part_of kind rows)
list_is_part kind rows list = record {
  kinds = All-from_recursion (λ (r : SetRow). r.row.kind ≡ kind) (map dated rows) (dated_kinds kind rows list.kinds);
  differ = subst (IsDistinct bytes_eq) (sym (dated_ids rows)) (distinct_ids None rows list.ascend);
  dates = All-from_recursion IsDatedOrZero (map dated rows) (dated_dates rows);
}

each_is_part : (kinds : List Kind) (parts : List SetPart) → AreHeldParts kinds parts → AllByRecursion IsPart parts
each_is_part [] [] are = tt
each_is_part [] (p ∷ ps) are = absurd are
each_is_part (k ∷ ks) [] are = absurd are
each_is_part (k ∷ ks) (p ∷ ps) are = (subst IsPart (sym are.0.is) (list_is_part k are.0.rows are.0.list), each_is_part ks ps are.1)

kinds_of : (kinds : List Kind) (parts : List SetPart) → AreHeldParts kinds parts → map (λ part. place_of_kind part.kind) parts ≡ map place_of_kind kinds
kinds_of [] [] are = refl
kinds_of [] (p ∷ ps) are = absurd are
kinds_of (k ∷ ks) [] are = absurd are
kinds_of (k ∷ ks) (p ∷ ps) are = λ i. place_of_kind (are.0.is i).kind ∷ kinds_of ks ps are.1 i

pub are_parts : (parts : List SetPart) → AreHeldParts all_kinds parts → AreParts parts
are_parts parts are = record {
  rise = subst (IsStrictlySortedBy nat_cmp) (sym (kinds_of all_kinds parts are)) kind_places_rise;
  parts = All-from_recursion IsPart parts (each_is_part all_kinds parts are);
}

-- ---- their rows are in order

rows_are : (kind : Kind) (part : SetPart) (is : IsHeldPart kind part) → map row_in part.rows ≡ is.rows
rows_are kind part is = ap (λ (q : SetPart). map row_in q.rows) is.is ∙ undated is.rows

all_above : (n : ℕ) (kinds : List Kind) (parts : List SetPart) → AreHeldParts kinds parts → AllByRecursion (λ m. nat_cmp n m ≡ Less) (map place_of_kind kinds) → AllByRecursion (IsAbove n) (all_rows parts)
all_above n [] [] are up = tt
all_above n [] (p ∷ ps) are up = absurd are
all_above n (k ∷ ks) [] are up = absurd are
all_above n (k ∷ ks) (p ∷ ps) are up =
    subst (λ (rs : List Record). AllByRecursion (IsAbove n) (rs ++ all_rows ps)) (sym (rows_are k p are.0))
    (all_append (IsAbove n) are.0.rows (all_rows ps) (list_above n k are.0.rows up.0 are.0.list) (all_above n ks ps are.1 up.1))

ascend : (kinds : List Kind) (parts : List SetPart) → AreHeldParts kinds parts → IsStrictlySortedBy nat_cmp (map place_of_kind kinds) → Ascends row_key (all_rows parts)
unfolding IsStrictlySortedBy
ascend [] [] are up = refl
ascend [] (p ∷ ps) are up = absurd are
ascend (k ∷ ks) [] are up = absurd are
ascend (k ∷ ks) (p ∷ ps) are up =
    subst (λ (rs : List Record). Ascends row_key (rs ++ all_rows ps)) (sym (rows_are k p are.0))
    (list_first k are.0.rows (all_rows ps) are.0.list (all_above (place_of_kind k) ks ps are.1 up.0) (ascend ks ps are.1 up.1))

-- ---- the set that they make

pub lists_held : (copies : Copy → Type 0) (feed : List ℕ) (parts : List SetPart) → AreHeldParts all_kinds parts → ((copy : Copy) → copies copy → parts ≡ map (held_part copy) all_kinds) → ListsHeld copies feed (record { feed = feed; parts = parts })
lists_held copies feed parts are held = record {
  rows = all_rows parts;
  held = record {
    order = ascend all_kinds parts are kind_places_rise;
    held = λ copy stands. ap all_rows (held copy stands) ∙ held_in copy all_kinds;
  };
  lists = record { by = refl; rows = listed all_kinds parts are; whole = λ kind. whole kind all_kinds parts are ∙ any_kind kind };
}
