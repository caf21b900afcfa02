-- The entries of a delta: of which rows they speak, and how many they are.
use Rattle.std.proofs.Common.{suc, ◌+◌, ◌≤◌, List, [], ◌∷◌, Bool, true, false, not, cond, filter, length, map, arith}
use Rattle.std.specs.List.{AllByRecursion}
use Rattle.std.specs.declared.cmp.Ordering.TheVariants.{Equal, Greater, Less}
use Rattle.roster_types.specs.Keys.{Key, key_cmp}
use Rattle.roster_types.specs.Records.{Record}
use Rattle.roster_values.specs.declared.kind.Kind.{Kind}
use Rattle.row_deltas.proofs.DeltaLemmas.{all_overlaid}
use Rattle.row_deltas.specs.Deltas.{delta_of, entry_key, gone_entry, is_lacking, stands_in}
use Rattle.row_deltas.specs.declared.entry.DeltaEntry.{DeltaEntry}
use Rattle.row_deltas.specs.declared.entry.DeltaEntry.TheVariants.{Put}
use Rattle.version_core.proofs.LookUps.{all_kept}
use Rattle.version_core.specs.Order.{by_order, overlaid, put}

length-put : {X : Type 0} (key : X → Key) (x : X) (xs : List X) → length (put key x xs) ≤ suc (length xs)
length-put key x [] = omega arith
length-put key x (y ∷ ys) =
    let more = length-put key x ys in
    elim (key_cmp (key x) (key y)) as (λ o. length (by_order o (x ∷ y ∷ ys) (x ∷ ys) (y ∷ put key x ys)) ≤ suc (length (y ∷ ys))) [ Less ↦ omega arith | Equal ↦ omega arith | Greater ↦ omega arith ]

length-overlaid : {X : Type 0} (key : X → Key) (base changes : List X) → length (overlaid key base changes) ≤ length base + length changes
length-overlaid key base [] = omega arith
length-overlaid key base (x ∷ changes) = omega (arith, length-put key x (overlaid key base changes), length-overlaid key base changes)

fewer_kept : {X Y : Type 0} (f : X → Y) (p : X → Bool) (xs : List X) → length (map f (filter p xs)) ≤ length xs
fewer_kept f p [] = omega arith
fewer_kept f p (x ∷ xs) =
    let rest = fewer_kept f p xs in
    elim (p x) as (λ b. length (map f (cond b (x ∷ filter p xs) (filter p xs))) ≤ length (x ∷ xs)) [ true ↦ omega arith | false ↦ omega arith ]

-- a delta isn't longer than the lists together
pub length-delta : (kind : Kind) (olds news : List Record) → length (delta_of kind olds news) ≤ length olds + length news
unfolding delta_of
length-delta kind olds news =
    let stays : Record → Bool = λ row. not (stands_in olds row) in
    omega (arith, length-overlaid (entry_key kind) (map Put (filter stays news)) (map gone_entry (filter (is_lacking news) olds)), fewer_kept Put stays news, fewer_kept gone_entry (is_lacking news) olds)

all_mapped : {X Y : Type 0} (f : X → Y) (P : Y → Type 0) (xs : List X) → AllByRecursion (λ x. P (f x)) xs → AllByRecursion P (map f xs)
all_mapped f P [] all = tt
all_mapped f P (x ∷ xs) all = (all.0, all_mapped f P xs all.1)

-- each is that of a row which is put, or which is gone
pub all_entries : (kind : Kind) (P : DeltaEntry → Type 0) (olds news : List Record) → AllByRecursion (λ row. P (gone_entry row)) olds → AllByRecursion (λ row. P (Put row)) news → AllByRecursion P (delta_of kind olds news)
unfolding delta_of
all_entries kind P olds news gones puts =
    let stays : Record → Bool = λ row. not (stands_in olds row) in
    all_overlaid kind (entry_key kind) P (map Put (filter stays news)) (map gone_entry (filter (is_lacking news) olds))
    (all_mapped Put P (filter stays news) (all_kept (λ row. P (Put row)) stays news puts))
    (all_mapped gone_entry P (filter (is_lacking news) olds) (all_kept (λ row. P (gone_entry row)) (is_lacking news) olds gones))
