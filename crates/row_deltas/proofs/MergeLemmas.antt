-- Rows that are put and ids that are gone, merged with the rows before.
use Rattle.std.proofs.Common.{◌≡◌, ℕ, List, [], ◌∷◌, ◌++◌, bytes_eq, filter, Bool, true, false, ◌||◌, not, cond, Option}
use Rattle.std.proofs.Common.{Some, None, refl, sym, ap, subst, ◌∙◌}
use Rattle.std.proofs.lemmas.Bool.{and_from}
use Rattle.std.specs.Prelude.{option_and_then}
use Rattle.std.specs.FinMap.Entries as entries
use Rattle.std.specs.List.{list_any}
use Rattle.std.specs.Option.{option_or}
use Rattle.std.specs.Ordering.{is_eq, is_lt}
use Rattle.version_core.proofs.Below.KeyOrder.{and_first, and_second, equal_from_is_eq, found_key, key_exact}
use Rattle.version_core.proofs.Below.KeyOrder.{less_from_is_lt}
use Rattle.roster_types.specs.Keys.{Ascends, Key, is_of_kind, key_cmp, keyed, look_up, row_key}
use Rattle.roster_types.specs.Records.{Record}
use Rattle.roster_values.specs.Kinds.{place_of_kind}
use Rattle.roster_values.specs.declared.kind.Kind.{Kind}
use Rattle.row_deltas.proofs.DeltaLemmas.{Ascends-delta, after_entry, difference_leads, found_of, key_tells}
use Rattle.row_deltas.proofs.DeltaLemmas.{look_up-delta}
use Rattle.version_core.proofs.LookUps.{Ascends-filter, if_kept, look_up-filter, none_above}
use Rattle.row_deltas.specs.Deltas.{AreOf, delta_of, entry_key, ids_gone, merged, rows_put}
use Rattle.row_deltas.specs.declared.entry.DeltaEntry.{DeltaEntry}
use Rattle.row_deltas.specs.declared.entry.DeltaEntry.TheVariants.{Put, Gone}
use Rattle.version_core.proofs.OrderLemmas.{Ascends-overlaid, look_up-overlaid, same_from_look_up}

-- parts of a list of entries
pub rows_put-append : (one other : List DeltaEntry) → rows_put (one ++ other) ≡ rows_put one ++ rows_put other
rows_put-append [] other = refl
rows_put-append (Put row ∷ one) other = ap (λ rows. row ∷ rows) (rows_put-append one other)
rows_put-append (Gone id ∷ one) other = rows_put-append one other

pub ids_gone-append : (one other : List DeltaEntry) → ids_gone (one ++ other) ≡ ids_gone one ++ ids_gone other
ids_gone-append [] other = refl
ids_gone-append (Put row ∷ one) other = ids_gone-append one other
ids_gone-append (Gone id ∷ one) other = ap (λ ids. id ∷ ids) (ids_gone-append one other)

abbrev pub put_of : Option DeltaEntry → Option Record
put_of None = None
put_of (Some (Put row)) = Some row
put_of (Some (Gone id)) = None

abbrev pub is_gone : Option DeltaEntry → Bool
is_gone None = false
is_gone (Some (Put row)) = false
is_gone (Some (Gone id)) = true

module _ (kind : Kind) where
  pub rows_put_above : (k : Key) (es : List DeltaEntry) → entries.below_all key_cmp k (keyed (entry_key kind) es) ≡ true → entries.below_all key_cmp k (keyed row_key (rows_put es)) ≡ true
  rows_put_above k [] above = refl
  rows_put_above k (Put row ∷ es) above = and_from _ _ (and_first _ _ above) (rows_put_above k es (and_second _ _ above))
  rows_put_above k (Gone id ∷ es) above = rows_put_above k es (and_second _ _ above)

  pub look_up-rows_put : (k : Key) (es : List DeltaEntry) → Ascends (entry_key kind) es → look_up row_key k (rows_put es) ≡ put_of (look_up (entry_key kind) k es)
  look_up-rows_put k [] up = refl
  look_up-rows_put k (Put row ∷ es) up =
      elim (is_eq (key_cmp k (row_key row))) as (λ b. cond b (Some row) (look_up row_key k (rows_put es)) ≡ put_of (cond b (Some (Put row)) (look_up (entry_key kind) k es))) [
        | true ↦ refl
        | false ↦ look_up-rows_put k es (and_second _ _ up)
      ]
  look_up-rows_put k (Gone id ∷ es) up =
      elim (is_eq (key_cmp k (place_of_kind kind, id))) as (λ b. is_eq (key_cmp k (place_of_kind kind, id)) ≡ b → look_up row_key k (rows_put es) ≡ put_of (cond b (Some (Gone id)) (look_up (entry_key kind) k es))) [
        | true ↦ λ e.
            let same : k ≡ (place_of_kind kind, id) = key_exact k (place_of_kind kind, id) (equal_from_is_eq _ e) in
            let up' : entries.below_all key_cmp (place_of_kind kind, id) (keyed (entry_key kind) es) ≡ true = and_first _ _ up in
            none_above row_key k (rows_put es) (rows_put_above k es (subst (λ q. entries.below_all key_cmp q (keyed (entry_key kind) es) ≡ true) (sym same) up'))
        | false ↦ λ _. look_up-rows_put k es (and_second _ _ up)
      ] refl

  below_apart : (row : Record) (id : List ℕ) → is_of_kind kind row ≡ true → is_lt (key_cmp (row_key row) (place_of_kind kind, id)) ≡ true → bytes_eq row.id id ≡ false
  below_apart row id of less =
      key_tells kind row id of ∙ ap is_eq (less_from_is_lt _ less)

  none_gone : (row : Record) (es : List DeltaEntry) → is_of_kind kind row ≡ true → entries.below_all key_cmp (row_key row) (keyed (entry_key kind) es) ≡ true → list_any (bytes_eq row.id) (ids_gone es) ≡ false
  none_gone row [] of above = refl
  none_gone row (Put r ∷ es) of above = none_gone row es of (and_second _ _ above)
  none_gone row (Gone id ∷ es) of above =
      ap (λ b. b || list_any (bytes_eq row.id) (ids_gone es)) (below_apart row id of (and_first _ _ above)) ∙ none_gone row es of (and_second _ _ above)

  pub any_gone : (row : Record) (es : List DeltaEntry) → is_of_kind kind row ≡ true → Ascends (entry_key kind) es → list_any (bytes_eq row.id) (ids_gone es) ≡ is_gone (look_up (entry_key kind) (row_key row) es)
  any_gone row [] of up = refl
  any_gone row (Put r ∷ es) of up =
      elim (is_eq (key_cmp (row_key row) (row_key r))) as (λ b. is_eq (key_cmp (row_key row) (row_key r)) ≡ b → list_any (bytes_eq row.id) (ids_gone es) ≡ is_gone (cond b (Some (Put r)) (look_up (entry_key kind) (row_key row) es))) [
        | true ↦ λ e.
            let same : row_key row ≡ row_key r = key_exact (row_key row) (row_key r) (equal_from_is_eq _ e) in
            let up' : entries.below_all key_cmp (row_key r) (keyed (entry_key kind) es) ≡ true = and_first _ _ up in
            none_gone row es of (subst (λ q. entries.below_all key_cmp q (keyed (entry_key kind) es) ≡ true) (sym same) up')
        | false ↦ λ _. any_gone row es of (and_second _ _ up)
      ] refl
  any_gone row (Gone id ∷ es) of up =
      ap (λ b. b || list_any (bytes_eq row.id) (ids_gone es)) (key_tells kind row id of)
      ∙ elim (is_eq (key_cmp (row_key row) (place_of_kind kind, id))) as (λ b. (b || list_any (bytes_eq row.id) (ids_gone es)) ≡ is_gone (cond b (Some (Gone id)) (look_up (entry_key kind) (row_key row) es))) [
        | true ↦ refl
        | false ↦ any_gone row es of (and_second _ _ up)
      ]

  module _ (held : List Record) (es : List DeltaEntry) (are : AreOf kind held) (up : Ascends row_key held) (up' : Ascends (entry_key kind) es) where
    stays : Record → Bool
    stays row = not (list_any (bytes_eq row.id) (ids_gone es))

    by : (k : Key) (o : Option Record) (e : Option DeltaEntry) → look_up row_key k held ≡ o → look_up (entry_key kind) k es ≡ e
        → option_or (put_of e) (option_and_then (if_kept row_key stays) o) ≡ after_entry kind e o
    unfolding stays
    by k None None at is = refl
    by k None (Some (Put row)) at is = refl
    by k None (Some (Gone id)) at is = refl
    by k (Some r) e at is =
        let tells : list_any (bytes_eq r.id) (ids_gone es) ≡ is_gone e = any_gone r es (found_of kind k held r are at) up' ∙ ap (λ q. is_gone (look_up (entry_key kind) q es)) (found_key row_key k held r at) ∙ ap is_gone is in
        ap (λ b. option_or (put_of e) (cond (not b) (Some r) None)) tells ∙ told r e
      where
        told : (r : Record) (e : Option DeltaEntry) → option_or (put_of e) (cond (not (is_gone e)) (Some r) None) ≡ after_entry kind e (Some r)
        told r None = refl
        told r (Some (Put row)) = refl
        told r (Some (Gone id)) = refl

    -- a row of the merged list is what the entry of its key, where there is one, makes of what was held
    pub look_up-merged : (k : Key) → look_up row_key k (merged held (rows_put es) (ids_gone es)) ≡ after_entry kind (look_up (entry_key kind) k es) (look_up row_key k held)
    unfolding merged stays
    look_up-merged k =
        look_up-overlaid row_key k (filter stays held) (rows_put es)
        ∙ (λ i. option_or (look_up-rows_put k es up' i) (look_up-filter row_key stays k held up i))
        ∙ by k (look_up row_key k held) (look_up (entry_key kind) k es) refl refl

    pub Ascends-merged : Ascends row_key (merged held (rows_put es) (ids_gone es))
    unfolding merged stays
    Ascends-merged = Ascends-overlaid row_key (filter stays held) (rows_put es) (Ascends-filter row_key stays held up)

  pub merged-delta : (old new : List Record) → AreOf kind old → AreOf kind new → Ascends row_key old → Ascends row_key new → merged old (rows_put (delta_of kind old new)) (ids_gone (delta_of kind old new)) ≡ new
  merged-delta old new are_old are_new up up' =
      let es = delta_of kind old new in
      let rise = Ascends-delta kind old new are_old are_new up up' in
      same_from_look_up row_key (merged old (rows_put es) (ids_gone es)) new (Ascends-merged old es are_old up rise) up' (λ k.
      look_up-merged old es are_old up rise k
      ∙ ap (λ e. after_entry kind e (look_up row_key k old)) (look_up-delta kind old new are_old are_new up up' k)
      ∙ difference_leads kind (look_up row_key k old) (look_up row_key k new))
