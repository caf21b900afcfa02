-- What differs, by ids among which are those of all rows that differ.
use Rattle.std.proofs.Common.{◌≡◌, ℕ, List, [], ◌∷◌, ◌++◌, true, false, cond, Option, None, Some, refl, sym, ap, subst}
use Rattle.std.proofs.Common.{◌∙◌}
use Rattle.std.proofs.lemmas.Bool.{and_from}
use Rattle.std.specs.Prelude.{option_and_then}
use Rattle.std.specs.FinMap.Entries as entries
use Rattle.std.specs.Option.{option_to_list}
use Rattle.std.specs.Ordering.{is_eq, is_lt}
use Rattle.version_core.proofs.Below.KeyOrder.{and_first, and_second, equal_from_is_eq, found_key, key_exact}
use Rattle.roster_types.specs.Keys.{Ascends, Key, key_cmp, keyed, look_up, row_key}
use Rattle.roster_types.specs.Records.{Record}
use Rattle.roster_values.specs.Kinds.{place_of_kind}
use Rattle.roster_values.specs.declared.kind.Kind.{Kind}
use Rattle.row_deltas.proofs.DeltaLemmas.{Ascends-delta, difference_same, look_up-delta}
use Rattle.version_core.proofs.LookUps.{none_above}
use Rattle.version_core.proofs.OrderLemmas.{same_from_look_up}
use Rattle.version_core.specs.Spans.{key_in}
use Rattle.row_deltas.specs.Deltas.{AreOf, Cover, delta_of, difference, entries_at, entry_key}
use Rattle.row_deltas.specs.Sameness.{same_row}
use Rattle.row_deltas.specs.declared.entry.DeltaEntry.{DeltaEntry}
use Rattle.row_deltas.specs.declared.entry.DeltaEntry.TheVariants.{Put, Gone}

module _ (kind : Kind) (old new : List Record) where
  abbrev at : List ℕ → Option DeltaEntry
  at id = difference (look_up row_key (key_in kind id) old) (look_up row_key (key_in kind id) new)

  -- what differs under a key has it
  entry_keyed : (id : List ℕ) (e : DeltaEntry) → at id ≡ Some e → entry_key kind e ≡ key_in kind id
  entry_keyed id e is = by (look_up row_key (key_in kind id) old) (look_up row_key (key_in kind id) new) refl refl is
    where
      put_keyed : (n : Record) → look_up row_key (key_in kind id) new ≡ Some n → Some (Put n) ≡ Some e → entry_key kind e ≡ key_in kind id
      put_keyed n found same = let so : Put n ≡ e = cc in sym (ap (entry_key kind) so) ∙ found_key row_key (key_in kind id) new n found

      by : (o n : Option Record) → look_up row_key (key_in kind id) old ≡ o → look_up row_key (key_in kind id) new ≡ n → difference o n ≡ Some e → entry_key kind e ≡ key_in kind id
      by None None found found' same = cc
      by None (Some n) found found' same = put_keyed n found' same
      by (Some o) None found found' same =
          let so : Gone o.id ≡ e = cc in
          sym (ap (entry_key kind) so) ∙ ap (λ (k : Key). (place_of_kind kind, k.1)) (found_key row_key (key_in kind id) old o found)
      by (Some o) (Some n) found found' same =
          elim (same_row n o) as (λ b. cond b None (Some (Put n)) ≡ Some e → entry_key kind e ≡ key_in kind id) [
            | true ↦ λ impossible. cc
            | false ↦ λ same. put_keyed n found' same
          ] same

  below_at : (k : Key) (ids : List (List ℕ)) → entries.below_all key_cmp k (keyed (key_in kind) ids) ≡ true → entries.below_all key_cmp k (keyed (entry_key kind) (entries_at kind old new ids)) ≡ true
  below_at k [] below = refl
  below_at k (id ∷ ids) below =
      elim (at id) as (λ o. at id ≡ o → entries.below_all key_cmp k (keyed (entry_key kind) (option_to_list o ++ entries_at kind old new ids)) ≡ true) [
        | None ↦ λ _. below_at k ids (and_second _ _ below)
        | Some e ↦ λ is. and_from _ _ (ap (λ q. is_lt (key_cmp k q)) (entry_keyed id e is) ∙ and_first _ _ below) (below_at k ids (and_second _ _ below))
      ] refl

  Ascends-at : (ids : List (List ℕ)) → Ascends (key_in kind) ids → Ascends (entry_key kind) (entries_at kind old new ids)
  Ascends-at [] up = refl
  Ascends-at (id ∷ ids) up =
      let above : entries.below_all key_cmp (key_in kind id) (keyed (key_in kind) ids) ≡ true = and_first _ _ up in
      elim (at id) as (λ o. at id ≡ o → Ascends (entry_key kind) (option_to_list o ++ entries_at kind old new ids)) [
        | None ↦ λ _. Ascends-at ids (and_second _ _ up)
        | Some e ↦ λ is. and_from _ _
            (subst (λ q. entries.below_all key_cmp q (keyed (entry_key kind) (entries_at kind old new ids)) ≡ true) (sym (entry_keyed id e is)) (below_at (key_in kind id) ids above))
            (Ascends-at ids (and_second _ _ up))
      ] refl

  look_up-at : (k : Key) (ids : List (List ℕ)) → Ascends (key_in kind) ids → look_up (entry_key kind) k (entries_at kind old new ids) ≡ option_and_then at (look_up (key_in kind) k ids)
  look_up-at k [] up = refl
  look_up-at k (id ∷ ids) up =
      let above : entries.below_all key_cmp (key_in kind id) (keyed (key_in kind) ids) ≡ true = and_first _ _ up in
      let rest = look_up-at k ids (and_second _ _ up) in
      elim (at id) as (λ o. at id ≡ o → look_up (entry_key kind) k (option_to_list o ++ entries_at kind old new ids) ≡ option_and_then at (cond (is_eq (key_cmp k (key_in kind id))) (Some id) (look_up (key_in kind) k ids))) [
        | None ↦ λ is. elim (is_eq (key_cmp k (key_in kind id))) as (λ b. is_eq (key_cmp k (key_in kind id)) ≡ b → look_up (entry_key kind) k (entries_at kind old new ids) ≡ option_and_then at (cond b (Some id) (look_up (key_in kind) k ids))) [
          | true ↦ λ here.
              let same : k ≡ key_in kind id = key_exact k (key_in kind id) (equal_from_is_eq _ here) in
              none_above (entry_key kind) k (entries_at kind old new ids) (subst (λ q. entries.below_all key_cmp q (keyed (entry_key kind) (entries_at kind old new ids)) ≡ true) (sym same) (below_at (key_in kind id) ids above)) ∙ sym is
          | false ↦ λ _. rest
        ] refl
        | Some e ↦ λ is.
            ap (λ q. cond (is_eq (key_cmp k q)) (Some e) (look_up (entry_key kind) k (entries_at kind old new ids))) (entry_keyed id e is)
            ∙ elim (is_eq (key_cmp k (key_in kind id))) as (λ b. cond b (Some e) (look_up (entry_key kind) k (entries_at kind old new ids)) ≡ option_and_then at (cond b (Some id) (look_up (key_in kind) k ids))) [
              | true ↦ sym is
              | false ↦ rest
            ]
      ] refl

  module _ (are_old : AreOf kind old) (are_new : AreOf kind new) (up : Ascends row_key old) (up' : Ascends row_key new) where
    at_key : (ids : List (List ℕ)) → Cover kind old new ids → (k : Key) (o : Option (List ℕ)) → look_up (key_in kind) k ids ≡ o → difference (look_up row_key k old) (look_up row_key k new) ≡ option_and_then at o
    at_key ids cover k None none = ap (λ o. difference o (look_up row_key k new)) (cover k none) ∙ difference_same kind (look_up row_key k new)
    at_key ids cover k (Some id) found = λ i. difference (look_up row_key (sym (found_key (key_in kind) k ids id found) i) old) (look_up row_key (sym (found_key (key_in kind) k ids id found) i) new)

    pub delta-at : (ids : List (List ℕ)) → Ascends (key_in kind) ids → Cover kind old new ids → delta_of kind old new ≡ entries_at kind old new ids
    delta-at ids rise cover =
        same_from_look_up (entry_key kind) (delta_of kind old new) (entries_at kind old new ids) (Ascends-delta kind old new are_old are_new up up') (Ascends-at ids rise) (λ k.
        look_up-delta kind old new are_old are_new up up' k
        ∙ at_key ids cover k (look_up (key_in kind) k ids) refl
        ∙ sym (look_up-at k ids rise))
