-- What a delta is of lists by their first rows.
use Rattle.std.proofs.Common.{◌≡◌, List, [], ◌∷◌, filter, map, Bool, true, false, not, cond, Some, None, refl, sym, ap}
use Rattle.std.proofs.Common.{subst, ◌∙◌}
use Rattle.std.proofs.lemmas.Bool.{and_from}
use Rattle.std.specs.FinMap.Entries as entries
use Rattle.std.specs.Ordering.{is_eq, is_lt}
use Rattle.std.specs.declared.cmp.Ordering.TheVariants.{Equal, Greater, Less}
use Rattle.version_core.proofs.Below.KeyOrder.{and_first, and_second, equal_from_is_eq, key_exact}
use Rattle.roster_types.specs.Keys.{Ascends, Key, key_cmp, keyed, look_up, row_key}
use Rattle.roster_types.specs.Records.{Record}
use Rattle.roster_values.specs.declared.kind.Kind.{Kind}
use Rattle.row_deltas.proofs.DeltaLemmas.{Ascends-delta, gone_keys, kept_of, key_of, look_up-delta, put_keys}
use Rattle.version_core.proofs.LookUps.{below_kept, none_above, same_below}
use Rattle.row_deltas.specs.Deltas.{AreOf, delta_of, difference, entry_key, gone_entry, is_lacking, passed, stands_in}
use Rattle.row_deltas.specs.Sameness.{same_row}
use Rattle.row_deltas.specs.declared.entry.DeltaEntry.TheVariants.{Put, Gone}
use Rattle.version_core.proofs.OrderLemmas.{same_from_look_up}
use Rattle.version_core.specs.Order.{by_order, overlaid, put}

module _ {X : Type 0} (key : X → Key) (k : Key) where
  below_put : (x : X) (xs : List X) → is_lt (key_cmp k (key x)) ≡ true → entries.below_all key_cmp k (keyed key xs) ≡ true → entries.below_all key_cmp k (keyed key (put key x xs)) ≡ true
  below_put x [] less above = and_from _ _ less above
  below_put x (y ∷ ys) less above =
      elim (key_cmp (key x) (key y)) as (λ o. entries.below_all key_cmp k (keyed key (by_order o (x ∷ y ∷ ys) (x ∷ ys) (y ∷ put key x ys))) ≡ true) [
        | Less ↦ and_from _ _ less above
        | Equal ↦ and_from _ _ less (and_second _ _ above)
        | Greater ↦ and_from _ _ (and_first _ _ above) (below_put x ys less (and_second _ _ above))
      ]

  -- what is below all of two lists is below all of the second over the first
  pub below_overlaid : (base changes : List X) → entries.below_all key_cmp k (keyed key base) ≡ true → entries.below_all key_cmp k (keyed key changes) ≡ true → entries.below_all key_cmp k (keyed key (overlaid key base changes)) ≡ true
  below_overlaid base [] above more = above
  below_overlaid base (x ∷ changes) above more = below_put x (overlaid key base changes) (and_first _ _ more) (below_overlaid base changes above (and_second _ _ more))

-- rows that are left stand in order
pub passed_up : (is_passed : Bool) (rows : List Record) → Ascends row_key rows → Ascends row_key (passed is_passed rows)
passed_up true [] up = refl
passed_up true (row ∷ rows) up = and_second _ _ up
passed_up false rows up = up

module _ (kind : Kind) where
  -- what is below all rows is below all that differs of them
  below-delta : (k : Key) (old new : List Record) → AreOf kind old → entries.below_all key_cmp k (keyed row_key old) ≡ true → entries.below_all key_cmp k (keyed row_key new) ≡ true → entries.below_all key_cmp k (keyed (entry_key kind) (delta_of kind old new)) ≡ true
  unfolding delta_of
  below-delta k old new are below below' =
      let stays : Record → Bool = λ row. not (stands_in old row) in
      let goes = is_lacking new in
      below_overlaid (entry_key kind) k (map Put (filter stays new)) (map gone_entry (filter goes old))
      (same_below row_key (entry_key kind) Put k (filter stays new) (put_keys kind (filter stays new)) ∙ below_kept row_key k stays new below')
      (same_below row_key (entry_key kind) gone_entry k (filter goes old) (gone_keys kind (filter goes old) (kept_of kind goes old are)) ∙ below_kept row_key k goes old below)

  module _ (o : Record) (olds new : List Record) (are_old : AreOf kind (o ∷ olds)) (are_new : AreOf kind new) (up : Ascends row_key (o ∷ olds)) (up' : Ascends row_key new) (below : entries.below_all key_cmp (row_key o) (keyed row_key new) ≡ true) where
    gone_found : (k : Key) → look_up (entry_key kind) k (delta_of kind (o ∷ olds) new) ≡ look_up (entry_key kind) k (Gone o.id ∷ delta_of kind olds new)
    gone_found k =
        look_up-delta kind (o ∷ olds) new are_old are_new up up' k
        ∙ elim (is_eq (key_cmp k (row_key o))) as (λ b. is_eq (key_cmp k (row_key o)) ≡ b → difference (cond b (Some o) (look_up row_key k olds)) (look_up row_key k new) ≡ cond b (Some (Gone o.id)) (difference (look_up row_key k olds) (look_up row_key k new))) [
          | true ↦ λ e.
              let same : k ≡ row_key o = key_exact k (row_key o) (equal_from_is_eq _ e) in
              ap (difference (Some o)) (none_above row_key k new (subst (λ q. entries.below_all key_cmp q (keyed row_key new) ≡ true) (sym same) below))
          | false ↦ λ _. refl
        ] refl
        ∙ (λ i. cond (is_eq (key_cmp k (sym (key_of kind o are_old.0) i))) (Some (Gone o.id)) (sym (look_up-delta kind olds new are_old.1 are_new (and_second _ _ up) up' k) i))

    -- a row below all new ones is gone
    pub delta-gone : delta_of kind (o ∷ olds) new ≡ Gone o.id ∷ delta_of kind olds new
    delta-gone =
        let above : entries.below_all key_cmp (row_key o) (keyed (entry_key kind) (delta_of kind olds new)) ≡ true = below-delta (row_key o) olds new are_old.1 (and_first _ _ up) below in
        same_from_look_up (entry_key kind) (delta_of kind (o ∷ olds) new) (Gone o.id ∷ delta_of kind olds new)
        (Ascends-delta kind (o ∷ olds) new are_old are_new up up')
        (and_from _ _ (subst (λ q. entries.below_all key_cmp q (keyed (entry_key kind) (delta_of kind olds new)) ≡ true) (sym (key_of kind o are_old.0)) above) (Ascends-delta kind olds new are_old.1 are_new (and_second _ _ up) up'))
        gone_found

  module _ (n : Record) (old news : List Record) (are_old : AreOf kind old) (are_new : AreOf kind (n ∷ news)) (up : Ascends row_key old) (up' : Ascends row_key (n ∷ news)) (below : entries.below_all key_cmp (row_key n) (keyed row_key old) ≡ true) where
    put_found : (k : Key) → look_up (entry_key kind) k (delta_of kind old (n ∷ news)) ≡ look_up (entry_key kind) k (Put n ∷ delta_of kind old news)
    put_found k =
        look_up-delta kind old (n ∷ news) are_old are_new up up' k
        ∙ elim (is_eq (key_cmp k (row_key n))) as (λ b. is_eq (key_cmp k (row_key n)) ≡ b → difference (look_up row_key k old) (cond b (Some n) (look_up row_key k news)) ≡ cond b (Some (Put n)) (difference (look_up row_key k old) (look_up row_key k news))) [
          | true ↦ λ e.
              let same : k ≡ row_key n = key_exact k (row_key n) (equal_from_is_eq _ e) in
              ap (λ q. difference q (Some n)) (none_above row_key k old (subst (λ q. entries.below_all key_cmp q (keyed row_key old) ≡ true) (sym same) below))
          | false ↦ λ _. refl
        ] refl
        ∙ ap (λ d. cond (is_eq (key_cmp k (row_key n))) (Some (Put n)) d) (sym (look_up-delta kind old news are_old are_new.1 up (and_second _ _ up') k))

    -- a row below all old ones is put
    pub delta-put : delta_of kind old (n ∷ news) ≡ Put n ∷ delta_of kind old news
    delta-put =
        same_from_look_up (entry_key kind) (delta_of kind old (n ∷ news)) (Put n ∷ delta_of kind old news)
        (Ascends-delta kind old (n ∷ news) are_old are_new up up')
        (and_from _ _ (below-delta (row_key n) old news are_old below (and_first _ _ up')) (Ascends-delta kind old news are_old are_new.1 up (and_second _ _ up')))
        put_found

  module _ (o n : Record) (olds news : List Record) (are_old : AreOf kind (o ∷ olds)) (are_new : AreOf kind (n ∷ news)) (up : Ascends row_key (o ∷ olds)) (up' : Ascends row_key (n ∷ news)) (same : row_key o ≡ row_key n) where
    rest_found : (k : Key) → look_up (entry_key kind) k (delta_of kind olds news) ≡ difference (look_up row_key k olds) (look_up row_key k news)
    rest_found k = look_up-delta kind olds news are_old.1 are_new.1 (and_second _ _ up) (and_second _ _ up') k

    both_found : (k : Key) → look_up (entry_key kind) k (delta_of kind (o ∷ olds) (n ∷ news)) ≡ cond (is_eq (key_cmp k (row_key n))) (difference (Some o) (Some n)) (difference (look_up row_key k olds) (look_up row_key k news))
    both_found k =
        look_up-delta kind (o ∷ olds) (n ∷ news) are_old are_new up up' k
        ∙ ap (λ q. difference (cond (is_eq (key_cmp k q)) (Some o) (look_up row_key k olds)) (cond (is_eq (key_cmp k (row_key n))) (Some n) (look_up row_key k news))) same
        ∙ elim (is_eq (key_cmp k (row_key n))) as (λ b. difference (cond b (Some o) (look_up row_key k olds)) (cond b (Some n) (look_up row_key k news)) ≡ cond b (difference (Some o) (Some n)) (difference (look_up row_key k olds) (look_up row_key k news))) [ true ↦ refl | false ↦ refl ]

    -- nothing of what is left has the key
    none_left : (k : Key) → is_eq (key_cmp k (row_key n)) ≡ true → difference (look_up row_key k olds) (look_up row_key k news) ≡ None
    none_left k e =
        let here : k ≡ row_key n = key_exact k (row_key n) (equal_from_is_eq _ e) in
        let above : entries.below_all key_cmp (row_key n) (keyed row_key news) ≡ true = and_first _ _ up' in
        let above' : entries.below_all key_cmp (row_key o) (keyed row_key olds) ≡ true = and_first _ _ up in
        λ i. difference
        (none_above row_key k olds (subst (λ q. entries.below_all key_cmp q (keyed row_key olds) ≡ true) (same ∙ sym here) above') i)
        (none_above row_key k news (subst (λ q. entries.below_all key_cmp q (keyed row_key news) ≡ true) (sym here) above) i)

    rise : Ascends (entry_key kind) (delta_of kind (o ∷ olds) (n ∷ news))
    rise = Ascends-delta kind (o ∷ olds) (n ∷ news) are_old are_new up up'

    rest_rise : Ascends (entry_key kind) (delta_of kind olds news)
    rest_rise = Ascends-delta kind olds news are_old.1 are_new.1 (and_second _ _ up) (and_second _ _ up')

    pub delta-both : delta_of kind (o ∷ olds) (n ∷ news) ≡ cond (same_row n o) (delta_of kind olds news) (Put n ∷ delta_of kind olds news)
    delta-both =
        elim (same_row n o) as (λ b. same_row n o ≡ b → delta_of kind (o ∷ olds) (n ∷ news) ≡ cond b (delta_of kind olds news) (Put n ∷ delta_of kind olds news)) [
          | true ↦ λ e. same_from_look_up (entry_key kind) (delta_of kind (o ∷ olds) (n ∷ news)) (delta_of kind olds news) rise rest_rise (λ k.
              both_found k
              ∙ ap (λ b. cond (is_eq (key_cmp k (row_key n))) (cond b None (Some (Put n))) (difference (look_up row_key k olds) (look_up row_key k news))) e
              ∙ elim (is_eq (key_cmp k (row_key n))) as (λ b. is_eq (key_cmp k (row_key n)) ≡ b → cond b None (difference (look_up row_key k olds) (look_up row_key k news)) ≡ difference (look_up row_key k olds) (look_up row_key k news)) [
                | true ↦ λ t. sym (none_left k t)
                | false ↦ λ _. refl
              ] refl
              ∙ sym (rest_found k))
          | false ↦ λ e. same_from_look_up (entry_key kind) (delta_of kind (o ∷ olds) (n ∷ news)) (Put n ∷ delta_of kind olds news) rise
              (and_from _ _ (below-delta (row_key n) olds news are_old.1 (subst (λ q. entries.below_all key_cmp q (keyed row_key olds) ≡ true) same (and_first _ _ up)) (and_first _ _ up')) rest_rise) (λ k.
              both_found k
              ∙ ap (λ b. cond (is_eq (key_cmp k (row_key n))) (cond b None (Some (Put n))) (difference (look_up row_key k olds) (look_up row_key k news))) e
              ∙ ap (λ d. cond (is_eq (key_cmp k (row_key n))) (Some (Put n)) d) (sym (rest_found k)))
        ] refl

pub delta-none : (kind : Kind) → delta_of kind [] [] ≡ []
unfolding delta_of
delta-none kind = refl
