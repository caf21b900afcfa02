-- Under each key the rows that are gathered are those that an export of changes tells.
use Rattle.std.proofs.Common.{◌≡◌, ℤ, List, [], ◌∷◌, ◌++◌, Bool, true, false, cond, Option, Some, None, refl, sym, ap}
use Rattle.std.proofs.Common.{subst, ◌∙◌}
use Rattle.std.specs.Prelude.{is_some, option_and_then, option_map, option_to_list}
use Rattle.std.specs.List.{AllByRecursion}
use Rattle.std.specs.Option.{option_or}
use Rattle.std.specs.Ordering.{is_eq}
use Rattle.reference_rules.proofs.KeyOrder.{and_first, and_second, equal_from_is_eq, found_key, key_exact}
use Rattle.roster_types.specs.Keys.{Ascends, Key, key_cmp, look_up, row_key}
use Rattle.roster_types.specs.Records.{Record}
use Rattle.roster_types.specs.declared.set_row.SetRow.{SetRow}
use Rattle.version_core.proofs.LookUps.{none_above}
use Rattle.version_core.proofs.PutLemmas.{all_append}
use Rattle.std.specs.FinMap.Entries as entries
use Rattle.roster_types.specs.Keys.{keyed}
use Rattle.version_changes.specs.sets.Applying.{is_active}
use Rattle.bulk_export.specs.Changes.{is_as_before, marked, told}
use Rattle.bulk_export.specs.Steps.{each_told, earlier_at, earlier_key, gone_row, gone_where, new_row, set_row}
use Rattle.bulk_export.specs.declared.earlier.EarlierRow.{EarlierRow}

look_up-append : (k : Key) (xs ys : List Record) → look_up row_key k (xs ++ ys) ≡ option_or (look_up row_key k xs) (look_up row_key k ys)
look_up-append k [] ys = refl
look_up-append k (x ∷ xs) ys =
    elim (is_eq (key_cmp k (row_key x))) as (λ b. cond b (Some x) (look_up row_key k (xs ++ ys)) ≡ option_or (cond b (Some x) (look_up row_key k xs)) (look_up row_key k ys)) [ true ↦ refl | false ↦ look_up-append k xs ys ]

or_none : (o : Option Record) → option_or o None ≡ o
or_none None = refl
or_none (Some r) = refl

-- ---- what is told of the items of a list, each under its own key

module _ {X : Type 0} (key : X → Key) (f : X → Option Record) (keeps : (x : X) (r : Record) → f x ≡ Some r → row_key r ≡ key x) where
  step : (k : Key) (x : X) (xs : List X) (b : Bool) (o : Option Record) → entries.below_all key_cmp (key x) (keyed key xs) ≡ true → is_eq (key_cmp k (key x)) ≡ b → f x ≡ o → look_up row_key k (each_told f xs) ≡ option_and_then f (look_up key k xs)
      → look_up row_key k (option_to_list o ++ each_told f xs) ≡ option_and_then f (cond b (Some x) (look_up key k xs))
  step k x xs true None above here e rest =
      let same : k ≡ key x = key_exact k (key x) (equal_from_is_eq _ here) in
      let none : look_up key k xs ≡ None = none_above key k xs (subst (λ l. entries.below_all key_cmp l (keyed key xs) ≡ true) (sym same) above) in
      rest ∙ ap (option_and_then f) none ∙ sym e
  step k x xs true (Some r) above here e rest =
      ap (λ b. cond b (Some r) (look_up row_key k (each_told f xs))) (ap (λ q. is_eq (key_cmp k q)) (keeps x r e) ∙ here) ∙ sym e
  step k x xs false None above here e rest = rest
  step k x xs false (Some r) above here e rest =
      ap (λ b. cond b (Some r) (look_up row_key k (each_told f xs))) (ap (λ q. is_eq (key_cmp k q)) (keeps x r e) ∙ here) ∙ rest

  look_up-told : (k : Key) (xs : List X) → Ascends key xs → look_up row_key k (each_told f xs) ≡ option_and_then f (look_up key k xs)
  look_up-told k [] up = refl
  look_up-told k (x ∷ xs) up = step k x xs (is_eq (key_cmp k (key x))) (f x) (and_first _ _ up) refl refl (look_up-told k xs (and_second _ _ up))

-- what holds of what is told of each
each_picked : {X : Type 0} (P : Record → Type 0) (Q : X → Type 0) (f : X → Option Record) → ((x : X) (r : Record) → Q x → f x ≡ Some r → P r) → (xs : List X) → AllByRecursion Q xs → AllByRecursion P (each_told f xs)
each_picked P Q f holds [] all = tt
each_picked P Q f holds (x ∷ xs) all = by (f x) (λ r e. holds x r all.0 e) (each_picked P Q f holds xs all.1)
  where
    by : (o : Option Record) → ((r : Record) → o ≡ Some r → P r) → AllByRecursion P (each_told f xs) → AllByRecursion P (option_to_list o ++ each_told f xs)
    by None here rest = rest
    by (Some r) here rest = (here r refl, rest)

-- ---- what each row becomes

new_is : (es : List EarlierRow) (held r : Record) → new_row es held ≡ Some r → r ≡ held
new_is es held r e = by (is_as_before (earlier_at es (row_key held)) held) e
  where
    by : (b : Bool) → cond b None (Some held) ≡ Some r → r ≡ held
    by true e2 = cc e2
    by false e2 = cc e2

gone_is : (at : ℤ) (listed : SetRow) (is_held : Bool) (r : Record) → gone_where at listed is_held ≡ Some r → r ≡ marked at listed.row
gone_is at listed is_held r e = by (is_active listed.row.status) is_held e
  where
    by : (a b : Bool) → cond a (cond b None (Some (marked at listed.row))) None ≡ Some r → r ≡ marked at listed.row
    by true true e2 = cc e2
    by true false e2 = cc e2
    by false b e2 = cc e2

none_both : (b : Bool) → cond b (let none : Option Record = None in none) None ≡ None
none_both true = refl
none_both false = refl

module _ (at : ℤ) (held : List Record) (es : List EarlierRow) where
  abbrev gone : EarlierRow → Option Record
  gone e = gone_row at held (set_row e)

  abbrev pub gathered : List Record
  gathered = each_told (new_row es) held ++ each_told gone es

  new_keeps : (row r : Record) → new_row es row ≡ Some r → row_key r ≡ row_key row
  new_keeps row r e = ap row_key (new_is es row r e)

  gone_keeps : (e : EarlierRow) (r : Record) → gone e ≡ Some r → row_key r ≡ earlier_key e
  gone_keeps e r is = ap row_key (gone_is at (set_row e) (is_some (look_up row_key (earlier_key e) held)) r is)

  under : (k : Key) (h : Option Record) (m : Option EarlierRow) → look_up row_key k held ≡ h → look_up earlier_key k es ≡ m
      → option_or (option_and_then (new_row es) h) (option_and_then gone m) ≡ told at (option_map set_row m) h
  under k None None h m = refl
  under k None (Some e) h m = ap (λ o. gone_where at (set_row e) (is_some o)) (ap (λ q. look_up row_key q held) (found_key earlier_key k es e m) ∙ h)
  under k (Some r) None h m =
      or_none (new_row es r)
      ∙ ap (λ o. cond (is_as_before o r) None (Some r)) (ap (earlier_at es) (found_key row_key k held r h) ∙ ap (option_map set_row) m)
  under k (Some r) (Some e) h m =
      let here : gone e ≡ None = ap (λ o. gone_where at (set_row e) (is_some o)) (ap (λ q. look_up row_key q held) (found_key earlier_key k es e m) ∙ h) ∙ none_both (is_active (set_row e).row.status) in
      ap (option_or (new_row es r)) here ∙ or_none (new_row es r)
      ∙ ap (λ o. cond (is_as_before o r) None (Some r)) (ap (earlier_at es) (found_key row_key k held r h) ∙ ap (option_map set_row) m)

  pub told_under : (k : Key) → Ascends row_key held → Ascends earlier_key es → look_up row_key k gathered ≡ told at (earlier_at es k) (look_up row_key k held)
  told_under k up rise =
      look_up-append k (each_told (new_row es) held) (each_told gone es)
      ∙ (λ i. option_or (look_up-told row_key (new_row es) new_keeps k held up i) (look_up-told earlier_key gone gone_keeps k es rise i))
      ∙ under k (look_up row_key k held) (look_up earlier_key k es) refl refl

  -- each is of the kind of which all are
  pub of_one_kind : (P : Record → Type 0) → ((row : Record) → P row → P (marked at row)) → AllByRecursion P held → AllByRecursion (λ e. P (set_row e).row) es → AllByRecursion P gathered
  of_one_kind P marks held_are earlier_are = all_append P (each_told (new_row es) held) (each_told gone es)
      (each_picked P P (new_row es) (λ row r is e. subst P (sym (new_is es row r e)) is) held held_are)
      (each_picked P (λ e. P (set_row e).row) gone (λ e r is here. subst P (sym (gone_is at (set_row e) (is_some (look_up row_key (earlier_key e) held)) r here)) (marks (set_row e).row is)) es earlier_are)
