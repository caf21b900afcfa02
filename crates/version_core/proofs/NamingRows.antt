-- Rows under the entries of an index.
use Rattle.std.proofs.Common.{◌≡◌, ℕ, Bool, true, false, ◌&&◌, cond, eqb, List, Option, None, Some, refl, sym, ap}
use Rattle.std.proofs.Common.{subst, ◌∙◌, arith}
use Rattle.std.proofs.Math.Bool.{and-false}
use Rattle.std.specs.Option.{option_map_or}
use Rattle.std.proofs.lemmas.Bool.{and_from}
use Rattle.std.proofs.lemmas.Bool.Decides.{nat_tests}
use Rattle.reference_rules.proofs.KeyOrder.{found_key}
use Rattle.roster_types.specs.Keys.{Key, is_after, is_of_kind, look_up, row_key}
use Rattle.roster_types.specs.Records.{Record}
use Rattle.roster_values.specs.Kinds.{place_of_kind}
use Rattle.roster_values.specs.declared.kind.Kind.{Kind}
use Rattle.version_core.specs.RefIndex.{Named, is_from, is_of, passes_at, passing}
use Rattle.version_core.specs.References.{names, refers}
use Rattle.version_core.specs.declared.ref_index.RefEntry.{RefEntry}
use Rattle.version_core.proofs.NamingLemmas.{after_from}

module _ (kind : Kind) (place : ℕ) (name target : List ℕ) (after : Option (List ℕ)) (rows : List Record) where
  abbrev pub named : Named
  named = (place_of_kind kind, place, target)

  -- the row refers, and stands above the id `after`
  abbrev pub refers_after : Record → Bool
  refers_after row = refers kind name target row && is_after after row.id

  id_is : (id : List ℕ) (row : Record) → look_up row_key (place_of_kind kind, id) rows ≡ Some row → row.id ≡ id
  id_is id row at = ap (λ (k : Key). k.1) (found_key row_key (place_of_kind kind, id) rows row at)

  -- an entry that isn't from here on has no row above
  pub before_fails : (entry : RefEntry) → is_of named entry ≡ true → is_from named after entry ≡ false → passes_at refers_after rows (place_of_kind kind, entry.id) ≡ false
  before_fails entry of before =
      elim (look_up row_key (place_of_kind kind, entry.id) rows) as (λ o. look_up row_key (place_of_kind kind, entry.id) rows ≡ o → option_map_or refers_after o false ≡ false) [
        | None ↦ λ _. refl
        | Some row ↦ λ at. ap (λ b. refers kind name target row && b) (ap (is_after after) (id_is entry.id row at) ∙ sym (after_from named after entry of) ∙ before) ∙ and-false (refers kind name target row)
      ] refl

  -- nor one whose row doesn't name the target
  pub other_fails : (id : List ℕ) → passing (names name target) (look_up row_key (place_of_kind kind, id) rows) ≡ None → passes_at refers_after rows (place_of_kind kind, id) ≡ false
  other_fails id none =
      elim (look_up row_key (place_of_kind kind, id) rows) as (λ o. passing (names name target) o ≡ None → option_map_or refers_after o false ≡ false) [
        | None ↦ λ _. refl
        | Some row ↦ λ fails. elim (names name target row) as (λ b. cond b (Some row) None ≡ None → ((is_of_kind kind row && b) && is_after after row.id) ≡ false) [
          | true ↦ λ impossible. cc
          | false ↦ λ _. ap (λ b. b && is_after after row.id) (and-false (is_of_kind kind row))
        ] fails
      ] none

  same_place : (row : Record) → place_of_kind row.kind ≡ place_of_kind kind → is_of_kind kind row ≡ true
  same_place row same = let tested : eqb (place_of_kind row.kind) (place_of_kind kind) ≡ true = grind (arith, nat_tests) in tested

  -- a row that names the target is found and passes
  pub naming_passes : (entry : RefEntry) (row : Record) → is_of named entry ≡ true → is_from named after entry ≡ true → passing (names name target) (look_up row_key (place_of_kind kind, entry.id) rows) ≡ Some row
      → (look_up row_key (place_of_kind kind, row.id) rows ≡ Some row) × (refers_after row ≡ true) × (row.id ≡ entry.id)
  naming_passes entry row of from found =
      elim (look_up row_key (place_of_kind kind, entry.id) rows) as (λ o. look_up row_key (place_of_kind kind, entry.id) rows ≡ o → passing (names name target) o ≡ Some row → (look_up row_key (place_of_kind kind, row.id) rows ≡ Some row) × (refers_after row ≡ true) × (row.id ≡ entry.id)) [
        | None ↦ λ _ impossible. cc
        | Some x ↦ λ at some. elim (names name target x) as (λ b. names name target x ≡ b → cond b (Some x) None ≡ Some row → (look_up row_key (place_of_kind kind, row.id) rows ≡ Some row) × (refers_after row ≡ true) × (row.id ≡ entry.id)) [
          | false ↦ λ _ impossible. cc
          | true ↦ λ named_there same.
              let is : x ≡ row = cc in
              let id = id_is entry.id x at in
              let key = found_key row_key (place_of_kind kind, entry.id) rows x at in
              let above : is_after after x.id ≡ true = ap (is_after after) id ∙ sym (after_from named after entry of) ∙ from in
              let stands : look_up row_key (place_of_kind kind, x.id) rows ≡ Some x = ap (λ i. look_up row_key (place_of_kind kind, i) rows) id ∙ at in
              subst (λ r. (look_up row_key (place_of_kind kind, r.id) rows ≡ Some r) × (refers_after r ≡ true) × (r.id ≡ entry.id)) is
              (stands, and_from _ _ (and_from _ _ (same_place x (ap (λ (k : Key). k.0) key)) named_there) above, id)
        ] refl some
      ] refl found
