use Rattle.std.proofs.Common.{◌≡◌, ◌-◌, ℕ, List, Option, None, ap, ◌∙◌, arith, drop, get_or, length, sym, take, true}
use Rattle.std.proofs.lemmas.List.{length-take}
use Rattle.roster_values.specs.declared.kind.Kind.{Kind}
use Rattle.roster_values.specs.declared.value.Value.{Value}
use Rattle.roster_values.specs.Table.{common_fields, table}
use Rattle.roster_types.specs.declared.metadata.Entry.{Entry}
use Rattle.std.specs.Arc.{arc_value}
use Rattle.roster_types.specs.Records.{id_in, moment_in, record_from, status_in}
use Rattle.roster_types.specs.Shapes.{fits_all, own_fields}
use Rattle.roster_types.specs.Structs.{kind_of, values_of}
use Rattle.roster_types.proofs.Taking.{shapes_fit_from_fits_all}
use Rattle.roster_types.proofs.Fitting.{at_least_three, fitting_from, id_fit, own_fit, record_is, taken}
use Rattle.roster_types.proofs.parts.RowParts.take_from.Goals.{After-take_last-3}
use Rattle.roster_types.proofs.parts.RowParts.take_from.Goals as goal

-- the values of the common fields are left
three : (kind : Kind) (xs ts : List (Option Value)) → fits_all (table kind) xs ≡ true → ts ≡ take common_fields xs → length ts ≡ common_fields
three kind xs ts fit is = let n = at_least_three kind xs fit in omega (arith, n, ap length is, length-take common_fields xs)

-- the last is taken
one_less : (ts us : List (Option Value)) → us ≡ take (length ts - 1) ts → length us ≡ length ts - 1
one_less ts us is = omega (arith, ap length is, length-take (length ts - 1) ts)

-- three values were taken from the end
module _ (c : After-take_last-3) where
  abbrev at_place : ℕ → Option Value → Type 0
  at_place place value = value ≡ get_or c.args.values.now.items place None

  taken_here : at_place 0 c.take_last-3.result × at_place 1 c.take_last-2.result × at_place 2 c.take_last.result
  taken_here = taken _ _ _ _ _ _ _ (at_least_three c.args.kind c.args.values.now.items c.requires)
      c.in_ok-fields.ensures.left c.take_last.ensures.last c.take_last.ensures.rest c.take_last-2.ensures.last
      c.take_last-2.ensures.rest c.take_last-3.ensures.last

pub take_from-requires : goal.take_from-requires
take_from-requires c = record {
  within = at_least_three c.args.kind c.args.values.now.items c.requires;
  shapes = shapes_fit_from_fits_all (own_fields c.args.kind) (drop common_fields c.args.values.now.items) (own_fit c.args.kind c.args.values.now.items c.requires);
}

pub take_last-requires : goal.take_last-requires
take_last-requires c =
    let n = three c.args.kind c.args.values.now.items _ c.requires c.in_ok-fields.ensures.left in
    omega (arith, n)

pub take_last-requires-2 : goal.take_last-requires-2
take_last-requires-2 c =
    let n = three c.args.kind c.args.values.now.items _ c.requires c.in_ok-fields.ensures.left in
    omega (arith, n, one_less _ _ c.take_last.ensures.rest)

pub take_last-requires-3 : goal.take_last-requires-3
take_last-requires-3 c =
    let n = three c.args.kind c.args.values.now.items _ c.requires c.in_ok-fields.ensures.left in
    omega (arith, n, one_less _ _ c.take_last.ensures.rest, one_less _ _ c.take_last-2.ensures.rest)

pub id_of-id-requires : goal.id_of-id-requires
id_of-id-requires c =
    let t = taken_here (goal.at.id_of-id-requires c).After-take_last-3 in
    rw t.0 (id_fit c.args.kind c.args.values.now.items c.requires)

pub invariant_of-result : goal.invariant_of-result
invariant_of-result c =
    let t = taken_here (goal.at.invariant_of-result c).After-take_last-3 in
    let s = arc_value c.in_ok-shared.shared in
    let e = c.in_ok-shared.ensures in
    let of_kind : kind_of s.fields ≡ c.args.kind = ap kind_of e.fields ∙ c.in_ok-fields.ensures.kind in (
      fitting_from c.args.kind (kind_of s.fields) c.args.values.now.items (values_of s.fields) s.metadata c.id_of-id.result c.status_of-status.result c.moment_of-modified.result c.requires
          (rw e.metadata c.entries.ensures.order) of_kind (c.id_of-id.ensures ∙ ap id_in t.0) (c.moment_of-modified.ensures ∙ ap moment_in t.2) (ap values_of e.fields ∙ c.in_ok-fields.ensures.values),
      sym of_kind,
    )

pub returns : goal.returns
returns c =
    let t = taken_here (goal.at.returns c).After-take_last-3 in
    let s = arc_value c.in_ok-shared.shared in
    let e = c.in_ok-shared.ensures in
    record_is c.args.kind (kind_of s.fields) c.args.values.now.items (values_of s.fields) s.metadata c.id_of-id.result c.status_of-status.result c.moment_of-modified.result
    (ap kind_of e.fields ∙ c.in_ok-fields.ensures.kind) (c.id_of-id.ensures ∙ ap id_in t.0) (c.status_of-status.ensures ∙ ap status_in t.1) (c.moment_of-modified.ensures ∙ ap moment_in t.2) (ap values_of e.fields ∙ c.in_ok-fields.ensures.values)
    ∙ ap (λ (m : List Entry). record_from c.args.kind c.args.values.now.items m) e.metadata
