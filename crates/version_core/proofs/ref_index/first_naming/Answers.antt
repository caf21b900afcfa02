use Rattle.std.proofs.Common.{◌≡◌, ◌∙◌, ℕ, Bool, List, Option, true, false, not, get_or, option_copied, sym}
use Rattle.std.proofs.Common.{ap, arith, inl, inr, rules, subst}
use Rattle.std.proofs.lemmas.Bool.{cases_lt, not-false, not-true}
use Rattle.std.proofs.lemmas.List.{get_or_default}
use Rattle.std.proofs.lemmas.List.Sorted.{IsPartitionPoint-from_clause}
use Rattle.version_core.specs.Changes.{rows_of}
use Rattle.version_core.specs.History.{pasts_of, rows_at}
use Rattle.std.specs.Cmp.Lexicographic.{slice_cmp}
use Rattle.std.specs.Ordering.{is_lt, nat_cmp}
use Rattle.roster_types.specs.Records.{Record}
use Rattle.roster_values.specs.Kinds.{place_of_kind}
use Rattle.version_core.specs.RefIndex.{Named, is_from, is_of, passes_at}
use Rattle.version_core.specs.declared.ref_index.RefEntry.{RefEntry}
use Rattle.version_core.proofs.NamingLemmas.{parted, past, rise}
use Rattle.version_core.proofs.NamingRows.{before_fails, named, naming_passes, other_fails, refers_after}
use Rattle.version_core.proofs.ref_index.first_naming.Goals.{Start}
use Rattle.version_core.proofs.ref_index.first_naming.Goals as goal

-- the rows that stand, and what is looked for among their entries
module _ (c : Start) where
  abbrev rows : List Record
  rows = rows_of (rows_at c.args.version (pasts_of c.args.histories.now))

  abbrev after : Option (List ℕ)
  after = option_copied c.args.after

  abbrev key : Named
  key = named c.args.asked.now.kind c.args.place c.args.asked.now.name.now c.args.asked.now.target.now after rows

  abbrev passes : Record → Bool
  passes = refers_after c.args.asked.now.kind c.args.place c.args.asked.now.name.now c.args.asked.now.target.now after
      rows

pub loop-at-init : goal.loop-at-init
loop-at-init c =
    let start = (goal.at.loop-at-init c).Start in
    let asked = c.args.asked.now in
    let entries = c.args.entries.now in
    let n = c.partition_point-at.result in
    let split = IsPartitionPoint-from_clause (λ (entry : RefEntry). not (is_from (key start) (after start) entry))
    entries n c.partition_point-at.ensures.partitioned
    (parted entries c.requires.order (key start) (after start)) (λ a r f called. (search rules, search rules)) in
    record {
      in_range = c.partition_point-at.ensures.bound;
      none = λ k d low lt of. before_fails asked.kind c.args.place asked.name.now asked.target.now (after start)
          (rows start) (get_or entries k d) of (not-true _ (split.0 k d low lt));
      from = λ k d low lt. not-false _ (split.1 k d low lt);
    }

-- the entry is of a greater name
pub returns-then-not-is_of : goal.returns-then-not-is_of
returns-then-not-is_of c =
    let start = (goal.at.returns-then-not-is_of c).Start in
    let entries = c.args.entries.now in
    let loop = c.loop-at.invariant in
    let at = c.loop-at.at in
    let other : is_of (key start) c.index-entries-at.result ≡ false = sym c.is_of.ensures ∙ c.if-not-is_of.true in
    λ k d low lt of. elim (cases_lt k at) [
      | inl before ↦ loop.none k d low before of
      | inr from ↦
          let here : c.index-entries-at.result ≡ get_or entries at d =
          c.index-entries-at.is ∙ get_or_default entries at c.index-entries-at.result d c.loop-at-test.true in
          let passed : is_of (key start) (get_or entries k d) ≡ false =
          past entries c.requires.order (key start) (after start) at k d from lt
          (loop.from at d (omega arith) c.loop-at-test.true) (ap (is_of (key start)) (sym here) ∙ other) in
          let impossible : false ≡ true = sym passed ∙ of in
          cc
    ]

-- the row is the first
pub returns-in-Some : goal.returns-in-Some
returns-in-Some c =
    let start = (goal.at.returns-in-Some c).Start in
    let asked = c.args.asked.now in
    let entries = c.args.entries.now in
    let loop = c.loop-at.invariant in
    let at = c.loop-at.at in
    let entry = c.index-entries-at.result in
    let here : entry ≡ get_or entries at entry = c.index-entries-at.is in
    let of : is_of (key start) entry ≡ true = sym c.is_of.ensures ∙ c.if-not-is_of.false in
    let from : is_from (key start) (after start) entry ≡ true =
    ap (is_from (key start) (after start)) here ∙ loop.from at entry (omega arith) c.loop-at-test.true in
    let found = naming_passes asked.kind c.args.place asked.name.now asked.target.now (after start) (rows start)
    entry c.in-Some.row.now of from (sym c.in-Some.ensures) in
    record {
      stands = found.0;
      passes = found.1;
      least = λ k d low lt of_k passes. elim (cases_lt k at) [
        | inl before ↦ let impossible : true ≡ false = sym passes ∙ loop.none k d low before of_k in cc
        | inr beyond ↦
            let at_d : entry ≡ get_or entries at d = here ∙ get_or_default entries at entry d c.loop-at-test.true in
            let up = rise entries c.requires.order (key start) at k d beyond lt
            (ap (is_of (key start)) (sym at_d) ∙ of) of_k in
            ap (λ id. is_lt (slice_cmp nat_cmp (get_or entries k d).id id))
            (found.2 ∙ ap (λ (e : RefEntry). e.id) at_d) ∙ up
      ];
    }

-- its row doesn't name the target
pub loop-at-preserved : goal.loop-at-preserved
loop-at-preserved c =
    let start = (goal.at.loop-at-preserved c).Start in
    let asked = c.args.asked.now in
    let entries = c.args.entries.now in
    let loop = c.loop-at.invariant in
    let at = c.loop-at.at in
    let entry = c.index-entries-at.result in
    let fails = other_fails asked.kind c.args.place asked.name.now asked.target.now (after start) (rows start)
    entry.id (sym c.in_default.ensures) in
    record {
      in_range = omega (arith, c.loop-at-test.true);
      none = λ k d low lt of. elim (cases_lt k at) [
        | inl before ↦ loop.none k d low before of
        | inr from ↦
            let same : k ≡ at = omega arith in
            let here : entry ≡ get_or entries k d =
            c.index-entries-at.is ∙ get_or_default entries at entry d c.loop-at-test.true
            ∙ ap (λ i. get_or entries i d) (sym same) in
            subst (λ (e : RefEntry). passes_at (passes start) (rows start) (place_of_kind asked.kind, e.id) ≡ false)
            here fails
      ];
      from = λ k d low lt. loop.from k d (omega arith) lt;
    }
