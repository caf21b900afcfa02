use Rattle.std.proofs.Common.{◌≡◌, ◌∙◌, ◌∷◌, ◌||◌, Bool, List, ℕ, Option, Some, None, sym, ap, arith, length}
use Rattle.std.proofs.Common.{false, true, option_copied}
use Rattle.std.specs.List.{list_any}
use Rattle.roster_types.specs.Keys.{Ascends, row_key}
use Rattle.roster_types.specs.Records.{Record}
use Rattle.version_core.specs.References.{next_referring}
use Rattle.version_core.proofs.Referring.{any_referring, referring_at, referring_none, referring_rest}
use Rattle.query_pages.proofs.seen.references.is_named_by.Given.{Over}
use Rattle.query_pages.proofs.seen.references.is_named_by.Goals.{After-id}
use Rattle.query_pages.proofs.seen.references.is_named_by.Goals as goal

pub loop-other-init : goal.loop-other-init
loop-other-init g c =
    let test = g.T.RowTest.passes c.args.test.now in
    any_referring c.args.kind c.args.name.now c.args.row.now.id test (g.R.Rows.rows c.args.rows.now)

-- the rows that name it and are left
module _ (g : Over) (c : After-id g) where
  abbrev rows : List Record
  rows = g.R.Rows.rows c.args.rows.now

  abbrev test : Record → Bool
  test = g.T.RowTest.passes c.args.test.now

  abbrev after : Option (List ℕ)
  after = option_copied c.loop-other.after

  abbrev next : List ℕ → Option Record
  next id = next_referring c.args.kind c.args.name.now id after rows

  abbrev left : Option (List ℕ) → List Record
  left behind = referring_rest c.args.kind c.args.name.now c.args.row.now.id behind rows

  next_is : (found : Option Record) → found ≡ next c.id.result.now → next c.args.row.now.id ≡ found
  next_is found is = ap next (sym c.id.ensures) ∙ sym is

  left_at : (other : Record) → Ascends row_key rows → Some other ≡ next c.id.result.now
      → left after ≡ other ∷ left (Some other.id)
  left_at other order is =
      let found = next_is (Some other) is in
      referring_at c.args.kind c.args.name.now c.args.row.now.id after rows other order found

  left_none : None ≡ next c.id.result.now → list_any test (left after) ≡ false
  left_none is =
      let none = next_is None is in
      ap (list_any test) (referring_none c.args.kind c.args.name.now c.args.row.now.id after rows none)

  any_at : (other : Record) (passes : Bool) → left after ≡ other ∷ left (Some other.id) → test other ≡ passes
      → list_any test (left after) ≡ (passes || list_any test (left (Some other.id)))
  any_at other passes is tests =
      ap (list_any test) is ∙ ap (λ b. b || list_any test (left (Some other.id))) tests

pub returns-then-passes : goal.returns-then-passes
returns-then-passes g c =
    let here = (goal.at.returns-then-passes g c).After-id in
    let other = c.in-Some.other.now in
    let is = left_at g here other c.in-Some.ensures.order c.in-Some.ensures.next in
    sym (c.loop-other.invariant ∙ any_at g here other true is (sym c.passes.ensures ∙ c.if-passes.true))

pub loop-other-preserved : goal.loop-other-preserved
loop-other-preserved g c =
    let here = (goal.at.loop-other-preserved g c).After-id in
    let other = c.in-Some.other.now in
    let is = left_at g here other c.in-Some.ensures.order c.in-Some.ensures.next in
    rw c.id-in-Some.ensures
    (c.loop-other.invariant ∙ any_at g here other false is (sym c.passes.ensures ∙ c.if-passes.false))

pub loop-other-smaller : goal.loop-other-smaller
loop-other-smaller g c =
    let here = (goal.at.loop-other-smaller g c).After-id in
    let fewer = ap length (left_at g here c.in-Some.other.now c.in-Some.ensures.order c.in-Some.ensures.next) in
    rw c.id-in-Some.ensures (omega (arith, fewer))

pub returns : goal.returns
returns g c =
    let here = (goal.at.returns g c).After-id in
    sym (c.loop-other.invariant ∙ left_none g here c.in_default.ensures.next)
