use Rattle.std.proofs.Common.{◌≡◌, ◌<◌, ◌-◌, ◌++◌, Option, Some, ap, arith, length, option_copied, subst, take}
use Rattle.query_pages.specs.Whole.{rows_from}
use Rattle.query_pages.proofs.Wholes.{copied_on}
use Rattle.roster_types.specs.Records.{Record}
use Rattle.version_core.specs.Changes.{rows_of}
use Rattle.query_pages.proofs.whole.copied_from.Goals as goal

pub loop-next-preserved : goal.loop-next-preserved
loop-next-preserved c =
    let rows = rows_of c.args.view.now.rows in
    let kind = c.args.kind in
    let limit = c.args.limit in
    let found = c.loop-next.found.items in
    let row = c.in-Some.row.now in
    let whole = take limit (rows_from kind (option_copied c.args.first) rows) in
    let lt : length found < limit = omega (arith, c.len.ensures, c.if-len-limit.false) in
    let before : found ++ take (limit - length found) (rows_from kind (Some row) rows) ≡ whole =
    subst (λ (next : Option Record). found ++ take (limit - length found) (rows_from kind next rows) ≡ whole) (ap option_copied c.in-Some.is) c.loop-next.invariant in
    rw (c.in_ok-push.ensures.items, c.in_ok-copy.ensures, c.next_near-next.ensures, c.id.ensures) (copied_on kind rows c.requires limit row found whole lt before)
