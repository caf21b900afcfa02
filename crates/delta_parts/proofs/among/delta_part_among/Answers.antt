use Rattle.std.proofs.Common.{◌≡◌, ◌∙◌, ◌∷◌, ◌<◌, ◌+◌, List, [], ℕ, ap, sym, arith, drop, length, map, option_map}
use Rattle.std.proofs.lemmas.List.{drop_all, drop_more}
use Rattle.delta_parts.proofs.Listing.{list_end, list_on, list_start}
use Rattle.delta_parts.proofs.Walking.{length-kinds}
use Rattle.delta_parts.specs.Parts.{count_on, with_option}
use Rattle.delta_parts.specs.Turns.{entry_shown}
use Rattle.roster_types.specs.Keys.{look_up, row_key}
use Rattle.row_deltas.specs.Deltas.{difference}
use Rattle.version_core.specs.Spans.{key_in}
use Rattle.delta_parts.proofs.among.delta_part_among.Goals as goal

pub loop-id-init : goal.loop-id-init
loop-id-init g c =
    list_start c.args.kind c.args.paging.limit c.args.paging.offset (g.A.Rows.rows c.args.before.now) (g.B.Rows.rows c.args.after.now) (map (λ id. id.now) c.args.ids.now) c.new-found.result.items
    c.ascend.ensures.order c.ascend-2.ensures.order c.requires.order c.requires.cover c.new-found.ensures.items

pub loop-id-preserved : goal.loop-id-preserved
loop-id-preserved g c =
    let within : c.loop-id.id-index < length c.args.ids.now = omega arith in
    let id : List ℕ = c.id-item.result.now in
    let rest : List (List ℕ) = map (λ id. id.now) (drop (c.loop-id.id-index + 1) c.args.ids.now) in
    let here : map (λ id. id.now) (drop c.loop-id.id-index c.args.ids.now) ≡ id ∷ rest =
    ap (map (λ id. id.now)) (drop_more c.args.ids.now c.loop-id.id-index c.id-item.result within) ∙ (λ i. (sym c.id-item.is i).now ∷ rest) in
    let differs : option_map entry_shown c.difference-entry.result ≡ difference (look_up row_key (key_in c.args.kind id) (g.A.Rows.rows c.args.before.now)) (look_up row_key (key_in c.args.kind id) (g.B.Rows.rows c.args.after.now)) =
    c.difference-entry.ensures ∙ (λ i. difference (c.row.ensures i) (c.row-in-loop-id.ensures i)) in
    list_on c.args.kind c.args.paging.limit c.args.paging.offset (g.A.Rows.rows c.args.before.now) (g.B.Rows.rows c.args.after.now) c.loop-id.total c.loop-id.found.items
    (map (λ id. id.now) (drop c.loop-id.id-index c.args.ids.now)) id rest c.in_ok-total.total c.add_within.new.found.items c.ascend.ensures.order c.ascend-2.ensures.order c.loop-id.invariant here
    (c.in_ok-total.ensures.count ∙ ap (count_on c.loop-id.total) differs)
    (c.in_ok-total.ensures.found ∙ ap (λ o. with_option c.args.paging.limit c.args.paging.offset c.loop-id.total o c.loop-id.found.items) differs)

pub add_within-requires : goal.add_within-requires
add_within-requires g c =
    omega (arith, c.loop-id.invariant.total, length-kinds c.args.kind c.args.paging.limit c.args.paging.offset (g.A.Rows.rows c.args.before.now) (g.B.Rows.rows c.args.after.now), c.requires.few)

pub returns : goal.returns
returns g c =
    let left : map (λ id. id.now) (drop c.loop-id.id-index c.args.ids.now) ≡ [] = ap (map (λ id. id.now)) (drop_all c.loop-id.id-index c.args.ids.now (omega arith)) in
    c.in_ok-part.ensures
    ∙ list_end c.args.kind c.args.paging.limit c.args.paging.offset (g.A.Rows.rows c.args.before.now) (g.B.Rows.rows c.args.after.now) c.loop-id.total c.loop-id.found.items (map (λ id. id.now) (drop c.loop-id.id-index c.args.ids.now)) c.loop-id.invariant left
