use Rattle.std.proofs.Common.{rules, ◌≡◌, ◌+◌, ap, sym, ◌∙◌}
use Rattle.hub_format.specs.Format.{grants_under, items_of, listed_of}
use Rattle.hub_format.specs.Pieces.{number}
use Rattle.hub_format.proofs.TableListings.{base_grants_told}
use Rattle.keeper_sqlite.proofs.HubKeepingLemmas.{listed_alike, tables_stay}
use Rattle.keeper_sqlite.proofs.RowsLemmas.{changes_later}
use Rattle.keeper_sqlite.proofs.hub.reading.read_tables.Goals as goal
use Rattle.hub_format.specs.Areas.{grants_area}

pub returns-clause-tables : goal.returns-clause-tables
returns-clause-tables g c t has sure =
    let s = g.S.StoredItems.stands_for in
    let at_changes = c.in_ok-marks.ensures.trust sure in
    let at_grants = c.in_ok-changes.ensures.trust at_changes in
    let at_rows = c.in_ok-grants.ensures.trust at_grants in
    let at_state = c.in_ok-rows.ensures.trust at_rows in
    let tables = has.changes.tables in
    let m = tables.items in
    let state = c.in_ok-state.ensures.state t tables at_state in
    let small : c.in-Ok.keep ≡ c.in_ok-state.state.keep = search rules in
    let keeps = small ∙ state.0 in
    let bases = state.1 in
    let one = c.in_ok-state.ensures.same m tables.stands in
    let rows = c.in_ok-rows.ensures.rows m t.base one tables.fit.rows bases has.base at_rows in
    let two = c.in_ok-rows.ensures.same m one in
    let listed = listed_alike grants_area (number c.in_ok-state.state.base) (number (c.in_ok-state.state.base + 1)) m (items_of t) tables.grants in
    let grants = c.in_ok-grants.ensures.grants m t.base.grants two tables.fit.grants (listed ∙ ap (λ n. listed_of grants_area n (items_of t)) bases ∙ base_grants_told t tables.are tables.fit ∙ ap (λ n. grants_under n t.base.grants) (sym bases)) at_grants in
    let later = changes_later (s c.args.store.now) (s c.grants_at.new.store) c.args.stored c.in_ok-rows.later t c.in_ok-state.state.base bases
    (λ n stands. c.in_ok-grants.ensures.same n (c.in_ok-rows.ensures.same n (c.in_ok-state.ensures.same n stands))) has.changes (c.in_ok-rows.ensures.later m one at_rows) in
    let changes = c.in_ok-changes.ensures.changes t later bases keeps at_changes in
    let four = tables_stay (s c.grants_at.new.store) (s c.changes_in.new.store) t c.in_ok-changes.ensures.same later.tables in
    let marks = c.in_ok-marks.ensures.marks t four sure in
    λ i. record { keep = keeps i; base = record { number = bases i; moment = state.2 i; rows = rows i; grants = grants i }; changes = changes i; marks = marks i }
