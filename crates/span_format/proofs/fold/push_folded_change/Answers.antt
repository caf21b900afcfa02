use Rattle.std.proofs.Common.{[], ◌∷◌, ◌+◌, ◌++◌, map, refl, sym, ap, ◌∙◌}
use Rattle.item_maps.specs.Edits.{entry_of}
use Rattle.hub_format.specs.Areas.{grants_area, names_area, state_area, versions_area}
use Rattle.hub_format.specs.Edits.{clear_version, put_at}
use Rattle.hub_format.specs.Moves.{grants_moved}
use Rattle.hub_format.specs.Pieces.{number}
use Rattle.hub_format.proofs.Moving.{pushed_parts}
use Rattle.span_format.specs.Edits.{hidden_by}
use Rattle.span_format.proofs.Moving.{new_parts_are}
use Rattle.span_format.proofs.fold.push_folded_change.Goals as goal

pub returns : goal.returns
returns c was bases next grants done =
    let base = c.args.base in
    let rows = c.as_slice-2.result.now in
    let moved = grants_moved c.in-Some.flag (base + 1) (map entry_of c.args.grants.now) in
    pushed_parts c.args.edits.now.items c.push.new.self.items c.push_hidden_rows.new.edits.items (c.push_hidden_rows.new.edits.items ++ moved) c.push_rest.new.edits.items
    (map (hidden_by (base + 1)) rows) moved (clear_version versions_area (base + 1) ∷ clear_version names_area (base + 1) ∷ clear_version grants_area base ∷ [])
    c.in_ok-put_state.field-0 (put_at state_area ([], number c.args.keep ++ number (base + 1) ++ c.in-Some.at.now))
    c.in_ok-push.ensures.items c.in_ok-put_state.ensures c.in_ok-push_hidden_rows.ensures refl c.in_ok-push_rest.ensures
    ∙ ap (λ es. c.args.edits.now.items ++ es)
    (new_parts_are c.args.keep base was c.args.change.now c.in-Some.at.now c.in-Some.flag rows (map entry_of c.args.grants.now) bases next c.in-Some.ensures.eight (sym c.in-Some.ensures.parts ∙ c.as_slice.ensures ∙ c.in_ok-body.ensures.body) c.as_slice-2.ensures.changes grants)
