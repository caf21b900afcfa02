use Rattle.std.proofs.Common.{[], ◌∷◌, ◌+◌, ◌++◌, map, refl, sym, ap, ◌∙◌}
use Rattle.item_maps.specs.Edits.{entry_of}
use Rattle.hub_format.specs.Areas.{grants_area, names_area, state_area, versions_area}
use Rattle.hub_format.specs.Edits.{clear_version, put_at}
use Rattle.hub_format.specs.Moves.{grants_moved}
use Rattle.hub_format.specs.Pieces.{number}
use Rattle.hub_format.proofs.Moving.{pushed_parts}
use Rattle.span_format.specs.Edits.{hidden_names}
use Rattle.span_format.proofs.Moving.{parts_are}
use Rattle.span_format.proofs.fold.push_folded.Goals as goal

pub returns : goal.returns
returns c was oldest bases next body rows grants done =
    let base = c.args.base in
    let moved = grants_moved c.in-Some.flag (base + 1) (map entry_of c.args.grants.now) in
    pushed_parts c.args.edits.now.items c.push.new.self.items c.push_hidden.new.edits.items (c.push_hidden.new.edits.items ++ moved) c.push_rest.new.edits.items
    (hidden_names (base + 1) (map entry_of c.args.names.now)) moved (clear_version versions_area (base + 1) ∷ clear_version names_area (base + 1) ∷ clear_version grants_area base ∷ [])
    c.in_ok-put_state.field-0 (put_at state_area ([], number c.args.keep ++ number (base + 1) ++ c.in-Some.at.now))
    c.in_ok-push.ensures.items c.in_ok-put_state.ensures c.in_ok-push_hidden.ensures refl c.in_ok-push_rest.ensures
    ∙ ap (λ es. c.args.edits.now.items ++ es)
    (parts_are c.args.keep base was oldest c.in-Some.at.now c.in-Some.flag (map entry_of c.args.names.now) (map entry_of c.args.grants.now) bases next c.in-Some.ensures.eight (sym c.in-Some.ensures.parts ∙ body) rows grants)
