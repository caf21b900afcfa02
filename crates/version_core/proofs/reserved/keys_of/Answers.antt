use Rattle.std.proofs.Common.{◌++◌, ◌∷◌, [], map, take, sym, ap, ◌∙◌}
use Rattle.std.proofs.lemmas.List.{take_more}
use Rattle.version_core.specs.Changes.{change_key}
use Rattle.version_core.specs.Room.{key_of}
use Rattle.version_core.proofs.RoomLemmas.{map_push}
use Rattle.version_core.proofs.reserved.keys_of.Goals as goal

pub loop-change-preserved : goal.loop-change-preserved
loop-change-preserved c =
    let changes = c.args.changes.now in
    let n = c.loop-change.change-index in
    let change = c.change-item.result in
    let key = c.in_ok-key_of.field-0 in
    let taken = take_more changes n change c.loop-change-test.true ∙ ap (λ x. take n changes ++ x ∷ []) (sym c.change-item.is) in
    ap (map key_of) c.in_ok-push.ensures.items ∙ map_push key_of c.loop-change.keys.items key
    ∙ ap (λ ks. ks ++ key_of key ∷ []) c.loop-change.invariant ∙ ap (λ k. map change_key (take n changes) ++ k ∷ []) c.in_ok-key_of.ensures
    ∙ sym (ap (map change_key) taken ∙ map_push change_key (take n changes) change)
