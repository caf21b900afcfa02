use Rattle.std.proofs.Common.{◌++◌, ◌∷◌, [], List, take, sym, ap, subst, ◌∙◌}
use Rattle.std.proofs.lemmas.List.{take_more}
use Rattle.version_core.specs.History.{AllHaveRoom, ArePasts, HaveRoom}
use Rattle.version_core.specs.declared.row_change.RowChange.{RowChange}
use Rattle.version_core.proofs.PutLemmas.{all_append}
use Rattle.version_core.proofs.RoomLemmas.{all_weaken}
use Rattle.version_core.proofs.reserved.reserve_entries.Goals as goal

pub reserve_entry-requires : goal.reserve_entry-requires
reserve_entry-requires c = subst ArePasts (sym c.loop-change.invariant.same) c.requires

pub loop-change-preserved : goal.loop-change-preserved
loop-change-preserved c =
    let changes = c.args.changes.now in
    let n = c.loop-change.change-index in
    let change = c.change-item.result in
    let taken = take_more changes n change c.loop-change-test.true ∙ ap (λ x. take n changes ++ x ∷ []) (sym c.change-item.is) in
    let new = c.reserve_entry.new.histories.items in
    record {
      same = c.reserve_entry.ensures.same ∙ c.loop-change.invariant.same;
      len = c.reserve_entry.ensures.len ∙ c.loop-change.invariant.len;
      room = subst (λ (rows : List RowChange). AllHaveRoom rows new) (sym taken)
          (all_append (λ (row : RowChange). HaveRoom row new) (take n changes) (change ∷ [])
          (all_weaken (λ (row : RowChange). HaveRoom row c.loop-change.histories.items) (λ (row : RowChange). HaveRoom row new) (take n changes) (λ row has. c.reserve_entry.ensures.others row has) c.loop-change.invariant.room)
          (c.in_ok-reserve_entry.ensures.ok, tt));
    }
