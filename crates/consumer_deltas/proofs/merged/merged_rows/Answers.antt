use Rattle.std.proofs.Common.{ℕ, List, None, sym, subst}
use Rattle.roster_types.specs.Keys.{Ascends, row_key}
use Rattle.roster_types.specs.Records.{Record}
use Rattle.row_deltas.specs.Deltas.{AreOf}
use Rattle.version_core.specs.Spans.{key_in}
use Rattle.consumer_deltas.proofs.DeltaListLemmas.{ids_rise, rows_are, rows_rise}
use Rattle.consumer_deltas.proofs.merged.merged_rows.Goals as goal

pub merge-requires : goal.merge-requires
merge-requires c =
    let kind = c.args.kind in
    record {
      held = subst (λ (rows : List Record). AreOf kind rows) (sym c.held.ensures) (rows_are kind c.args.entries.now.held c.requires.held);
      puts = subst (λ (rows : List Record). AreOf kind rows) (sym c.puts.ensures) (rows_are kind c.args.entries.now.puts c.requires.puts);
      held_rise = subst (λ (rows : List Record). Ascends row_key rows) (sym c.held.ensures) (rows_rise kind c.args.entries.now.held c.requires.held);
      puts_rise = subst (λ (rows : List Record). Ascends row_key rows) (sym c.puts.ensures) (rows_rise kind c.args.entries.now.puts c.requires.puts);
      gone_rise = subst (λ (ids : List (List ℕ)). Ascends (key_in kind) ids) (sym c.gone.ensures) (ids_rise kind None c.args.entries.now.gone c.requires.gone);
    }
