use Rattle.std.proofs.Common.{◌≡◌, rules, bytes_eq, find, length, refl, sym, ◌∙◌, Some, arith, option_map}
use Rattle.std.proofs.lemmas.Iterator.{YieldsList-from_range}
use Rattle.std.proofs.lemmas.Iterator.Search.{find_from_yields_List}
use Rattle.std.specs.List.{range_with_len}
use Rattle.csv.specs.Records.{fields_of}
use Rattle.roster_texts.specs.Trim.{trimmed}
use Rattle.csv_sets.specs.Cells.{cell_at}
use Rattle.csv_sets.proofs.ColumnLaws.{find-place, itself}
use Rattle.csv_sets.proofs.header.place_of.Goals as goal

pub returns : goal.returns
returns c =
    let found : option_map (λ i. i) c.find.result ≡ find (λ i. bytes_eq (trimmed (cell_at (fields_of c.args.cells.now) (Some i))) c.args.name.now) (range_with_len 0 (length (fields_of c.args.cells.now))) =
    find_from_yields_List (λ i. bytes_eq (trimmed (cell_at (fields_of c.args.cells.now) (Some i))) c.args.name.now) _ _ c.find.result c.find.ensures.ran
    (YieldsList-from_range 0 c.len.result (length (fields_of c.args.cells.now)) refl (omega arith)) (λ x b q k. search rules) in
    sym (itself c.find.result) ∙ found ∙ find-place (fields_of c.args.cells.now) c.args.name.now
