use Rattle.std.proofs.Common.{◌≡◌, refl}
use Rattle.csv_sets.specs.Lines.{text_in}
use Rattle.csv_sets.specs.Written.{lines_text, written_text}
use Rattle.csv_sets.proofs.ReadBack.{given_back, read_back}
use Rattle.csv_sets.proofs.writing.write_file.Goals as goal

pub returns-clause-text : goal.returns-clause-text
unfolding written_text lines_text
returns-clause-text c =
    let whole : text_in c.write_rows.new.writer ≡ written_text c.args.kind c.args.rows.now =
    rw (c.in_ok-write_rows.ensures.text, c.in_ok-write_line.ensures.text, c.from_writer-writer.ensures.wtr, c.from_writer-writer.ensures.empty, c.new-2.ensures.items, c.as_slice-2.ensures.value, c.in_ok-header.ensures.cells, c.as_slice-3.ensures.value, c.as_slice.ensures.value, c.in_ok-keys.ensures.keys) refl in
    rw whole at c.finish.ensures

pub returns-clause-back : goal.returns-clause-back
returns-clause-back c =
    let keys = c.in_ok-keys.ensures.keys in
    let header = rw (c.as_slice-2.ensures.value, c.in_ok-header.ensures.cells, c.as_slice.ensures.value, keys) at c.in_ok-write_line.ensures.plain in
    let plain = rw (c.as_slice-3.ensures.value, keys) at c.in_ok-write_rows.ensures.plain in
    let good = rw (c.as_slice.ensures.value, keys) at c.in_ok-header.ensures.good in
    let rise = rw keys at c.in_ok-keys.ensures.rise in
    given_back c.args.kind c.args.rows.now (written_text c.args.kind c.args.rows.now) c.finish.result (returns-clause-text c)
    (λ mode. read_back c.args.kind mode c.args.rows.now (header, plain) good rise c.in_ok-write_rows.ensures.rows c.requires.kinds c.requires.differ)
