use Rattle.std.proofs.Common.{Err}
use Rattle.csv.specs.Reading.{default_config, records, strip_bom}
use Rattle.roster_base.specs.declared.refusal.Refusal.TheVariants as refusal
use Rattle.csv_sets.specs.declared.fault.SetFault.TheVariants.{NotUtf8}
use Rattle.csv_sets.specs.declared.fault.SetFile.TheVariants.{RowsOf}
use Rattle.csv_sets.proofs.FileSteps.{given_dates, given_differ, given_kinds, other_file, text_file}
use Rattle.csv_sets.proofs.PlainLaws.{given_plain, plain_given}
use Rattle.csv_sets.proofs.file.read_file.Goals as goal

pub returns-in-Ok-clause-file : goal.returns-in-Ok-clause-file
returns-in-Ok-clause-file c =
    text_file c.args.kind c.args.mode c.args.bytes.now c.in-Ok.text.now c.rows_of.result c.if-bytes-gt-LARGEST.false c.in-Ok.ensures.cases.0 c.in-Ok.ensures.cases.1 c.rows_of.ensures

pub returns-in-Ok-clause-kinds : goal.returns-in-Ok-clause-kinds
returns-in-Ok-clause-kinds c = given_kinds c.args.kind c.args.mode (records default_config (strip_bom c.in-Ok.text.now)) c.rows_of.result c.rows_of.ensures

pub returns-in-Ok-clause-differ : goal.returns-in-Ok-clause-differ
returns-in-Ok-clause-differ c = given_differ c.args.kind c.args.mode (records default_config (strip_bom c.in-Ok.text.now)) c.rows_of.result c.rows_of.ensures

pub returns-in-Ok-clause-dates : goal.returns-in-Ok-clause-dates
returns-in-Ok-clause-dates c = given_dates c.args.kind c.args.mode (records default_config (strip_bom c.in-Ok.text.now)) c.rows_of.result c.rows_of.ensures

pub returns-in-Err-clause-file : goal.returns-in-Err-clause-file
returns-in-Err-clause-file c = other_file c.args.kind c.args.mode c.args.bytes.now c.if-bytes-gt-LARGEST.false c.in-Err.ensures.cases.0

pub returns-in-Ok-clause-plain : goal.returns-in-Ok-clause-plain
returns-in-Ok-clause-plain c = given_plain c.args.kind c.args.mode c.args.bytes.now c.rows_of.result (returns-in-Ok-clause-file c)

pub returns-in-Ok-clause-whole : goal.returns-in-Ok-clause-whole
returns-in-Ok-clause-whole c rows h = plain_given c.args.kind c.args.mode c.args.bytes.now rows c.rows_of.result (returns-in-Ok-clause-file c) h

pub returns-in-Err-clause-whole : goal.returns-in-Err-clause-whole
returns-in-Err-clause-whole c rows h = plain_given c.args.kind c.args.mode c.args.bytes.now rows (Err (refusal.Fault (NotUtf8 (RowsOf c.args.kind)))) (returns-in-Err-clause-file c) h
