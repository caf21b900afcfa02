-- What a file's items own may go to another thread.
use denote.RattleType.{RattleType}
use denote.Param.Send.{IsSend, sendable, plain_send, such_send, view_send}
use denote.Param.SendFields.{declared_send, variants_send, as_row_send}
use Rattle.std.proofs.Crossing.{crosses}
use Rattle.sqlite_trees.specs.declared.store.Store as Store
use Rattle.sqlite_disk.specs.declared.Disk as Disk
use Rattle.sqlite_disk.specs.declared.calls.Calls as Calls
use Rattle.sqlite_disk.specs.declared.start.Start as Start
use Rattle.sqlite_disk.specs.contracts.modelled.Modelled as Modelled
use Rattle.sqlite_disk.specs.contracts.start.Unknown as Unknown
use Rattle.sqlite_schema.specs.contracts.code.Op as Op
use Rattle.sqlite_schema.specs.contracts.code.Terms as Terms
use Rattle.sqlite_schema.specs.contracts.schema.Column as Column
use Rattle.sqlite_schema.specs.contracts.schema.Reference as Reference
use Rattle.sqlite_schema.specs.contracts.schema.Stamps as Stamps
use Rattle.sqlite_schema.specs.contracts.schema.Table as Table
use Rattle.sqlite_schema.specs.contracts.schema.Index as Index
use Rattle.sqlite_schema.specs.contracts.schema.View as View
use Rattle.sqlite_schema.specs.contracts.schema.Schema as Schema
use Rattle.sqlite.specs.contracts.history.Mark as Mark
use Rattle.sqlite.specs.contracts.history.History as History
use Rattle.sqlite_schema.specs.contracts.plan.Scan as Scan
use Rattle.sqlite_schema.specs.contracts.plan.Stage as Stage
use Rattle.sqlite_schema.specs.contracts.plan.Groups as Groups
use Rattle.sqlite_schema.specs.contracts.plan.Plan as Plan
use Rattle.sqlite_schema.specs.contracts.program.Table as Let
use Rattle.sqlite_schema.specs.contracts.program.Program as Program
use Rattle.sqlite_schema.specs.contracts.command.Source as Source
use Rattle.sqlite_schema.specs.contracts.command.Upsert as Upsert
use Rattle.sqlite_schema.specs.contracts.command.Returning as Returning
use Rattle.sqlite_schema.specs.contracts.command.Command as Command
use Rattle.sqlite_schema.specs.contracts.command.Conflict as Conflict
use Rattle.std.specs.contracts.option.Option as Option
use Rattle.sqlite_items.specs.contracts.items.Items as Items
use Rattle.sqlite_value.specs.contracts.value.Bytes as Bytes
use Rattle.sqlite_value.specs.contracts.value.Value as Value
use Rattle.sqlite_resolve.specs.contracts.compiled.Compiled as Compiled
use Rattle.sqlite.specs.contracts.cache.Entry as Entry
use Rattle.sqlite.specs.contracts.clock.WallClock as WallClock
use Rattle.sqlite.specs.contracts.run.reading.Reading as Reading
use Rattle.sqlite_exec.specs.contracts.work.Workspace as Workspace
use Rattle.sqlite_value.specs.contracts.row.Row as Row
use Rattle.sqlite_store.specs.contracts.catalog.Wanted as Wanted
use Rattle.sqlite_store.specs.contracts.saved.Saved as Saved
use Rattle.sqlite_store.specs.contracts.cursor.Cursor as Cursor
use Rattle.sqlite_store.specs.contracts.limits.Limits as Limits
use Rattle.sqlite_btree.specs.contracts.scratch.Scratch as Scratch
use Rattle.sqlite.specs.contracts.connection.Connection as Connection
use Rattle.sqlite_store.specs.contracts.store.FileStore as FileStore
use Rattle.item_store.specs.contracts.store.ItemStore as ItemStore
use Rattle.sqlite_pool.specs.contracts.pool.Pool as Pool
use Rattle.sqlite_pager.specs.contracts.pager.Pager as Pager
use Rattle.sqlite_wal.specs.contracts.log.Log as Log
use Rattle.sqlite_std_file.specs.contracts.host.Host as Host
use Rattle.keeper_sqlite.specs.contracts.sql_items.SqlItems as SqlItems
use Rattle.store_files.specs.contracts.file_items.FileItems as FileItems

ruleset sent = (sendable, crosses)

op : IsSend Op.the_row
op = search sent depth 60 fits 5000

terms : IsSend Terms.the_row
terms = let h0 = op in search sent depth 60 fits 5000

column : IsSend Column.the_row
column = search sent depth 60 fits 5000

reference : IsSend Reference.the_row
reference = search sent depth 60 fits 5000

stamps : IsSend Stamps.the_row
stamps = let h0 = terms in search sent depth 60 fits 5000

table : IsSend Table.the_row
table = let h0 = terms in let h1 = column in let h2 = reference in let h3 = stamps in search sent depth 60 fits 5000

index : IsSend Index.the_row
index = search sent depth 60 fits 5000

view : IsSend View.the_row
view = search sent depth 60 fits 5000

schema : IsSend Schema.the_row
schema = let h0 = table in let h1 = index in let h2 = view in search sent depth 60 fits 5000

mark : IsSend Mark.the_row
mark = let h0 = schema in search sent depth 60 fits 5000

history : IsSend History.the_row
history = let h0 = schema in let h1 = mark in search sent depth 60 fits 5000

scan : IsSend Scan.the_row
scan = search sent depth 60 fits 5000

stage : IsSend Stage.the_row
stage = let h0 = scan in search sent depth 60 fits 5000

groups : IsSend Groups.the_row
groups = search sent depth 60 fits 5000

plan : IsSend Plan.the_row
plan = let h0 = op in let h1 = stage in let h2 = groups in search sent depth 60 fits 5000

let_table : IsSend Let.the_row
let_table = let h0 = plan in search sent depth 60 fits 5000

program : IsSend Program.the_row
program = let h0 = plan in let h1 = let_table in search sent depth 60 fits 5000

ruleset parts = (variants_send, as_row_send, terms, program, plain_send, tt)

source : IsSend Source.the_row
source = search parts depth 60 fits 5000

upsert : IsSend Upsert.the_row
upsert = let h0 = program in search sent depth 60 fits 5000

ruleset of_returning = (variants_send, as_row_send, declared_send, source, sendable, crosses)

returning : IsSend Returning.the_row
returning = search of_returning depth 60 fits 5000

items : (T : RattleType) → IsSend T → IsSend (Items.the_row T)
items T t = search sent depth 60 fits 5000

bytes : IsSend Bytes.the_row
bytes = search sent depth 60 fits 5000

value : IsSend Value.the_row
value = search sent depth 60 fits 5000

conflict : IsSend Conflict.the_row
conflict = search sent depth 60 fits 5000

ruleset of_command = (tt, variants_send, as_row_send, plain_send, such_send, program, source, upsert, items, bytes, value, conflict)

command : IsSend Command.the_row
command = search of_command depth 60 fits 20000

option : (T : RattleType) → IsSend T → IsSend (Option.the_row T)
option T t = search sent depth 60 fits 5000

ruleset of_compiled = (tt, declared_send, variants_send, as_row_send, plain_send, such_send, command, returning, items, bytes, option)

compiled : IsSend Compiled.the_row
compiled = search of_compiled depth 60 fits 5000

ruleset of_entry = (tt, declared_send, as_row_send, plain_send, such_send, compiled, bytes)

entry : IsSend Entry.the_row
entry = search of_entry depth 60 fits 5000

wallclock : IsSend WallClock.the_row
wallclock = search sent depth 60 fits 5000

reading : IsSend Reading.the_row
reading = search sent depth 60 fits 5000

workspace : IsSend Workspace.the_row
workspace = search sent depth 60 fits 5000

row : IsSend Row.the_row
row = search sent depth 60 fits 5000

wanted : IsSend Wanted.the_row
wanted = search sent depth 60 fits 5000

saved : IsSend Saved.the_row
saved = let h0 = wanted in search sent depth 60 fits 5000

cursor : IsSend Cursor.the_row
cursor = search sent depth 60 fits 5000

limits : IsSend Limits.the_row
limits = search sent depth 60 fits 5000

scratch : IsSend Scratch.the_row
scratch = search sent depth 60 fits 5000

host : IsSend Host.the_row
host = search sent depth 60 fits 5000

module _ (T : RattleType) (g : Disk.Ghosts T.Denot) where
  log : IsSend T → IsSend (Log.the_row T g)
  log t = search sent depth 60 fits 5000

  pager : IsSend T → IsSend (Pager.the_row T g)
  pager t = let h0 = log t in search sent depth 60 fits 5000

  pool : IsSend T → IsSend (Pool.the_row T g)
  pool t = let h0 = pager t in search sent depth 60 fits 5000

  file_store : IsSend T → IsSend (FileStore.the_row T g)
  file_store t = let h0 = pool t in let h1 = wanted in let h2 = saved in let h3 = cursor in let h4 = limits in let h5 = scratch in search sent depth 60 fits 5000

ruleset of_connection = (tt, view_send, declared_send, as_row_send, plain_send, such_send, option, schema, history, entry, row, wallclock, reading, workspace, crosses)

module _ (T : RattleType) (g : Store.Ghosts T.Denot) where
  connection : IsSend T → IsSend (Connection.the_row T g)
  connection t = search of_connection depth 60 fits 20000

  item_store : IsSend T → IsSend (ItemStore.the_row T g)
  item_store t = let h0 = connection t in search sent depth 60 fits 5000

ruleset of_sql_items = (tt, declared_send, as_row_send, item_store)

module _ (T : RattleType) (g : Store.Ghosts T.Denot) where
  sql_items : IsSend T → IsSend (SqlItems.the_row T g)
  sql_items t = search of_sql_items depth 60 fits 5000

module _ (C S : RattleType) (g : Calls.Ghosts C.Denot) (h : Start.Ghosts S.Denot) where
  modelled : IsSend C → IsSend S → IsSend (Modelled.the_row C S g h)
  modelled c s = search sent depth 60 fits 5000

unknown : IsSend Unknown.the_row
unknown = search sent depth 60 fits 5000

ruleset of_items = (tt, declared_send, as_row_send, host, unknown, modelled, sql_items, file_store)

pub file_items : IsSend FileItems.the_row
file_items = search of_items depth 60 fits 5000
