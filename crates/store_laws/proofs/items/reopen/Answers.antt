use Rattle.store_laws.proofs.SchemaLemmas.{open_again, some_again}
use Rattle.store_laws.proofs.items.reopen.Goals as goal

pub returns-clause-same : goal.returns-clause-same
returns-clause-same g c m h =
    rw c.ok.ensures.value
    (some_again c.args.conn c.in-Ok.files m c.opened.result c.schema-schema.ensures.live c.in-Ok.ensures.copied c.opened.ensures.opened c.opened.ensures.found h)

pub returns-clause-is_open : goal.returns-clause-is_open
returns-clause-is_open g c = rw c.ok.ensures.value (open_again c.opened.result c.opened.ensures.opened)
