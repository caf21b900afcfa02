use Rattle.std.proofs.Common.{arith}
use Rattle.grant_files.proofs.GrantSteps.{kept_full, kept_more}
use Rattle.grant_scopes.specs.Entries.{grant_limit}
use Rattle.grant_files.proofs.file.keep.Goals as goal

pub returns-then-len-ge-GRANT_LIMIT : goal.returns-then-len-ge-GRANT_LIMIT
returns-then-len-ge-GRANT_LIMIT c = kept_full grant_limit c.args.entries.now.items c.args.entry (omega arith) (omega arith)

pub returns : goal.returns
returns c = rw c.in_ok-push.ensures.items (kept_more grant_limit c.args.entries.now.items c.args.entry (omega arith))
