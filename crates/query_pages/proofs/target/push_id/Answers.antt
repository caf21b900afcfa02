use Rattle.std.proofs.Common.{refl}
use Rattle.roster_types.proofs.HrefLaws.{percent_encode-escaped}
use Rattle.query_pages.proofs.target.push_id.Goals as goal

pub returns : goal.returns
returns c = rw (c.in_ok-append_to.ensures.ok, c.utf8_percent_encode.ensures.text, c.as_str.ensures.text, percent_encode-escaped c.args.id.now) refl
