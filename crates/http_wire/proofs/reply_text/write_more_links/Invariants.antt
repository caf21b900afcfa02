use Rattle.std.proofs.Common.{◌≡◌, take}
use Rattle.std.specs.List.{flat_map}
use Rattle.std.specs.Io.KnownBytes.{Appends}
use Rattle.http_wire.specs.Replies.{further_link}
use Rattle.http_wire.proofs.reply_text.write_more_links.Given as goal

abbrev pub invariant-loop-link : goal.invariant-loop-link
invariant-loop-link g l = record {
  bytes : Appends (g.W.Sink.written l.fn.sink) (g.W.Sink.written l.sink) (flat_map (further_link) (take l.link-index l.links));
  faults : g.W.Sink.faults l.sink ≡ g.W.Sink.faults l.fn.sink;
}
