use Rattle.std.proofs.Common.{◌≡◌, ◌+◌, ◌<◌, ◌≤◌}
use Rattle.exchange_link.specs.Exchanges.{LinkState}
use Rattle.http_wire.specs.Answers.{IsReplyText}
use Rattle.http_wire.specs.declared.reply_reading.WireReply.{WireReply}
use Rattle.exchange_link.specs.Asked.{IsTry, SendsOn}
use Rattle.exchange_link.specs.Requests.{Asks, IsNumbered, number, numbered}
use Rattle.exchange_link.specs.Causes.{IsLast, IsMore, RoseBy}
use Rattle.std.proofs.Common.{Some}
use Rattle.exchange_link.proofs.asking.ask.Given as goal

abbrev pub invariant-loop-i : goal.invariant-loop-i
invariant-loop-i g l = record {
  count : l.count ≡ l.fn.count + l.i;
  request : l.request ≡ record l.fn.request { echo = l.request.echo };
  missed : l.i ≤ g.L.Link.missed l.link;
  asked : IsMore (g.L.Link.asked l.fn.link) l.i (g.L.Link.asked l.link);
  later : g.L.Link.fault_count l.fn.link ≤ g.L.Link.fault_count l.link;
  leads : g.L.Link.leads l.fn.link l.link;
  rose : RoseBy l.i (g.L.Link.fault_count l.fn.link) (g.L.Link.fault_count l.link);
  none : 0 < l.i → (w : WireReply) → IsReplyText (g.L.Link.kept l.link) w → w.echo ≡ Some (number l.run l.count) → ⊥;
  told : (after : LinkState) → g.L.Link.tells l.link after → (before : LinkState) × g.L.Link.tells l.fn.link before × Asks l.run l.fn.count l.count (IsNumbered l.fn.request) before after;
  sends : (after : LinkState) → g.L.Link.tells l.link after → (before : LinkState) × g.L.Link.tells l.fn.link before × SendsOn (IsTry (numbered l.fn.request)) l.run l.fn.count l.count ⊥ before.sent after.sent;
  last : 0 < l.i → (after : LinkState) → g.L.Link.tells l.link after → IsLast (numbered l.fn.request (number l.run l.count)) after.sent;
}
