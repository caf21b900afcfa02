-- Requests for pages of what differs may be sent.
use Rattle.std.proofs.Common.{◌≡◌, ◌^◌, ◌<◌, ◌≤◌, ℕ, true, ◌++◌, length, Option, refl, arith, length-append}
use Rattle.std.specs.Prelude.{codes, decimal, IfSome}
use Rattle.std.specs.List.{list_all}
use Rattle.exchange_link.specs.Pages.{Page}
use Rattle.exchange_link.specs.Requests.{numbered}
use Rattle.http_wire.specs.Sending.{CanSend, IsSentEcho, is_sent_byte}
use Rattle.hub_spec.specs.requests.DeltaRequests.{delta_query}
use Rattle.hub_spec.specs.requests.PageRequests.{page_path, pin_text}
use Rattle.roster_texts.specs.Texts.{is_token}
use Rattle.status_info.specs.declared.request.Echo.{Echo}
use Rattle.consumer_sync.proofs.PageLemmas.{both_sent, decimal_sent, decimal_short, path_sent, path_short, pin_sent}
use Rattle.consumer_sync.proofs.PageLemmas.{pin_short}
use Rattle.consumer_deltas.specs.DeltaRequests.{delta_unnumbered}

module _ (limit offset base : ℕ) (pin : Option ℕ) (l : limit < 2 ^ 64) (o : offset < 2 ^ 64) (b : base < 2 ^ 64) (p : IfSome pin (λ n. n < 2 ^ 64)) where
  query_sent : list_all is_sent_byte (delta_query limit offset base pin) ≡ true
  unfolding delta_query
  query_sent =
      both_sent (codes "limit=") (decimal limit ++ (codes "&offset=" ++ (decimal offset ++ (codes "&hubSince=" ++ (decimal base ++ pin_text pin))))) refl
      (both_sent (decimal limit) (codes "&offset=" ++ (decimal offset ++ (codes "&hubSince=" ++ (decimal base ++ pin_text pin)))) (decimal_sent limit l)
      (both_sent (codes "&offset=") (decimal offset ++ (codes "&hubSince=" ++ (decimal base ++ pin_text pin))) refl
      (both_sent (decimal offset) (codes "&hubSince=" ++ (decimal base ++ pin_text pin)) (decimal_sent offset o)
      (both_sent (codes "&hubSince=") (decimal base ++ pin_text pin) refl
      (both_sent (decimal base) (pin_text pin) (decimal_sent base b) (pin_sent pin p))))))

  query_short : length (delta_query limit offset base pin) ≤ 200
  unfolding delta_query
  query_short =
      let e1 = length-append (decimal base) (pin_text pin) in
      let e2 = length-append (codes "&hubSince=") (decimal base ++ pin_text pin) in
      let e3 = length-append (decimal offset) (codes "&hubSince=" ++ (decimal base ++ pin_text pin)) in
      let e4 = length-append (codes "&offset=") (decimal offset ++ (codes "&hubSince=" ++ (decimal base ++ pin_text pin))) in
      let e5 = length-append (decimal limit) (codes "&offset=" ++ (decimal offset ++ (codes "&hubSince=" ++ (decimal base ++ pin_text pin)))) in
      let e6 = length-append (codes "limit=") (decimal limit ++ (codes "&offset=" ++ (decimal offset ++ (codes "&hubSince=" ++ (decimal base ++ pin_text pin))))) in
      omega (arith, e1, e2, e3, e4, e5, e6, decimal_short limit l, decimal_short offset o, decimal_short base b, pin_short pin p)

-- a request for a page of what differs may be sent under each number
pub can_ask : (p : Page) (base : ℕ) → is_token p.token ≡ true → p.limit < 2 ^ 64 → p.offset < 2 ^ 64 → base < 2 ^ 64 → IfSome p.pin (λ n. n < 2 ^ 64) → (n : Echo) → IsSentEcho n → CanSend (numbered (delta_unnumbered p base) n)
can_ask p base good l o b pin n echo = record {
  verb = refl;
  path = (path_short p.kind).0;
  target = both_sent (page_path p.kind) (delta_query p.limit p.offset base p.pin) (path_sent p.kind) (query_sent p.limit p.offset base p.pin l o b pin);
  short = omega (arith, (path_short p.kind).1, query_short p.limit p.offset base p.pin l o b pin);
  token = good;
  mark = tt;
  echo = echo;
  close = refl;
}
