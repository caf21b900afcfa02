-- Requests for pages may be sent.
use Rattle.std.proofs.Common.{◌≡◌, ◌^◌, ◌<◌, ◌≤◌, ℕ, true, List, [], ◌∷◌, ◌++◌, length, Option, Some, None, refl, ◌∙◌}
use Rattle.std.proofs.Common.{arith, length-append}
use Rattle.std.proofs.lemmas.Bool.{and_from, or_left}
use Rattle.std.specs.Prelude.{codes, decimal, IfSome}
use Rattle.std.specs.Char.{is_ascii_alphanumeric}
use Rattle.std.specs.List.{list_all}
use Rattle.std.specs.Str.Parse.{AllDigits}
use Rattle.std.proofs.lemmas.Bool.Decides.{nat_tests}
use Rattle.std.proofs.lemmas.Fmt.{decimal_is_IsNumeral, length-decimal-le}
use Rattle.std.proofs.lemmas.List.Folds.{list_all-append}
use Rattle.std.proofs.lemmas.Str.Parse.{digit_from_value}
use Rattle.exchange_link.specs.Pages.{Page}
use Rattle.hub_spec.specs.requests.PageRequests.{page_path, page_query, pin_text}
use Rattle.http_wire.specs.Sending.{CanSend, IsSentEcho, is_sent_byte}
use Rattle.roster_texts.specs.Texts.{is_token}
use Rattle.roster_values.specs.Kinds.{plural_of}
use Rattle.roster_values.specs.declared.kind.Kind.{Kind}
use Rattle.roster_values.specs.declared.kind.Kind.TheVariants.{Orgs}
use Rattle.status_info.specs.declared.request.Echo.{Echo}
use Rattle.exchange_link.specs.Requests.{numbered}
use Rattle.consumer_sync.specs.Requests.{unnumbered}

sent_digit : (c : ℕ) → 48 ≤ c → c ≤ 57 → is_ascii_alphanumeric c ≡ true
sent_digit c low high = grind (arith, nat_tests)

digits_sent : (ds : List ℕ) → AllDigits 10 ds → list_all is_sent_byte ds ≡ true
digits_sent [] x = refl
digits_sent (c ∷ ds) x =
    let (low, high) = digit_from_value c x.0 in
    and_from (is_sent_byte c) (list_all is_sent_byte ds) (or_left (is_ascii_alphanumeric c) _ (sent_digit c low high)) (digits_sent ds x.1)

pub decimal_sent : (n : ℕ) → n < 2 ^ 64 → list_all is_sent_byte (decimal n) ≡ true
decimal_sent n small = let (numeral, value) = decimal_is_IsNumeral n small in digits_sent (decimal n) numeral.1

pub both_sent : (xs ys : List ℕ) → list_all is_sent_byte xs ≡ true → list_all is_sent_byte ys ≡ true → list_all is_sent_byte (xs ++ ys) ≡ true
both_sent xs ys e f = list_all-append is_sent_byte xs ys ∙ and_from (list_all is_sent_byte xs) (list_all is_sent_byte ys) e f

word_sent : (kind : Kind) → list_all is_sent_byte (plural_of kind) ≡ true
word_sent Orgs = refl
word_sent _ = refl

word_short : (kind : Kind) → length (plural_of kind) ≤ 20
word_short Orgs = omega arith
word_short _ = omega arith

pub decimal_short : (n : ℕ) → n < 2 ^ 64 → length (decimal n) ≤ 20
decimal_short n small = length-decimal-le 20 n (omega arith) (omega (arith, small)) small

pub pin_sent : (pin : Option ℕ) → IfSome pin (λ n. n < 2 ^ 64) → list_all is_sent_byte (pin_text pin) ≡ true
pin_sent None x = refl
pin_sent (Some n) x = both_sent (codes "&hubVersion=") (decimal n) refl (decimal_sent n x)

pub pin_short : (pin : Option ℕ) → IfSome pin (λ n. n < 2 ^ 64) → length (pin_text pin) ≤ 40
pin_short None x = omega arith
pin_short (Some n) x = omega (arith, length-append (codes "&hubVersion=") (decimal n), decimal_short n x)

pub path_sent : (kind : Kind) → list_all is_sent_byte (page_path kind) ≡ true
unfolding page_path
path_sent kind = both_sent (codes "/ims/oneroster/v1p1/") (plural_of kind) refl (word_sent kind)

pub path_short : (kind : Kind) → (0 < length (page_path kind)) × (length (page_path kind) ≤ 40)
unfolding page_path
path_short kind = let e = length-append (codes "/ims/oneroster/v1p1/") (plural_of kind) in (omega (arith, e), omega (arith, e, word_short kind))

query_sent : (limit offset : ℕ) (pin : Option ℕ) → limit < 2 ^ 64 → offset < 2 ^ 64 → IfSome pin (λ n. n < 2 ^ 64) → list_all is_sent_byte (page_query limit offset pin) ≡ true
unfolding page_query
query_sent limit offset pin l o p =
    both_sent (codes "limit=") (decimal limit ++ (codes "&offset=" ++ (decimal offset ++ pin_text pin))) refl
    (both_sent (decimal limit) (codes "&offset=" ++ (decimal offset ++ pin_text pin)) (decimal_sent limit l)
    (both_sent (codes "&offset=") (decimal offset ++ pin_text pin) refl (both_sent (decimal offset) (pin_text pin) (decimal_sent offset o) (pin_sent pin p))))

query_short : (limit offset : ℕ) (pin : Option ℕ) → limit < 2 ^ 64 → offset < 2 ^ 64 → IfSome pin (λ n. n < 2 ^ 64) → length (page_query limit offset pin) ≤ 200
unfolding page_query
query_short limit offset pin l o p =
    let a = length-append (decimal offset) (pin_text pin) in
    let b = length-append (codes "&offset=") (decimal offset ++ pin_text pin) in
    let d = length-append (decimal limit) (codes "&offset=" ++ (decimal offset ++ pin_text pin)) in
    let e = length-append (codes "limit=") (decimal limit ++ (codes "&offset=" ++ (decimal offset ++ pin_text pin))) in
    omega (arith, a, b, d, e, decimal_short limit l, decimal_short offset o, pin_short pin p)

-- a request for a page may be sent under each number
pub can_page : (p : Page) → is_token p.token ≡ true → p.limit < 2 ^ 64 → p.offset < 2 ^ 64 → IfSome p.pin (λ n. n < 2 ^ 64) → (n : Echo) → IsSentEcho n → CanSend (numbered (unnumbered p) n)
can_page p good l o pin n echo = record {
  verb = refl;
  path = (path_short p.kind).0;
  target = both_sent (page_path p.kind) (page_query p.limit p.offset p.pin) (path_sent p.kind) (query_sent p.limit p.offset p.pin l o pin);
  short = omega (arith, (path_short p.kind).1, query_short p.limit p.offset p.pin l o pin);
  token = good;
  mark = tt;
  echo = echo;
  close = refl;
}
