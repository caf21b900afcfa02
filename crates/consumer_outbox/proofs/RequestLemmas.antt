-- The request of an entry may be sent, and is read as its write.
use Rattle.std.proofs.Common.{◌≡◌, ◌<◌, ◌≤◌, ◌+◌, ◌/◌, ◌%◌, ℕ, Bool, true, false, cond, nat_le, List, [], ◌∷◌, ◌++◌}
use Rattle.std.proofs.Common.{length, length-append, Some, IsUtf8, codes, refl, sym, subst, arith}
use Rattle.std.specs.List.{flat_map, list_all}
use Rattle.std.proofs.lemmas.Bool.{and_from}
use Rattle.std.proofs.lemmas.Bool.Decides.{nat_tests}
use Rattle.keeper_memory.specs.copy.Copies.{IsGradebook, IsOutWrite}
use Rattle.keeper_memory.specs.declared.copy.entry.OutEntry.{OutEntry}
use Rattle.http_wire.specs.Sending.{CanSend, IsSentEcho, IsSentVerb, is_sent_byte}
use Rattle.hub_spec.proofs.PathLemmas.{encoded_length, text_bytes}
use Rattle.hub_spec.proofs.SendLemmas.{id_long, request_read}
use Rattle.hub_spec.specs.marks.Marked.{mark_of, marked_by}
use Rattle.hub_spec.specs.marks.Sending.{verb_of}
use Rattle.hub_spec.proofs.Below.{and_first, and_second}
use Rattle.roster_texts.specs.Texts.{is_id, is_token}
use Rattle.roster_types.specs.Hrefs.{encoded_byte, href, is_unreserved}
use Rattle.roster_values.specs.Kinds.{plural_of}
use Rattle.roster_values.specs.declared.kind.Kind.{Kind}
use Rattle.roster_values.specs.declared.kind.Kind.TheVariants as kind
use Rattle.percent_encoding.specs.Percent.{percent_encode_byte}
use Rattle.std.specs.Fmt.{digit_glyph}
use Rattle.status_info.specs.declared.request.Echo.{Echo}
use Rattle.status_info.specs.declared.request.Verb.TheVariants.{Delete, Put}
use Rattle.exchange_link.specs.Requests.{numbered}
use Rattle.version_core.specs.declared.mark.Write.{Write}
use Rattle.consumer_outbox.specs.Sends.{request_of}

all_sent : (xs ys : List ℕ) → list_all is_sent_byte xs ≡ true → list_all is_sent_byte ys ≡ true → list_all is_sent_byte (xs ++ ys) ≡ true
all_sent [] ys h k = k
all_sent (x ∷ xs) ys h k = and_from (is_sent_byte x) _ (and_first (is_sent_byte x) _ h) (all_sent xs ys (and_second (is_sent_byte x) _ h) k)

plain : (b : ℕ) → is_unreserved b ≡ true → is_sent_byte b ≡ true
plain b e = grind (arith, nat_tests)

glyph : (d : ℕ) → d < 16 → is_sent_byte (digit_glyph true d) ≡ true
glyph d low = grind (arith, nat_tests)

escaped : (b : ℕ) → list_all is_sent_byte (percent_encode_byte b) ≡ true
unfolding percent_encode_byte
escaped b = and_from _ _ (glyph (b / 16 % 16) (omega arith)) (and_from _ _ (glyph (b % 16) (omega arith)) refl)

one_byte : (b : ℕ) → list_all is_sent_byte (encoded_byte b) ≡ true
one_byte b = elim (is_unreserved b) as (λ t. is_unreserved b ≡ t → list_all is_sent_byte (cond t (b ∷ []) (percent_encode_byte b)) ≡ true) [ true ↦ λ e. and_from _ _ (plain b e) refl | false ↦ λ e. escaped b ] refl

all_bytes : (id : List ℕ) → list_all is_sent_byte (flat_map encoded_byte id) ≡ true
all_bytes [] = refl
all_bytes (b ∷ id) = all_sent (encoded_byte b) (flat_map encoded_byte id) (one_byte b) (all_bytes id)

front : Kind → List ℕ
front k = codes "/ims/oneroster/v1p1/" ++ plural_of k ++ codes "/"

front_sent : (k : Kind) → IsGradebook k → (list_all is_sent_byte (front k) ≡ true) × (length (front k) ≤ 40)
unfolding front
front_sent kind.Categories g = (refl, omega arith)
front_sent kind.LineItems g = (refl, omega arith)
front_sent kind.Results g = (refl, omega arith)
front_sent _ g = absurd g

target : (k : Kind) (id : List ℕ) → IsGradebook k → list_all is_sent_byte (href k id ++ []) ≡ true
unfolding href front
target k id g = all_sent (front k ++ flat_map encoded_byte id) [] (all_sent (front k) (flat_map encoded_byte id) (front_sent k g).0 (all_bytes id)) refl

-- an id has at most 255 bytes
id_short : (id : List ℕ) → is_id id ≡ true → length id ≤ 255
id_short id good = let le = and_first (nat_le (length id) 255) _ (and_second _ _ good) in grind (arith, nat_tests)

path_length : (k : Kind) (id : List ℕ) → IsGradebook k → IsUtf8 id → is_id id ≡ true → (0 < length (href k id)) × (length (href k id) ≤ 8192)
unfolding href front
path_length k id g text good =
    let long = encoded_length id (text_bytes id text) in
    let some = id_long id good in
    let whole : length (front k ++ flat_map encoded_byte id) ≡ length (front k) + length (flat_map encoded_byte id) = length-append (front k) (flat_map encoded_byte id) in
    (omega (arith, whole, long.0, some), omega (arith, whole, long.1, id_short id good, (front_sent k g).1))

verb_sent : (write : Write) (b : Bool) → write.delete ≡ b → IsOutWrite write → IsSentVerb (verb_of write) write.body
verb_sent write true e is = subst (λ d. IsSentVerb (cond d Delete Put) write.body) (sym e) (is.delete e)
verb_sent write false e is = subst (λ d. IsSentVerb (cond d Delete Put) write.body) (sym e) is.body

pub request_can : (token : List ℕ) (entry : OutEntry) (n : Echo) → is_token token ≡ true → IsUtf8 entry.write.id → is_id entry.write.id ≡ true → IsOutWrite entry.write → 1 ≤ entry.number → entry.number ≤ 1_000_000_000_000_000 → IsSentEcho n
    → CanSend (numbered (request_of token entry) n)
request_can token entry n good text id is least most echo =
    let long = path_length entry.write.kind entry.write.id is.kind text id in
    record {
      verb = verb_sent entry.write entry.write.delete refl is;
      path = long.0;
      target = target entry.write.kind entry.write.id is.kind;
      short = omega (arith, long.1);
      token = good;
      mark = (least, most);
      echo = echo;
      close = refl;
    }

pub request_marked : (token : List ℕ) (entry : OutEntry) (n : Echo) → IsUtf8 entry.write.id → is_id entry.write.id ≡ true → IsOutWrite entry.write → marked_by (numbered (request_of token entry) n) ≡ Some (mark_of entry)
request_marked token entry n text id is = request_read token (mark_of entry) (Some n) is.kind text id
