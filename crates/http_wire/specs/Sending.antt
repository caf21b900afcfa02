-- The text of a request that the consumer sends.
use Rattle.std.specs.Prelude.{◌≡◌, ◌<◌, ◌≤◌, ◌+◌, ◌*◌, ◌||◌, ℕ, Bool, true, false, List, [], ◌∷◌, ◌++◌, length}
use Rattle.std.specs.Prelude.{if◌then◌else◌, ◌==◌, Option, Some, None, IsSomeAnd, codes, ⊤}
use Rattle.std.specs.Char.{is_ascii_alphanumeric}
use Rattle.std.specs.List.{list_all, list_any}
use Rattle.status_info.specs.declared.request.Echo.{Echo}
use Rattle.roster_texts.specs.Texts.{is_token}
use Rattle.http_wire.specs.Heads.{max_body}
use Rattle.http_wire.specs.Texts.{last_number}
use Rattle.status_info.specs.declared.request.Request.{Request}
use Rattle.status_info.specs.declared.request.Verb.{Verb}
use Rattle.status_info.specs.declared.request.Verb.TheVariants as verb
use Rattle.status_info.specs.declared.request.MarkField.{MarkField}
use Rattle.status_info.specs.declared.request.MarkField.TheVariants as mark
use Rattle.http_wire.specs.Replies.{joined, line_end, number_line, echo_line}

-- the word of a verb; the consumer sends the first three
abbrev pub verb_word : Verb → List ℕ
verb_word verb.Get = codes "GET"
verb_word verb.Put = codes "PUT"
verb_word verb.Delete = codes "DELETE"
verb_word verb.Head = codes "HEAD"
verb_word verb.Other = codes "OTHER"

-- the question mark in front of a query that isn't empty
abbrev pub query_mark : List ℕ → List ℕ
query_mark query = if length query == 0 then [] else codes "?"

unfoldable pub verb_text : Verb → List ℕ
verb_text verb = joined (verb_word verb ∷ codes " " ∷ [])

-- the path, and what stands in front of the query
unfoldable pub path_text : List ℕ → List ℕ → List ℕ
path_text path query = joined (path ∷ query_mark query ∷ [])

-- the query, the rest of its line, and the field of the host
unfoldable pub query_text : List ℕ → List ℕ
query_text query = joined (query ∷ codes " HTTP/1.1\r\nHost: hub\r\n" ∷ [])

unfoldable pub token_text : List ℕ → List ℕ
token_text token = joined (codes "Authorization: Bearer " ∷ token ∷ line_end ∷ [])

abbrev pub token_line : Option (List ℕ) → List ℕ
token_line None = []
token_line (Some token) = token_text token

abbrev pub mark_number : MarkField → Option ℕ
mark_number mark.Nothing = None
mark_number (mark.Number n) = Some n
mark_number mark.Bad = None

-- the length of a body, which a PUT alone has
abbrev pub put_length : Verb → List ℕ → Option ℕ
put_length verb.Get body = None
put_length verb.Put body = Some (length body)
put_length verb.Delete body = None
put_length verb.Head body = None
put_length verb.Other body = None

abbrev pub request_text : Request → List ℕ
request_text r =
    verb_text r.verb ++ (path_text r.path r.query ++ (query_text r.query ++ (token_line r.token
    ++ (number_line (codes "X-Hub-Mark: ") (mark_number r.mark) ++ (echo_line r.echo
    ++ (number_line (codes "Content-Length: ") (put_length r.verb r.body) ++ (line_end ++ r.body)))))))

-- ---- what the consumer may send

-- a letter, a digit, or one of "-._~*%+&=/"
abbrev pub is_sent_byte : ℕ → Bool
is_sent_byte b = is_ascii_alphanumeric b || list_any (λ c. c == b) (codes "-._~*%+&=/")

abbrev pub IsSentVerb : Verb → List ℕ → Type 0
IsSentVerb verb.Get body = body ≡ []
IsSentVerb verb.Put body = length body ≤ max_body
IsSentVerb verb.Delete body = body ≡ []
IsSentVerb verb.Head body = ⊥
IsSentVerb verb.Other body = ⊥

abbrev pub IsSentMark : MarkField → Type 0
IsSentMark mark.Nothing = ⊤
IsSentMark (mark.Number n) = (1 ≤ n) × (n ≤ last_number)
IsSentMark mark.Bad = ⊥

abbrev pub IsSentEcho : Echo → Type 0
IsSentEcho echo = (1 ≤ echo.run) × (echo.run ≤ last_number) × (1 ≤ echo.count) × (echo.count ≤ 100 * last_number)

-- a request whose text is read as the same request
pub record CanSend (r : Request) : Type 0 where
  pub verb : IsSentVerb r.verb r.body
  pub path : 0 < length r.path
  pub target : list_all is_sent_byte (r.path ++ r.query) ≡ true
  pub short : length r.path + length r.query ≤ 8_192
  pub token : IsSomeAnd r.token (λ t. is_token t ≡ true)
  pub mark : IsSentMark r.mark
  pub echo : IsSomeAnd r.echo IsSentEcho
  pub close : r.close ≡ false
