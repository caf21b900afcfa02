-- The text of a reply.
use Rattle.std.specs.Prelude.{ℕ, Bool, List, [], ◌∷◌, ◌++◌, length, if◌then◌else◌, ◌==◌, Option, Some, None, codes}
use Rattle.std.specs.Prelude.{decimal, unwrap_or}
use Rattle.std.specs.List.{flat_map}
use Rattle.http.specs.StatusCode.{reason_phrase}
use Rattle.status_info.specs.Bodies.{status_body}
use Rattle.status_info.specs.Causes.{status_of}
use Rattle.status_info.specs.declared.cause.Cause.{Cause}
use Rattle.status_info.specs.declared.request.Echo.{Echo}
use Rattle.status_info.specs.declared.reply.Rel.{Rel}
use Rattle.status_info.specs.declared.reply.Rel.TheVariants as rel
use Rattle.status_info.specs.declared.reply.LinkItem.{LinkItem}
use Rattle.status_info.specs.declared.reply.Warnings.{Warnings}
use Rattle.status_info.specs.declared.reply.Reply.{Reply}

-- the pieces, one behind the other
abbrev pub joined : List (List ℕ) → List ℕ
joined [] = []
joined (piece ∷ pieces) = piece ++ joined pieces

abbrev pub line_end : List ℕ
line_end = 13 ∷ 10 ∷ []

-- the phrase of a status
unfoldable pub phrase_of : ℕ → List ℕ
phrase_of status = unwrap_or (reason_phrase status) []

-- ---- fields that a cause brings

unfoldable pub type_line : Cause → List ℕ
type_line cause = if status_of cause == 204 then [] else codes "Content-Type: application/json\r\n"

unfoldable pub challenge_line : Cause → List ℕ
challenge_line cause = if status_of cause == 401 then codes "WWW-Authenticate: Bearer\r\n" else []

unfoldable pub allow_line : Cause → Bool → List ℕ
allow_line cause allow_write =
    if status_of cause == 405 then (if allow_write then codes "Allow: GET, PUT, DELETE\r\n" else codes "Allow: GET\r\n") else []

-- the status line, and those fields
unfoldable pub start_text : Cause → Bool → List ℕ
start_text cause allow_write = joined (
    codes "HTTP/1.1 " ∷ decimal (status_of cause) ∷ codes " " ∷ phrase_of (status_of cause) ∷ line_end
    ∷ type_line cause ∷ challenge_line cause ∷ allow_line cause allow_write ∷ [])

-- ---- fields that stand where a reply has their value

unfoldable pub number_line : List ℕ → Option ℕ → List ℕ
number_line name None = []
number_line name (Some n) = joined (name ∷ decimal n ∷ line_end ∷ [])

abbrev pub rel_word : Rel → List ℕ
rel_word rel.Next = codes "next"
rel_word rel.Prev = codes "prev"
rel_word rel.First = codes "first"
rel_word rel.Last = codes "last"

-- a target, behind its opening bracket, and what it is
unfoldable pub target_text : List ℕ → Rel → List ℕ
target_text target rel = joined (target ∷ codes ">; rel=\"" ∷ rel_word rel ∷ codes "\"" ∷ [])

abbrev pub link_text : LinkItem → List ℕ
link_text link = target_text link.target link.rel

abbrev pub further_link : LinkItem → List ℕ
further_link link = codes ", <" ++ link_text link

abbrev pub more_links : List LinkItem → List ℕ
more_links links = flat_map further_link links

unfoldable pub some_links : LinkItem → List LinkItem → List ℕ
some_links link links = codes "Link: <" ++ (link_text link ++ (more_links links ++ line_end))

abbrev pub links_line : List LinkItem → List ℕ
links_line [] = []
links_line (link ∷ links) = some_links link links

unfoldable pub warning_line : Warnings → List ℕ
warning_line w =
    if w.sort then (if w.selection then codes "X-Hub-Warning: invalid_sort_field, invalid_selection_field\r\n" else codes "X-Hub-Warning: invalid_sort_field\r\n")
    else (if w.selection then codes "X-Hub-Warning: invalid_selection_field\r\n" else [])

unfoldable pub echo_text : ℕ → ℕ → List ℕ
echo_text run count = joined (codes "X-Hub-Exchange: " ∷ decimal run ∷ codes "." ∷ decimal count ∷ line_end ∷ [])

abbrev pub echo_line : Option Echo → List ℕ
echo_line None = []
echo_line (Some echo) = echo_text echo.run echo.count

unfoldable pub close_line : Bool → List ℕ
close_line close = if close then codes "Connection: close\r\n" else []

-- ---- the body

-- the body of a reply: its own where its status is 200, none where it is 204 or the reply has a head alone
unfoldable pub body_text : Reply → List ℕ
body_text reply =
    if reply.headless then [] else if status_of reply.cause == 200 then reply.body
    else if status_of reply.cause == 204 then [] else status_body reply.cause

-- the length of the body, which a 204 doesn't say
unfoldable pub length_of_body : Reply → Option ℕ
length_of_body reply = if status_of reply.cause == 204 then None else Some (length (body_text reply))

abbrev pub length_line : Reply → List ℕ
length_line reply = number_line (codes "Content-Length: ") (length_of_body reply)

-- ---- the whole

-- the status line, and the fields in front of the links
unfoldable pub front_text : Reply → List ℕ
front_text reply =
    start_text reply.cause reply.allow_write ++ number_line (codes "X-Total-Count: ") reply.total

-- the fields that name a version and a mark
unfoldable pub versions_text : Reply → List ℕ
versions_text reply =
    number_line (codes "X-Hub-Version: ") reply.version ++ (number_line (codes "X-Hub-Oldest: ") reply.oldest
    ++ number_line (codes "X-Hub-Mark: ") reply.mark)

-- the fields at the end of the head, and the empty line
unfoldable pub end_text : Reply → List ℕ
end_text reply = echo_line reply.echo ++ (close_line reply.close ++ (length_line reply ++ line_end))

-- all that stands in front of the body
abbrev pub head_text : Reply → List ℕ
head_text reply =
    front_text reply ++ (links_line reply.links ++ (warning_line reply.warnings ++ (versions_text reply ++ end_text reply)))

abbrev pub reply_text : Reply → List ℕ
reply_text reply =
    front_text reply ++ (links_line reply.links ++ (warning_line reply.warnings
    ++ (versions_text reply ++ (end_text reply ++ body_text reply))))
