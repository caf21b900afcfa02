-- The request that sends a marked write is read as that.
use Rattle.std.proofs.Common.{◌≡◌, ℕ, ◌<◌, Bool, true, false, ◌&&◌, cond, List, [], ◌∷◌, length, nat_lt, IsUtf8, Option}
use Rattle.std.proofs.Common.{None, Some, refl, sym, ap, ◌∙◌, arith}
use Rattle.std.proofs.lemmas.Bool.Decides.{nat_tests}
use Rattle.std.proofs.lemmas.Str.{is_utf8-from_IsUtf8}
use Rattle.reference_rules.proofs.KeyOrder.{and_first}
use Rattle.rest_paths.specs.Paths.{PathParts as Path}
use Rattle.rest_paths.specs.Routes.{is_gradebook}
use Rattle.rest_paths.specs.declared.route.Collection.TheVariants as collection
use Rattle.rest_paths.specs.declared.route.Route.TheVariants as route
use Rattle.hub_spec.specs.requests.Requests.{wanted_by}
use Rattle.hub_spec.specs.rules.Answers.{write_of}
use Rattle.hub_spec.specs.rules.Wanted.{is_delete, is_write, takes_writes}
use Rattle.keeper_memory.specs.copy.Copies.{IsGradebook}
use Rattle.roster_texts.specs.Texts.{is_id}
use Rattle.roster_values.specs.declared.kind.Kind.{Kind}
use Rattle.roster_values.specs.declared.kind.Kind.TheVariants as kind
use Rattle.status_info.specs.declared.request.Echo.{Echo}
use Rattle.status_info.specs.declared.request.Request.{Request}
use Rattle.hub_spec.proofs.PathLemmas.{path_read, text_bytes}
use Rattle.hub_spec.specs.marks.Marked.{Marked, marked_at, marked_by, marked_in}
use Rattle.hub_spec.specs.marks.Sending.{verb_of, write_request}

pub graded : (k : Kind) → IsGradebook k → is_gradebook k ≡ true
graded kind.Categories g = refl
graded kind.LineItems g = refl
graded kind.Results g = refl
graded _ g = absurd g

-- the object of a kind
abbrev object : Kind → List ℕ → Path
object k id = record { route = route.One (collection.Of k); ids = id ∷ [] }

takes : (k : Kind) (id : List ℕ) → IsGradebook k → takes_writes (object k id) ≡ true
takes kind.Categories id g = refl
takes kind.LineItems id g = refl
takes kind.Results id g = refl
takes _ id g = absurd g

-- an id has a byte
pub id_long : (id : List ℕ) → is_id id ≡ true → 0 < length id
id_long id good = let some = and_first (nat_lt 0 (length id)) _ good in grind (arith, nat_tests)

module _ (token : List ℕ) (marked : Marked) (echo : Option Echo) where
  abbrev request : Request
  request = write_request token marked echo

  writes : (b : Bool) → marked.write.delete ≡ b → is_write (verb_of marked.write) ≡ true
  writes true e = ap (λ d. is_write (verb_of (record marked.write { delete = d }))) e
  writes false e = ap (λ d. is_write (verb_of (record marked.write { delete = d }))) e

  deletes : (b : Bool) → marked.write.delete ≡ b → is_delete (verb_of marked.write) ≡ marked.write.delete
  deletes true e = ap (λ d. is_delete (verb_of (record marked.write { delete = d }))) e ∙ sym e
  deletes false e = ap (λ d. is_delete (verb_of (record marked.write { delete = d }))) e ∙ sym e

  -- it has the mark, and the write
  pub request_read : IsGradebook marked.write.kind → IsUtf8 marked.write.id → is_id marked.write.id ≡ true → marked_by request ≡ Some marked
  unfolding marked_in
  request_read kind text good =
      let path = path_read marked.write.kind marked.write.id (graded marked.write.kind kind) (text_bytes marked.write.id text) (is_utf8-from_IsUtf8 marked.write.id text) good (id_long marked.write.id good) in
      ap (λ o. marked_at (wanted_by request) (Some marked.number) o) path
      ∙ ap (λ b. cond (b && takes_writes (object marked.write.kind marked.write.id)) (Some (record { number = marked.number; write = write_of (wanted_by request) (object marked.write.kind marked.write.id) })) None) (writes marked.write.delete refl)
      ∙ ap (λ b. cond b (Some (record { number = marked.number; write = write_of (wanted_by request) (object marked.write.kind marked.write.id) })) None) (takes marked.write.kind marked.write.id kind)
      ∙ ap (λ d. Some (record { number = marked.number; write = record { delete = d; kind = marked.write.kind; id = marked.write.id; body = marked.write.body } })) (deletes marked.write.delete refl)
