-- A request's text is of one request.
use Rattle.std.proofs.Common.{◌≡◌, ◌≢◌, List, [], ℕ, None, Some, Ok, Err, append-nil, arith, refl, subst, sym, ◌∙◌}
use Rattle.std.specs.Io.KnownBytes.{prepend_known}
use Rattle.std.specs.Prelude.{Result}
use Rattle.exchange_link.specs.Exchanges.{IsSentText, IsTextOf}
use Rattle.http_wire.proofs.SendLemmas.{sent_is_read}
use Rattle.http_wire.proofs.StreamLemmas.{begins_unique}
use Rattle.http_wire.specs.Reading.{BeginsWith, BeginsWithNone, Held, OnStream, SourceCause}
use Rattle.http_wire.specs.Sending.{request_text}
use Rattle.http_wire.specs.declared.fault.WireFault.{WireFault}
use Rattle.http_wire.specs.declared.fault.WireFault.TheVariants as fault
use Rattle.status_info.specs.declared.request.Request.{Request}

begins_own : (text : List ℕ) (q : Request) → IsTextOf q text → BeginsWith text q []
begins_own text q is = subst (λ t. BeginsWith t q []) (append-nil (request_text q) ∙ sym is.text_is) (sent_is_read q [] is.can)

one_request : (text : List ℕ) (request q : Request) (rest : List ℕ) → IsTextOf q text → BeginsWith text request rest → request ≡ q
one_request text request q rest is begins = (begins_unique text request q rest [] begins (begins_own text q is)).0

pub some_request : (text : List ℕ) → IsSentText text → BeginsWithNone text → ⊥
some_request text (q, is) none = none q [] (begins_own text q is)

abbrev At : Held → List ℕ → List ℕ → Result Request WireFault → Type 0
At held text rest result = OnStream held.fault (prepend_known held.kept (Some text)) (Some rest) result

abbrev none_held : Held
none_held = record { kept = []; fault = None }

-- a reader that holds nothing reads the request of a text
pub read_request : (held : Held) (text rest : List ℕ) (request : Request) → held ≡ none_held → At held text rest (Ok request) → (q : Request) → IsTextOf q text → request ≡ q
read_request held text rest request fresh read q is = one_request text request q rest is (subst (λ (h : Held). At h text rest (Ok request)) fresh read)

failed : (e : WireFault) (text rest : List ℕ) → IsSentText text → e ≢ fault.NoMemory → SourceCause {T = Request} 0 0 (Err e) → At none_held text rest (Err e) → ⊥
failed fault.Source text rest sent other cause read = let rose = cause.1 in absurd (omega (arith, rose))
failed fault.NoMemory text rest sent other cause read = other refl
failed each text rest sent other cause read = some_request text sent (read.1 refl refl)

-- and fails at memory alone
pub never_fails : (e : WireFault) (held : Held) (text rest : List ℕ) → held ≡ none_held → IsSentText text → e ≢ fault.NoMemory → SourceCause {T = Request} 0 0 (Err e) → At held text rest (Err e) → ⊥
never_fails e held text rest fresh sent other cause read = failed e text rest sent other cause (subst (λ (h : Held). At h text rest (Err e)) fresh read)
