-- A stream has one list of requests, whatever follows the bytes that show it.
use Rattle.std.proofs.Common.{◌≡◌, ◌≤◌, inl, inr, ℕ, ◌+◌, ◌-◌, List, [], ◌∷◌, ◌++◌, length, take, Bool, true, false}
use Rattle.std.proofs.Common.{Option, Some, None, Result, Ok, Err, refl, sym, ap, ◌∙◌, subst, arith, append_assoc}
use Rattle.std.specs.Prelude.{MatchOption, MatchBool}
use Rattle.std.specs.Io.KnownBytes.{Consumes, prepend_known}
use Rattle.std.proofs.lemmas.List.{append-nil, take-append-le}
use Rattle.std.proofs.Math.Seq.{take-append-add}
use Rattle.httparse.specs.Grammar.{RequestHead, HasNoRequest, print_request}
use Rattle.httparse.proofs.GrammarLemmas.{ReadsRequest-append}
use Rattle.status_info.specs.declared.request.Request.{Request}
use Rattle.http_wire.specs.declared.fault.WireFault.{WireFault}
use Rattle.http_wire.specs.declared.fault.WireFault.TheVariants as fault
use Rattle.http_wire.specs.Lasting.{lasting}
use Rattle.http_wire.specs.Heads.{request_parts, asked, body_length, max_head}
use Rattle.http_wire.specs.Reading.{AreRequests, BeginsWith, BeginsWithNone, Causes, Explains, Fails, FailsAgain}
use Rattle.http_wire.specs.Reading.{HasFaultyLength, HasHead, Held, NextGives, OnStream}
use Rattle.http_wire.proofs.FrontLemmas.{head_unique}

-- what follows the bytes changes no request at their front
head_append : {bytes : List ℕ} {h : RequestHead} {after : List ℕ} (more : List ℕ) → HasHead bytes h after → HasHead (bytes ++ more) h (after ++ more)
head_append {bytes} {h} {after} more head =
    record { reads = ReadsRequest-append bytes h after more head.reads; short = head.short; few = head.few }

pub begins_append : (bytes : List ℕ) (request : Request) (rest more : List ℕ) → BeginsWith bytes request rest → BeginsWith (bytes ++ more) request (rest ++ more)
begins_append bytes request rest more (h, after, head, body) = (
  h,
  after ++ more,
  head_append more head,
  record {
    length_is = body.length_is;
    body = ap (λ (xs : List ℕ). xs ++ more) body.body ∙ append_assoc request.body rest more;
    asks = body.asks;
  },
)

-- two lists that end in the same list, with fronts of one length
same_front : (a b x y : List ℕ) → length a ≡ length b → a ++ x ≡ b ++ y → (a ≡ b) × (x ≡ y)
same_front [] [] x y n h = (refl, h)
same_front [] (q ∷ b) x y n h = absurd (omega arith)
same_front (p ∷ a) [] x y n h = absurd (omega arith)
same_front (p ∷ a) (q ∷ b) x y n h =
    let tails : a ++ x ≡ b ++ y = cc in
    let heads : p ≡ q = cc in
    let (front, rest) = same_front a b x y (omega arith) tails in (cc (front, heads), rest)

-- at most one request stands at the front
pub begins_unique : (bytes : List ℕ) (a b : Request) (x y : List ℕ) → BeginsWith bytes a x → BeginsWith bytes b y → (a ≡ b) × (x ≡ y)
begins_unique bytes a b x y (h, after, head, body) (k, others, other_head, other) =
    let (same, left) = head_unique h k head other_head in
    let lengths : body_length (request_parts k).fields ≡ Ok (length a.body) = ap (λ (h : RequestHead). body_length (request_parts h).fields) (sym same) ∙ body.length_is in
    let count : length a.body ≡ length b.body = let e = other.length_is in cc in
    let (bodies, rests) = same_front a.body b.body x y count (sym body.body ∙ left ∙ other.body) in (
      body.asks ∙ ap (λ (h : RequestHead). asked (request_parts h) a.body) same ∙ ap (asked (request_parts k)) bodies ∙ sym other.asks,
      rests,
    )

-- a head that is too long stands at the front of no longer bytes
long_none : (bytes more : List ℕ) (h : RequestHead) (after : List ℕ) → max_head ≤ length bytes → HasNoRequest (take max_head bytes) → HasHead (bytes ++ more) h after → ⊥
long_none bytes more h after long none head =
    let split : max_head ≡ length (print_request h) + (max_head - length (print_request h)) = omega (arith, head.short) in
    let whole : take max_head bytes ≡ print_request h ++ take (max_head - length (print_request h)) after =
    sym (take-append-le max_head bytes more long) ∙ ap (take max_head) head.reads.1
    ∙ ap (λ (k : ℕ). take k (print_request h ++ after)) split ∙ take-append-add (print_request h) after (max_head - length (print_request h)) in
    none h (take (max_head - length (print_request h)) after) (head.reads.0, whole)

faulty_none : (e : WireFault) (bytes more : List ℕ) → HasFaultyLength e bytes → BeginsWithNone (bytes ++ more)
faulty_none e bytes more (h, after, head, is) request rest (k, others, other_head, other) =
    let (same, left) = head_unique h k (head_append more head) other_head in
    let fails : body_length (request_parts k).fields ≡ Err e = ap (λ (h : RequestHead). body_length (request_parts h).fields) (sym same) ∙ is in
    let e = other.length_is in cc

-- what is refused stays refused, whatever follows
pub refused_none : (e : WireFault) (bytes more : List ℕ) → lasting e ≡ Some e → Explains e bytes → BeginsWithNone (bytes ++ more)
refused_none fault.End bytes more lasts why = absurd why
refused_none fault.Cut bytes more lasts why = absurd why
refused_none fault.Head bytes more lasts why = λ request rest (h, after, head, body). why more h after head.reads
refused_none fault.HeadTooLong bytes more lasts (inl (long, none)) = λ request rest (h, after, head, body). long_none bytes more h after long none head
refused_none fault.HeadTooLong bytes more lasts (inr over) =
    λ request rest (h, after, head, body). let many = over more h after head.reads in absurd (omega (arith, head.few))
refused_none fault.Length bytes more lasts why = faulty_none fault.Length bytes more why
refused_none fault.BodyTooLong bytes more lasts why = faulty_none fault.BodyTooLong bytes more why
refused_none fault.Chunked bytes more lasts why = faulty_none fault.Chunked bytes more why
refused_none fault.Source bytes more lasts why = absurd why
refused_none fault.NoMemory bytes more lasts why = cc

-- the cause of a fault says that no request text stands at the front of the stream
pub causes_none : (e : WireFault) (bytes rest : List ℕ) → lasting e ≡ Some e → Causes e bytes (Some rest) → BeginsWithNone (bytes ++ rest)
causes_none fault.End bytes rest lasts (empty, none, end) = subst BeginsWithNone (sym (ap (λ (bs : List ℕ). bytes ++ bs) end ∙ append-nil bytes)) none
causes_none fault.Cut bytes rest lasts (some, none, end) = subst BeginsWithNone (sym (ap (λ (bs : List ℕ). bytes ++ bs) end ∙ append-nil bytes)) none
causes_none fault.Head bytes rest lasts why = refused_none fault.Head bytes rest lasts why
causes_none fault.HeadTooLong bytes rest lasts why = refused_none fault.HeadTooLong bytes rest lasts why
causes_none fault.Length bytes rest lasts why = refused_none fault.Length bytes rest lasts why
causes_none fault.BodyTooLong bytes rest lasts why = refused_none fault.BodyTooLong bytes rest lasts why
causes_none fault.Chunked bytes rest lasts why = refused_none fault.Chunked bytes rest lasts why
causes_none fault.Source bytes rest lasts why = cc
causes_none fault.NoMemory bytes rest lasts why = refused_none fault.NoMemory bytes rest lasts why

failed_stream : (known : Option WireFault) (old new : Held) (taken xs ys : List ℕ) (e : WireFault) → xs ≡ taken ++ ys
    → MatchOption known (Fails e (old.kept ++ taken) new (Some ys)) (λ k. FailsAgain k e taken old new)
    → (new.kept ++ ys ≡ old.kept ++ xs) × (known ≡ None → lasting e ≡ Some e → BeginsWithNone (old.kept ++ xs))
failed_stream None old new taken xs ys e consumed fails =
    let whole : (old.kept ++ taken) ++ ys ≡ old.kept ++ xs = append_assoc old.kept taken ys ∙ ap (λ (bs : List ℕ). old.kept ++ bs) (sym consumed) in (
      ap (λ (bs : List ℕ). bs ++ ys) fails.kept ∙ whole,
      (λ _ lasts. subst BeginsWithNone whole (causes_none e (old.kept ++ taken) ys lasts fails.cause)),
    )
failed_stream (Some k) old new taken xs ys e consumed again =
    let same : ys ≡ xs = sym (consumed ∙ ap (λ (bs : List ℕ). bs ++ ys) again.none_taken) in (
      ap (λ (h : Held). h.kept ++ ys) again.unchanged ∙ ap (λ (bs : List ℕ). old.kept ++ bs) same,
      (λ (is : Some k ≡ None). cc),
    )

-- from the bytes that a call took to the whole stream
pub on_stream : (old new : Held) (taken : List ℕ) (left rest : Option (List ℕ)) (result : Result Request WireFault)
    → Consumes left rest taken → NextGives old taken new rest result → OnStream old.fault (prepend_known old.kept left) (prepend_known new.kept rest) result
on_stream old new taken None rest result consumed gives = tt
on_stream old new taken (Some xs) None result consumed gives = absurd consumed
on_stream old new taken (Some xs) (Some ys) (Ok request) consumed (fresh, none, begins) =
    let whole : (old.kept ++ taken) ++ ys ≡ old.kept ++ xs = append_assoc old.kept taken ys ∙ ap (λ (bs : List ℕ). old.kept ++ bs) (sym consumed) in
    subst (λ (bs : List ℕ). BeginsWith bs request (new.kept ++ ys)) whole (begins_append (old.kept ++ taken) request new.kept ys begins)
on_stream old new taken (Some xs) (Some ys) (Err e) consumed gives = failed_stream old.fault old new taken xs ys e consumed gives

-- ---- one reading

goes_on : (closed : Bool) (after : List ℕ) (xs ys : List Request) (rest others : List ℕ)
    → (AreRequests after xs rest → AreRequests after ys others → (xs ≡ ys) × (rest ≡ others))
    → MatchBool closed ((xs ≡ []) × (rest ≡ after)) (AreRequests after xs rest)
    → MatchBool closed ((ys ≡ []) × (others ≡ after)) (AreRequests after ys others) → (xs ≡ ys) × (rest ≡ others)
goes_on true after xs ys rest others same x y = (x.0 ∙ sym y.0, x.1 ∙ sym y.1)
goes_on false after xs ys rest others same x y = same x y

pub one_reading : (bytes : List ℕ) (xs ys : List Request) (rest others : List ℕ) → AreRequests bytes xs rest → AreRequests bytes ys others → (xs ≡ ys) × (rest ≡ others)
one_reading bytes [] [] rest others x y = (refl, x.1 ∙ sym y.1)
one_reading bytes [] (b ∷ ys) rest others x (after, begins, more) = absurd (x.0 b after begins)
one_reading bytes (a ∷ xs) [] rest others (after, begins, more) y = absurd (y.0 a after begins)
one_reading bytes (a ∷ xs) (b ∷ ys) rest others (after, begins, more) (behind, starts, further) =
    let (same, left) = begins_unique bytes a b after behind begins starts in
    let aligned : MatchBool a.close ((ys ≡ []) × (others ≡ after)) (AreRequests after ys others) =
    subst (λ (t : List ℕ). MatchBool a.close ((ys ≡ []) × (others ≡ t)) (AreRequests t ys others)) (sym left)
    (subst (λ (q : Request). MatchBool q.close ((ys ≡ []) × (others ≡ behind)) (AreRequests behind ys others)) (sym same) further) in
    let (tails, ends) = goes_on a.close after xs ys rest others (one_reading after xs ys rest others) more aligned in (cc (same, tails), ends)
