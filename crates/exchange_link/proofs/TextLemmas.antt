-- Texts of replies.
use Rattle.std.proofs.Common.{◌≡◌, ◌≢◌, ◌<◌, ◌≤◌, ℕ, List, [], ◌++◌, length, Option, Some, refl, sym, ◌∙◌, ap, subst}
use Rattle.std.proofs.Common.{arith, length-append}
use Rattle.std.specs.Prelude.{true, false, None, IfSome, if◌then◌else◌, nat_lt}
use Rattle.std.proofs.lemmas.Bool.Decides.{nat_tests}
use Rattle.roster_texts.specs.Digits.{◌>>=◌}
use Rattle.http_wire.specs.Answers.{IsNoReply, IsReplyText, Refuses, answered, count_at}
use Rattle.http_wire.specs.Texts.{count_of, digits_of, has_leading_zero, last_number}
use Rattle.http_wire.specs.Replies.{reply_text}
use Rattle.http_wire.specs.Seen.{CanRead, seen_of}
use Rattle.http_wire.specs.declared.reply_reading.WireReply.{WireReply}
use Rattle.http_wire.specs.declared.fault.WireFault.{WireFault}
use Rattle.http_wire.specs.declared.fault.WireFault.TheVariants as fault
use Rattle.http_wire.proofs.AnswerLemmas.{one_answer}
use Rattle.http_wire.proofs.WrittenLemmas.{written_is_read}
use Rattle.httparse.specs.Grammar.{ResponseHead, print_response}
use Rattle.status_info.specs.declared.reply.Reply.{Reply}

-- a fault but want of memory says that the bytes are no reply
pub refused : (e : WireFault) (bytes : List ℕ) → e ≢ fault.NoMemory → Refuses e bytes → IsNoReply bytes
refused fault.NoMemory bytes n x = absurd (n refl)
refused other bytes n x = x.0

-- what was written of a reply reads as it is seen
pub text_read : (text : List ℕ) (r : Reply) → text ≡ reply_text r → CanRead r → IsReplyText text (seen_of r)
text_read text r e can = subst (λ t. IsReplyText t (seen_of r)) (sym e) (written_is_read r can)

-- and as nothing else
pub text_seen : (text : List ℕ) (r : Reply) (w : WireReply) → text ≡ reply_text r → CanRead r → IsReplyText text w → seen_of r ≡ w
text_seen text r w e can is = one_answer text (seen_of r) w (text_read text r e can) is

behind : (xs ys : List ℕ) → 0 < length ys → 0 < length (xs ++ ys)
behind xs ys some = omega (arith, length-append xs ys, some)

-- a head has bytes
head_long : (h : ResponseHead) → 0 < length (print_response h)
unfolding print_response
head_long h = grind (arith, length-append)

-- no bytes are no reply
pub none_empty : (text : List ℕ) → text ≡ [] → IsNoReply text
none_empty text e reply (h, a) =
    let whole : length (print_response h ++ reply.body) ≡ 0 = ap length (sym a.head.reads.1 ∙ e) in
    omega (arith, whole, length-append (print_response h) reply.body, head_long h)

-- ---- numbers that replies carry

count_low : (most : ℕ) (bytes : List ℕ) → IfSome (count_of most bytes) (λ n. n ≤ most)
unfolding count_of
count_low most bytes = elim (has_leading_zero bytes) as (λ b. IfSome (if b then None else (digits_of bytes >>= λ n. if nat_lt most n then None else Some n)) (λ n. n ≤ most)) [
  | true ↦ tt
  | false ↦ elim (digits_of bytes) as (λ o. IfSome (o >>= λ n. if nat_lt most n then None else Some n) (λ n. n ≤ most)) [
    | None ↦ tt
    | Some n ↦ low n
  ]
]
  where
    low : (n : ℕ) → IfSome (if nat_lt most n then None else Some n) (λ n. n ≤ most)
    low n = elim (nat_lt most n) as (λ b. nat_lt most n ≡ b → IfSome (if b then None else Some n) (λ n. n ≤ most)) [ true ↦ λ e. tt | false ↦ λ e. (let le : n ≤ most = grind (arith, nat_tests, e) in le) ] refl

count_at_low : (value : Option (List ℕ)) → IfSome (count_at value) (λ n. n ≤ last_number)
count_at_low None = tt
count_at_low (Some bytes) = count_low last_number bytes

-- a version that a reply carries is in its range
pub version_low : (text : List ℕ) (w : WireReply) → IsReplyText text w → IfSome w.version (λ v. v ≤ last_number)
unfolding answered
version_low text w (h, a) = subst (λ (r : WireReply). IfSome r.version (λ v. v ≤ last_number)) (sym a.says) (count_at_low _)
