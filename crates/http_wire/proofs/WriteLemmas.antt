-- Writes, one behind the other.
use Rattle.std.proofs.Common.{◌≡◌, ◌<◌, ℕ, ◌+◌, List, [], ◌∷◌, ◌++◌, length, take, drop, get_or, Option, sym, ap, ◌∙◌}
use Rattle.std.proofs.Common.{subst, append_assoc, refl, Result}
use Rattle.std.specs.Io.KnownBytes.{Appends}
use Rattle.std.specs.List.{flat_map}
use Rattle.std.proofs.lemmas.List.{append-nil, take-append-drop, take_more}
use Rattle.std.proofs.lemmas.List.Concat.{flat_map-append}
use Rattle.outside_ports.specs.Written.{AppendsPart, Writes}
use Rattle.status_info.specs.declared.reply.Reply.{Reply}
use Rattle.http_wire.specs.Replies.{body_text, end_text, front_text, head_text, links_line, reply_text, versions_text}
use Rattle.http_wire.specs.Replies.{warning_line}
use Rattle.outside_ports.proofs.Appending.{part_behind, part_front}

-- the same of bytes that are known
pub grown : (xs a b : List ℕ) {ys zs : List ℕ} → ys ≡ xs ++ a → zs ≡ ys ++ b → zs ≡ xs ++ (a ++ b)
grown xs a b x y = y ∙ ap (λ (bs : List ℕ). bs ++ b) x ∙ append_assoc xs a b

-- one more item at the end
pub one_more : {X : Type 0} (f : X → List ℕ) (xs : List X) (i : ℕ) (d : X) → i < length xs → flat_map f (take (i + 1) xs) ≡ flat_map f (take i xs) ++ f (get_or xs i d)
one_more f xs i d less = ap (flat_map f) (take_more xs i d less) ∙ flat_map-append f (take i xs) (get_or xs i d ∷ []) ∙ ap (λ (bs : List ℕ). flat_map f (take i xs) ++ bs) (append-nil (f (get_or xs i d)))

-- the items in front, one more, and what follows it
pub split_at_item : {X : Type 0} (f : X → List ℕ) (xs : List X) (i : ℕ) (d : X) → i < length xs
    → flat_map f xs ≡ flat_map f (take i xs) ++ (f (get_or xs i d) ++ flat_map f (drop (i + 1) xs))
split_at_item f xs i d less =
    sym (ap (flat_map f) (take-append-drop (i + 1) xs)) ∙ flat_map-append f (take (i + 1) xs) (drop (i + 1) xs)
    ∙ ap (λ (bs : List ℕ). bs ++ flat_map f (drop (i + 1) xs)) (one_more f xs i d less) ∙ append_assoc (flat_map f (take i xs)) (f (get_or xs i d)) (flat_map f (drop (i + 1) xs))

-- the write of one item failed
pub part_at_item : {X : Type 0} (f : X → List ℕ) (xs : List X) (i : ℕ) (d : X) (old mid new : Option (List ℕ)) → i < length xs
    → Appends old mid (flat_map f (take i xs)) → AppendsPart mid new (f (get_or xs i d)) → AppendsPart old new (flat_map f xs)
part_at_item f xs i d old mid new less first second =
    subst (λ (bs : List ℕ). AppendsPart old new bs) (sym (split_at_item f xs i d less))
    (part_behind old mid new (flat_map f (take i xs)) (f (get_or xs i d) ++ flat_map f (drop (i + 1) xs)) first
    (part_front mid new (f (get_or xs i d)) (flat_map f (drop (i + 1) xs)) second))

split_shape : (F L W V E B : List ℕ) → F ++ (L ++ (W ++ (V ++ E))) ++ B ≡ F ++ (L ++ (W ++ (V ++ (E ++ B))))
split_shape F L W V E B = simp (append_assoc) refl

-- the head and the body are the whole
pub head_and_body : (reply : Reply) → head_text reply ++ body_text reply ≡ reply_text reply
head_and_body reply = split_shape (front_text reply) (links_line reply.links) (warning_line reply.warnings) (versions_text reply) (end_text reply) (body_text reply)

pub whole_part : (old new : Option (List ℕ)) (reply : Reply) → AppendsPart old new (head_text reply ++ body_text reply) → AppendsPart old new (reply_text reply)
whole_part old new reply = subst (λ (bs : List ℕ). AppendsPart old new bs) (head_and_body reply)

pub whole_written : {T E : Type 0} (old new : Option (List ℕ)) (reply : Reply) (r : Result T E) → Writes old new (head_text reply ++ body_text reply) r → Writes old new (reply_text reply) r
whole_written old new reply r = subst (λ (bs : List ℕ). Writes old new bs r) (head_and_body reply)
