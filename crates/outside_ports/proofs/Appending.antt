-- Writes, one behind the other.
use Rattle.std.proofs.Common.{◌≡◌, ◌≤◌, ◌<◌, ℕ, ◌+◌, List, [], ◌++◌, length, take, Option, Some, None, Result, Ok, Err}
use Rattle.std.proofs.Common.{sym, ap, ◌∙◌, subst, arith, append_assoc, min, ⊎_elim}
use Rattle.std.proofs.lemmas.Bool.{cases_lt}
use Rattle.std.proofs.lemmas.Grind.{common_steps}
use Rattle.std.proofs.lemmas.List.{append-nil, take-append-le}
use Rattle.std.proofs.Math.Seq.{take-append-add}
use Rattle.std.specs.Io.KnownBytes.{Appends}
use Rattle.outside_ports.specs.Written.{AppendsPart, Writes}

pub appends_both : (old mid new : Option (List ℕ)) (a b : List ℕ) → Appends old mid a → Appends mid new b → Appends old new (a ++ b)
appends_both None mid new a b x y = tt
appends_both (Some xs) None new a b x y = absurd x
appends_both (Some xs) (Some ys) None a b x y = absurd y
appends_both (Some xs) (Some ys) (Some zs) a b x y = y ∙ ap (λ (bs : List ℕ). bs ++ b) x ∙ append_assoc xs a b

-- all of a, and then a part of b
pub part_behind : (old mid new : Option (List ℕ)) (a b : List ℕ) → Appends old mid a → AppendsPart mid new b → AppendsPart old new (a ++ b)
part_behind old mid new a b x (n, y) =
    (length a + n, subst (λ (bs : List ℕ). Appends old new bs) (sym (take-append-add a b n)) (appends_both old mid new a (take n b) x y))

take_min : (n : ℕ) (a : List ℕ) → take n a ≡ take (min n (length a)) a
take_min n a = ⊎_elim
    (λ (less : n < length a). let same : n ≡ min n (length a) = omega arith in ap (λ (k : ℕ). take k a) same)
    (λ (more : length a ≤ n). grind (arith, common_steps)) (cases_lt n (length a))

take_front : (n : ℕ) (a b : List ℕ) → take n a ≡ take (min n (length a)) (a ++ b)
take_front n a b = take_min n a ∙ sym (take-append-le (min n (length a)) a b (omega arith))

-- a part of a is a part of what begins with it
pub part_front : (old new : Option (List ℕ)) (a b : List ℕ) → AppendsPart old new a → AppendsPart old new (a ++ b)
part_front old new a b (n, x) = (min n (length a), subst (λ (bs : List ℕ). Appends old new bs) (take_front n a b) x)

pub appends_none : (old : Option (List ℕ)) → Appends old old []
appends_none None = tt
appends_none (Some xs) = sym (append-nil xs)

-- the same of what a call answers
pub writes_then : {T E : Type 0} (old mid new : Option (List ℕ)) (a b : List ℕ) (r : Result T E) → Appends old mid a → Writes mid new b r → Writes old new (a ++ b) r
writes_then old mid new a b (Ok x) first second = appends_both old mid new a b first second
writes_then old mid new a b (Err e) first second = part_behind old mid new a b first second
