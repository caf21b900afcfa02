-- Members put one after another, their names apart: each adds its own length.
use Rattle.std.proofs.Common.{◌≡◌, ◌+◌, ◌||◌, ℕ, Bool, false, List, [], ◌∷◌, Ordering, Less, Equal, Greater, length}
use Rattle.std.proofs.Common.{map, nat_cmp, sum_by, refl, ap, sym, ◌∙◌, arith, is_eq}
use Rattle.std.proofs.lemmas.Bool.{or_from, or_parts}
use Rattle.std.proofs.lemmas.Cmp.{eq_by_cmp_equiv, nat_list_cmp_total}
use Rattle.std.proofs.lemmas.List.Sums.{sum_by-cons}
use Rattle.std.specs.Cmp.Lexicographic.{slice_cmp}
use Rattle.std.specs.List.{AllByRecursion, IsDistinct}
use Rattle.std.specs.Ordering.{eq_by_cmp, match_ordering}
use Rattle.serde_json.specs.Data.{Data, Members, member, no_members, put, string}
use Rattle.serde_json.specs.Written.{compact_text}
use Rattle.roster_types.specs.declared.metadata.Entry.{Entry}
use Rattle.roster_types.specs.Lengths.{entry_length, member_length}
use Rattle.roster_types.specs.Records.{key_of}
use Rattle.row_json.specs.Json.{with_entries}
use Rattle.row_json.proofs.TextLengths.{quoted-length, size}

-- two names are one, as `put` compares them
abbrev pub is_same : List ℕ → List ℕ → Bool
is_same = eq_by_cmp (slice_cmp nat_cmp)

abbrev pub has_name : List ℕ → Members → Bool
has_name q no_members = false
has_name q (member k d ms) = is_same k q || has_name q ms

-- no member has one of these names
abbrev pub Lack : List (List ℕ) → Members → Type 0
Lack qs ms = AllByRecursion (λ q. has_name q ms ≡ false) qs

pub lack-none : (qs : List (List ℕ)) → Lack qs no_members
lack-none [] = tt
lack-none (q ∷ qs) = (refl, lack-none qs)

pub size-put : (k : List ℕ) (d : Data) (ms : Members) → has_name k ms ≡ false → size (put k d ms) ≡ size ms + (member_length k (length (compact_text d)) + 1)
unfolding size
size-put k d no_members h = omega arith
size-put k d (member l e ms) h =
    let p = or_parts (is_same l k) (has_name k ms) h in
    by (slice_cmp nat_cmp k l) refl (sym ((eq_by_cmp_equiv nat_list_cmp_total).symm l k) ∙ p.0) (size-put k d ms p.1)
  where
    by : (o : Ordering) → slice_cmp nat_cmp k l ≡ o → is_same k l ≡ false → size (put k d ms) ≡ size ms + (member_length k (length (compact_text d)) + 1)
        → size (match_ordering o (member k d (member l e ms)) (member l d ms) (member l e (put k d ms))) ≡ size (member l e ms) + (member_length k (length (compact_text d)) + 1)
    by Less q differs rest = omega arith
    by Equal q differs rest = cc (ap is_eq q ∙ refl, differs)
    by Greater q differs rest = omega arith

has_name-put : (q k : List ℕ) (d : Data) (ms : Members) → is_same k q ≡ false → has_name q ms ≡ false → has_name q (put k d ms) ≡ false
has_name-put q k d no_members s h = or_from (is_same k q) false s refl
has_name-put q k d (member l e ms) s h =
    let p = or_parts (is_same l q) (has_name q ms) h in
    by (slice_cmp nat_cmp k l) (or_from (is_same l q) (has_name q (put k d ms)) p.0 (has_name-put q k d ms s p.1))
  where
    by : (o : Ordering) → has_name q (member l e (put k d ms)) ≡ false → has_name q (match_ordering o (member k d (member l e ms)) (member l d ms) (member l e (put k d ms))) ≡ false
    by Less rest = or_from (is_same k q) (has_name q (member l e ms)) s h
    by Equal rest = h
    by Greater rest = rest

lack-put : (qs : List (List ℕ)) (k : List ℕ) (d : Data) (ms : Members) → AllByRecursion (λ q. is_same k q ≡ false) qs → Lack qs ms → Lack qs (put k d ms)
lack-put [] k d ms s h = tt
lack-put (q ∷ qs) k d ms s h = (has_name-put q k d ms s.0 h.0, lack-put qs k d ms s.1 h.1)

-- names that no member has yet, each once
pub record AreNew (qs : List (List ℕ)) (ms : Members) : Type 0 where
  pub apart : IsDistinct is_same qs
  pub lacking : Lack qs ms

pub new-put : (k : List ℕ) (qs : List (List ℕ)) (d : Data) (ms : Members) → AreNew (k ∷ qs) ms → AreNew qs (put k d ms)
unfolding IsDistinct
new-put k qs d ms h = record { apart = h.apart.1; lacking = lack-put qs k d ms h.apart.0 h.lacking.1 }

pub new-skip : (k : List ℕ) (qs : List (List ℕ)) (ms : Members) → AreNew (k ∷ qs) ms → AreNew qs ms
unfolding IsDistinct
new-skip k qs ms h = record { apart = h.apart.1; lacking = h.lacking.1 }

pub size-with_entries : (es : List Entry) (ms : Members) → AreNew (map key_of es) ms → size (with_entries es ms) ≡ size ms + sum_by (λ n. n + 1) (map entry_length es)
unfolding with_entries
size-with_entries [] ms h = omega arith
size-with_entries (e ∷ es) ms h =
    let rest = size-with_entries es (put e.key (string e.text) ms) (new-put e.key (map key_of es) (string e.text) ms h) in
    let here = size-put e.key (string e.text) ms h.lacking.0 in
    omega (arith, rest, here, quoted-length e.text, sum_by-cons (λ n. n + 1) (entry_length e) (map entry_length es))
