-- What is written for a value is read as that value.
use Rattle.std.proofs.Common.{◌≡◌, ◌≤◌, ◌<◌, ◌^◌, ◌++◌, ℕ, suc, ℤ, pos, negsuc, List, [], ◌∷◌, Option, Some, Ordering}
use Rattle.std.proofs.Common.{Less, Equal, Greater, nat_cmp, true, map, option_map, option_and_then, refl, sym, ap, ◌∙◌}
use Rattle.std.proofs.Common.{subst, arith, append-nil}
use Rattle.std.proofs.lemmas.Cmp.{nat_list_cmp_total}
use Rattle.std.specs.Cmp.Lexicographic.{slice_cmp}
use Rattle.std.specs.Ordering.{match_ordering, ordering_reverse}
use Rattle.std.specs.Prelude.{⊤}
use Rattle.json.specs.Json as json
use Rattle.json.specs.Lex.{tokens}
use Rattle.json.specs.Token.{Token}
use Rattle.json.specs.Tree as tree
use Rattle.json.proofs.Printed.Decimals.{IsNumber-decimal, IsNumber-signed_decimal}
use Rattle.json.proofs.Printed.Tokens.{tokens-print}
use Rattle.json.proofs.Printed.Trees.{ArePrintable-json_tokens, value-json_tokens}
use Rattle.serde_json.specs.Data.{Data, Items, Members, array, item, member, no_items, no_members, number, object, put}
use Rattle.serde_json.specs.Data.{string}
use Rattle.serde_json.specs.Find.{of_integer}
use Rattle.serde_json.specs.Read.{max_depth, of_items, of_json, of_members, read}
use Rattle.serde_json.specs.View.{items_of}
use Rattle.serde_json.specs.Written.{compact_text, items_outline, members_outline, outline}
use Rattle.serde_json.proofs.Numbers.{number_of-decimal, number_of-negative}
use Rattle.serde_json.proofs.Texts.{print-outline}
use Rattle.roster_texts.proofs.NumberTexts.{small_neg, small_pos}
use Rattle.roster_texts.specs.Numbers.{is_number}

-- a value that is read from its outline, nested no deeper than n
pub record Kept (n : ℕ) (d : Data) : Type 0 where
  pub back : of_json (outline d) ≡ Some d
  pub numbers : tree.HasNumbers (outline d)
  pub shallow : tree.depth (outline d) ≤ n

pub read-kept : (d : Data) → Kept 127 d → read (compact_text d) ≡ Some d
read-kept d k =
    let lexed : tokens (compact_text d) ≡ tree.json_tokens (outline d) ++ [] =
    ap tokens (sym (print-outline d)) ∙ tokens-print (tree.json_tokens (outline d)) (ArePrintable-json_tokens (outline d) k.numbers) ∙ sym (append-nil (tree.json_tokens (outline d))) in
    ap (λ (o : Option (json.Json × List Token)). option_and_then of_json (option_and_then (λ p. json.if_last p.0 p.1) o)) (ap (json.value max_depth) lexed ∙ value-json_tokens (outline d) max_depth [] k.shallow) ∙ k.back

pub string-kept : (n : ℕ) (s : List ℕ) → Kept n (string s)
string-kept n s = record { back = refl; numbers = tt; shallow = omega arith }

pub number-kept : (n : ℕ) (z : ℤ) → is_number z ≡ true → Kept n (number (of_integer z))
number-kept n (pos m) h =
    let small : m < 2 ^ 64 = omega (arith, small_pos m h) in
    record { back = ap (option_map number) (number_of-decimal m small); numbers = IsNumber-decimal m small; shallow = omega arith }
number-kept n (negsuc m) h =
    let small : m < 2 ^ 63 = omega (arith, small_neg m h) in
    record { back = ap (option_map number) (number_of-negative m small); numbers = IsNumber-signed_decimal (negsuc m) (omega (arith, small_neg m h)); shallow = omega arith }

-- ---- arrays

abbrev pub ItemsKept : ℕ → Items → Type 0
ItemsKept n no_items = ⊤
ItemsKept n (item d ds) = Kept n d × ItemsKept n ds

items-back : (n : ℕ) (ds : Items) → ItemsKept n ds → of_items (items_outline ds) ≡ Some ds
items-back n no_items k = refl
items-back n (item d ds) k = ap (option_and_then (λ e. option_map (item e) (of_items (items_outline ds)))) k.0.back ∙ ap (option_map (item d)) (items-back n ds k.1)

items-numbers : (n : ℕ) (ds : Items) → ItemsKept n ds → tree.ItemsHaveNumbers (items_outline ds)
items-numbers n no_items k = tt
items-numbers n (item d ds) k = (k.0.numbers, items-numbers n ds k.1)

items-shallow : (n : ℕ) (ds : Items) → ItemsKept n ds → tree.items_depth (items_outline ds) ≤ n
items-shallow n no_items k = omega arith
items-shallow n (item d ds) k = omega (arith, k.0.shallow, items-shallow n ds k.1)

items-kept : {A : Type 0} (n : ℕ) (f : A → Data) → ((x : A) → Kept n (f x)) → (xs : List A) → ItemsKept n (items_of (map f xs))
items-kept n f h [] = tt
items-kept n f h (x ∷ xs) = (h x, items-kept n f h xs)

pub array-of : (n : ℕ) (ds : Items) → ItemsKept n ds → Kept (suc n) (array ds)
array-of n ds k = record { back = ap (option_map array) (items-back n ds k); numbers = items-numbers n ds k; shallow = omega (arith, items-shallow n ds k) }

pub array-kept : {A : Type 0} (n : ℕ) (f : A → Data) → ((x : A) → Kept n (f x)) → (xs : List A) → Kept (suc n) (array (items_of (map f xs)))
array-kept n f h xs = array-of n (items_of (map f xs)) (items-kept n f h xs)

-- ---- objects

-- a name below those of the members
abbrev pub Below : List ℕ → Members → Type 0
Below k no_members = ⊤
Below k (member l d ms) = (slice_cmp nat_cmp k l ≡ Less) × Below k ms

abbrev pub Rising : Members → Type 0
Rising no_members = ⊤
Rising (member k d ms) = Below k ms × Rising ms

abbrev AllKept : ℕ → Members → Type 0
AllKept n no_members = ⊤
AllKept n (member k d ms) = Kept n d × AllKept n ms

-- members in order, each of them kept
pub record MembersKept (n : ℕ) (ms : Members) : Type 0 where
  pub all : AllKept n ms
  pub rising : Rising ms

pub none-kept : (n : ℕ) → MembersKept n no_members
none-kept n = record { all = tt; rising = tt }

all-put : (n : ℕ) (k : List ℕ) (d : Data) (ms : Members) → Kept n d → AllKept n ms → AllKept n (put k d ms)
all-put n k d no_members e h = (e, tt)
all-put n k d (member l f ms) e h = by (slice_cmp nat_cmp k l) (all-put n k d ms e h.1)
  where
    by : (o : Ordering) → AllKept n (put k d ms) → AllKept n (match_ordering o (member k d (member l f ms)) (member l d ms) (member l f (put k d ms)))
    by Less rest = (e, h)
    by Equal rest = (e, h.1)
    by Greater rest = (h.0, rest)

below-put : (q k : List ℕ) (d : Data) (ms : Members) → slice_cmp nat_cmp q k ≡ Less → Below q ms → Below q (put k d ms)
below-put q k d no_members c h = (c, tt)
below-put q k d (member l f ms) c h = by (slice_cmp nat_cmp k l) (below-put q k d ms c h.1)
  where
    by : (o : Ordering) → Below q (put k d ms) → Below q (match_ordering o (member k d (member l f ms)) (member l d ms) (member l f (put k d ms)))
    by Less rest = (c, h)
    by Equal rest = h
    by Greater rest = (h.0, rest)

below-both : (k l : List ℕ) (ms : Members) → slice_cmp nat_cmp k l ≡ Less → Below l ms → Below k ms
below-both k l no_members c h = tt
below-both k l (member m d ms) c h = (nat_list_cmp_total.trans k l m c h.0, below-both k l ms c h.1)

above : (k l : List ℕ) → slice_cmp nat_cmp k l ≡ Greater → slice_cmp nat_cmp l k ≡ Less
above k l e = nat_list_cmp_total.antisymm l k ∙ ap ordering_reverse e

rising-put : (k : List ℕ) (d : Data) (ms : Members) → Rising ms → Rising (put k d ms)
rising-put k d no_members h = (tt, tt)
rising-put k d (member l f ms) h = by (slice_cmp nat_cmp k l) refl (rising-put k d ms h.1)
  where
    by : (o : Ordering) → slice_cmp nat_cmp k l ≡ o → Rising (put k d ms) → Rising (match_ordering o (member k d (member l f ms)) (member l d ms) (member l f (put k d ms)))
    by Less e rest = ((e, below-both k l ms e h.0), h)
    by Equal e rest = h
    by Greater e rest = (below-put l k d ms (above k l e) h.0, rest)

pub put-kept : (n : ℕ) (k : List ℕ) (d : Data) (ms : Members) → Kept n d → MembersKept n ms → MembersKept n (put k d ms)
put-kept n k d ms e h = record { all = all-put n k d ms e h.all; rising = rising-put k d ms h.rising }

-- members behind others
abbrev pub behind : Members → Members → Members
behind no_members ms = ms
behind (member k d front) ms = member k d (behind front ms)

pub behind-none : (front : Members) → behind front no_members ≡ front
behind-none no_members = refl
behind-none (member k d front) = ap (member k d) (behind-none front)

pub behind-one : (front : Members) (k : List ℕ) (d : Data) (ms : Members) → behind (behind front (member k d no_members)) ms ≡ behind front (member k d ms)
behind-one no_members k d ms = refl
behind-one (member l e front) k d ms = ap (member l e) (behind-one front k d ms)

below-middle : (l k : List ℕ) (front : Members) (d : Data) (ms : Members) → Below l (behind front (member k d ms)) → slice_cmp nat_cmp l k ≡ Less
below-middle l k no_members d ms h = h.0
below-middle l k (member m e front) d ms h = below-middle l k front d ms h.1

-- a name above those of the members goes last
pub put-last : (front : Members) (k : List ℕ) (d : Data) (ms : Members) → Rising (behind front (member k d ms)) → put k d front ≡ behind front (member k d no_members)
put-last no_members k d ms h = refl
put-last (member l e front) k d ms h =
    let over : slice_cmp nat_cmp k l ≡ Greater = nat_list_cmp_total.antisymm k l ∙ ap ordering_reverse (below-middle l k front d ms h.0) in
    rw over (ap (member l e) (put-last front k d ms h.1))

members-back : (n : ℕ) (ms front : Members) → AllKept n ms → Rising (behind front ms) → of_members (members_outline ms) front ≡ Some (behind front ms)
members-back n no_members front k h = ap Some (sym (behind-none front))
members-back n (member l d ms) front k h =
    ap (option_and_then (λ e. of_members (members_outline ms) (put l e front))) k.0.back
    ∙ ap (of_members (members_outline ms)) (put-last front l d ms h)
    ∙ members-back n ms (behind front (member l d no_members)) k.1 (subst Rising (sym (behind-one front l d ms)) h)
    ∙ ap Some (behind-one front l d ms)

members-numbers : (n : ℕ) (ms : Members) → AllKept n ms → tree.MembersHaveNumbers (members_outline ms)
members-numbers n no_members k = tt
members-numbers n (member l d ms) k = (k.0.numbers, members-numbers n ms k.1)

members-shallow : (n : ℕ) (ms : Members) → AllKept n ms → tree.members_depth (members_outline ms) ≤ n
members-shallow n no_members k = omega arith
members-shallow n (member l d ms) k = omega (arith, k.0.shallow, members-shallow n ms k.1)

pub object-kept : (n : ℕ) (ms : Members) → MembersKept n ms → Kept (suc n) (object ms)
object-kept n ms k = record {
  back = ap (option_map object) (members-back n ms no_members k.all k.rising);
  numbers = members-numbers n ms k.all;
  shallow = omega (arith, members-shallow n ms k.all);
}

pub deeper : (n m : ℕ) (d : Data) → n ≤ m → Kept n d → Kept m d
deeper n m d h k = record { back = k.back; numbers = k.numbers; shallow = omega (arith, h, k.shallow) }
