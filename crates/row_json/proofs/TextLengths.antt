-- How long the texts of strings, arrays and objects are.
use Rattle.std.proofs.Common.{◌≡◌, ◌+◌, ◌-◌, ◌++◌, ℕ, true, false, List, [], ◌∷◌, length, map, sum_by, refl, ◌∙◌, arith}
use Rattle.std.proofs.Common.{length-append}
use Rattle.std.proofs.lemmas.Bool.Decides.{nat_tests}
use Rattle.std.proofs.lemmas.List.Concat.{length-flat_map}
use Rattle.std.proofs.lemmas.List.Sums.{sum_by-cons}
use Rattle.json.specs.Print.{escape, escape_byte, quoted}
use Rattle.serde_json.specs.Data.{Data, Items, Members, array, item, member, no_items, no_members, object}
use Rattle.serde_json.specs.View.{items_of}
use Rattle.serde_json.specs.Written.{compact_text, items_text, members_text}
use Rattle.roster_types.specs.Lengths.{enclosed_length, escaped_length, member_length, text_length}

escape_byte-length : (b : ℕ) → length (escape_byte b) ≡ escaped_length b
unfolding escape_byte
escape_byte-length b = grind (arith, nat_tests)

escape-length : (s : List ℕ) → length (escape s) ≡ sum_by escaped_length s
escape-length s = length-flat_map escape_byte s ∙ simp escape_byte-length

pub quoted-length : (s : List ℕ) → length (quoted s) ≡ text_length s
unfolding text_length
quoted-length s = let n = escape-length s in omega (arith, n, length-append (escape s) (34 ∷ []))

-- the lengths of values, each with a byte for a comma
items_size : Items → ℕ
items_size no_items = 0
items_size (item d ds) = length (compact_text d) + 1 + items_size ds

later_items : (ds : Items) → length (items_text true ds) ≡ items_size ds + 1
unfolding items_size
later_items no_items = refl
later_items (item d ds) = let n = later_items ds in omega (arith, n, length-append (compact_text d) (items_text true ds))

first_items : (ds : Items) → length (items_text false ds) ≡ 1 + (items_size ds - 1)
unfolding items_size
first_items no_items = refl
first_items (item d ds) = let n = later_items ds in omega (arith, n, length-append (compact_text d) (items_text true ds))

items_size-map : {A : Type 0} (f : A → Data) (g : A → ℕ) → ((x : A) → length (compact_text (f x)) ≡ g x) → (xs : List A) → items_size (items_of (map f xs)) ≡ sum_by (λ n. n + 1) (map g xs)
unfolding items_size
items_size-map f g h [] = refl
items_size-map f g h (x ∷ xs) = let n = items_size-map f g h xs in omega (arith, n, h x, sum_by-cons (λ n. n + 1) (g x) (map g xs))

-- an array of values whose lengths are known
pub array-length : {A : Type 0} (f : A → Data) (g : A → ℕ) → ((x : A) → length (compact_text (f x)) ≡ g x) → (xs : List A) → length (compact_text (array (items_of (map f xs)))) ≡ enclosed_length (map g xs)
array-length f g h xs = let n = items_size-map f g h xs in omega (arith, n, first_items (items_of (map f xs)))

-- the same of members
unfoldable pub size : Members → ℕ
size no_members = 0
size (member k d ms) = member_length k (length (compact_text d)) + 1 + size ms

pub size-none : size no_members ≡ 0
unfolding size
size-none = refl

later_members : (ms : Members) → length (members_text true ms) ≡ size ms + 1
unfolding size
later_members no_members = refl
later_members (member k d ms) = let n = later_members ms in omega (arith, n, quoted-length k, length-append (quoted k) (58 ∷ (compact_text d ++ members_text true ms)), length-append (compact_text d) (members_text true ms))

first_members : (ms : Members) → length (members_text false ms) ≡ 1 + (size ms - 1)
unfolding size
first_members no_members = refl
first_members (member k d ms) = let n = later_members ms in omega (arith, n, quoted-length k, length-append (quoted k) (58 ∷ (compact_text d ++ members_text true ms)), length-append (compact_text d) (members_text true ms))

pub object-length : (ms : Members) → length (compact_text (object ms)) ≡ 2 + (size ms - 1)
object-length ms = omega (arith, first_members ms)
