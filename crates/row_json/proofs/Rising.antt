-- The members of an object that was read rise by their names, and so do those of each object in it.
use Rattle.std.proofs.Common.{◌≡◌, ℕ, List, Option, Some, None, option_map, option_and_then, Less, Equal, Greater}
use Rattle.std.proofs.Common.{IfSome, refl, ap, ◌∙◌}
use Rattle.std.proofs.lemmas.Cmp.{nat_list_cmp_total}
use Rattle.std.specs.Cmp.Lexicographic.{slice_cmp}
use Rattle.std.specs.Ordering.{match_ordering, nat_cmp, ordering_reverse}
use Rattle.json.specs.Json as json
use Rattle.json.specs.Lex.{tokens}
use Rattle.serde_json.specs.Data.{Data, null, boolean, number, string, array, object, Items, no_items, item, Members}
use Rattle.serde_json.specs.Data.{no_members, member, put}
use Rattle.serde_json.specs.Find.{as_object, get, get_member}
use Rattle.serde_json.specs.Read.{number_of, of_json, of_items, of_members, max_depth, read}

-- the name is below those of the members
abbrev pub IsBelow : List ℕ → Members → Type 0
IsBelow k no_members = Unit {0}
IsBelow k (member l d ms) = (slice_cmp nat_cmp k l ≡ Less) × IsBelow k ms

abbrev mutual
  pub InOrder : Data → Type 0
  InOrder null = Unit {0}
  InOrder (boolean b) = Unit {0}
  InOrder (number n) = Unit {0}
  InOrder (string s) = Unit {0}
  InOrder (array ds) = AllInOrder ds
  InOrder (object ms) = Rise ms

  pub AllInOrder : Items → Type 0
  AllInOrder no_items = Unit {0}
  AllInOrder (item d ds) = InOrder d × AllInOrder ds

  pub Rise : Members → Type 0
  Rise no_members = Unit {0}
  Rise (member k d ms) = IsBelow k ms × InOrder d × Rise ms

below_later : (k l : List ℕ) (ms : Members) → slice_cmp nat_cmp k l ≡ Less → IsBelow l ms → IsBelow k ms
below_later k l no_members less below = tt
below_later k l (member m d ms) less below = (nat_list_cmp_total.trans k l m less below.0, below_later k l ms less below.1)

below_put : (l k : List ℕ) (d : Data) (ms : Members) → slice_cmp nat_cmp l k ≡ Less → IsBelow l ms → IsBelow l (put k d ms)
below_put l k d no_members less below = (less, tt)
below_put l k d (member m e ms) less below =
    elim (slice_cmp nat_cmp k m) as (λ o. IsBelow l (match_ordering o (member k d (member m e ms)) (member m d ms) (member m e (put k d ms)))) [
      | Less ↦ (less, below)
      | Equal ↦ below
      | Greater ↦ (below.0, below_put l k d ms less below.1)
    ]

Rise-put : (k : List ℕ) (d : Data) (ms : Members) → InOrder d → Rise ms → Rise (put k d ms)
Rise-put k d no_members here rise = (tt, here, tt)
Rise-put k d (member m e ms) here rise =
    elim (slice_cmp nat_cmp k m) as (λ o. slice_cmp nat_cmp k m ≡ o → Rise (match_ordering o (member k d (member m e ms)) (member m d ms) (member m e (put k d ms)))) [
      | Less ↦ λ less. ((less, below_later k m ms less rise.0), here, rise)
      | Equal ↦ λ _. (rise.0, here, rise.2)
      | Greater ↦ λ more. (below_put m k d ms (nat_list_cmp_total.antisymm m k ∙ ap ordering_reverse more) rise.0, rise.1, Rise-put k d ms here rise.2)
    ] refl

mapped : {A B : Type 0} (P : A → Type 0) (Q : B → Type 0) (f : A → B) → ((a : A) → P a → Q (f a)) → (o : Option A) → IfSome o P → IfSome (option_map f o) Q
mapped P Q f each None is = tt
mapped P Q f each (Some a) is = each a is

chained : {A B : Type 0} (P : A → Type 0) (Q : B → Type 0) (f : A → Option B) → ((a : A) → P a → IfSome (f a) Q) → (o : Option A) → IfSome o P → IfSome (option_and_then f o) Q
chained P Q f each None is = tt
chained P Q f each (Some a) is = each a is

always : {A : Type 0} (o : Option A) → IfSome o (λ _. Unit {0})
always None = tt
always (Some a) = tt

mutual
  json_in_order : (j : json.Json) → IfSome (of_json j) InOrder
  json_in_order json.null = tt
  json_in_order (json.boolean b) = tt
  json_in_order (json.number s) = mapped (λ _. Unit {0}) InOrder number (λ n is. tt) (number_of s) (always (number_of s))
  json_in_order (json.string s) = tt
  json_in_order (json.array js) = mapped AllInOrder InOrder array (λ ds all. all) (of_items js) (items_in_order js)
  json_in_order (json.object ms) = mapped Rise InOrder object (λ ms rise. rise) (of_members ms no_members) (members_rise ms no_members tt)

  items_in_order : (js : json.Items) → IfSome (of_items js) AllInOrder
  items_in_order json.no_items = tt
  items_in_order (json.item j js) =
      chained InOrder AllInOrder (λ d. option_map (item d) (of_items js)) (λ d here. mapped AllInOrder AllInOrder (item d) (λ ds all. (here, all)) (of_items js) (items_in_order js)) (of_json j) (json_in_order j)

  members_rise : (ms : json.Members) (found : Members) → Rise found → IfSome (of_members ms found) Rise
  members_rise json.no_members found rise = rise
  members_rise (json.member k j ms) found rise =
      chained InOrder Rise (λ d. of_members ms (put k d found)) (λ d here. members_rise ms (put k d found) (Rise-put k d found here rise)) (of_json j) (json_in_order j)

-- what a text is read as
pub read_in_order : (text : List ℕ) → IfSome (read text) InOrder
read_in_order text = let found = option_and_then (λ p. json.if_last p.0 p.1) (json.value max_depth (tokens text)) in chained (λ _. Unit {0}) InOrder of_json (λ j is. json_in_order j) found (always found)

member_in_order : (k : List ℕ) (ms : Members) → Rise ms → IfSome (get_member k ms) InOrder
member_in_order k no_members rise = tt
member_in_order k (member l e ms) rise =
    elim (slice_cmp nat_cmp k l) as (λ o. IfSome (match_ordering o (get_member k ms) (Some e) (get_member k ms)) InOrder) [
      | Less ↦ member_in_order k ms rise.2
      | Equal ↦ rise.1
      | Greater ↦ member_in_order k ms rise.2
    ]

-- and what stands under a name in it
pub get_in_order : (k : List ℕ) (d : Data) → InOrder d → IfSome (get k d) InOrder
get_in_order k null is = tt
get_in_order k (boolean b) is = tt
get_in_order k (number n) is = tt
get_in_order k (string s) is = tt
get_in_order k (array ds) is = tt
get_in_order k (object ms) is = member_in_order k ms is

pub members_of_object : (d : Data) → InOrder d → IfSome (as_object d) Rise
members_of_object null is = tt
members_of_object (boolean b) is = tt
members_of_object (number n) is = tt
members_of_object (string s) is = tt
members_of_object (array ds) is = tt
members_of_object (object ms) is = is
