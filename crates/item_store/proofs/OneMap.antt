-- A connection that is open over a clean disk stands for one map.
use Rattle.std.proofs.Common.{◌≡◌, ◌⊎◌, ℕ, ℤ, List, [], ◌∷◌, Some, inl, inr, IsTrue, sym, ap, ◌∙◌}
use Rattle.std.specs.List.{AllZip}
use Rattle.std.specs.FinMap.{get, same_map}
use Rattle.std.proofs.lemmas.Cmp.{nat_list_cmp_total}
use Rattle.sqlite.specs.Schema.{Schema}
use Rattle.sqlite.specs.Tree.{Trees}
use Rattle.sqlite.specs.Order.{Row}
use Rattle.sqlite.specs.Effect.{Database}
use Rattle.sqlite.specs.State.{State, HasCleanDisk}
use Rattle.item_maps.specs.Items.{Items}
use Rattle.item_store.specs.Items.{Holds, row_of}
use Rattle.item_store.specs.Left.{IsLeft, MayFind, MayHold}
use Rattle.item_store.specs.Stands.{IsTold, StandsFor}
use Rattle.item_store.specs.Table.{item_schema, no_schema}
use Rattle.item_maps.proofs.ItemLemmas.{same_bytes}
use Rattle.item_store.proofs.Orders.{same_option}

-- what one map has, another of the same rows has
has_too : (rows : List Row) (m n : Items) → Holds rows m → Holds rows n → (area : ℕ) (label body : List ℕ) → get (m area) label ≡ Some body → get (n area) label ≡ Some body
has_too rows m n p q area label body h =
    let found = p.complete area label body h in
    let item = q.sound (row_of found.0 area label body) found.1 in
    same_row item.is item.stored
  where
    same_row : {i j : ℤ} {a b : ℕ} {x y s t : List ℕ} → row_of i a x s ≡ row_of j b y t → get (n b) y ≡ Some t → get (n a) x ≡ Some s
    same_row {a} {b} {x} {y} {s} {t} is stored =
        let areas : a ≡ b = cc in
        let labels : x ≡ y = cc in
        let bodies : s ≡ t = cc in
        rw (areas, labels, bodies) stored

one_of_rows : (rows : List Row) (m n : Items) → Holds rows m → Holds rows n → m ≡ n
one_of_rows rows m n p q = λ i area.
    same_map nat_list_cmp_total same_bytes (m area) (n area) (λ label. same_option _ _ (λ body h. has_too rows m n p q area label body h) (λ body h. has_too rows n m q p area label body h)) i

not_both : (db : Database) → db.schema ≡ no_schema → db.schema ≡ item_schema → ⊥
not_both db none some = let e : no_schema ≡ item_schema = sym none ∙ some in let tables = ap (λ (s : Schema). s.tables) e in cc

-- a database tells one map
pub told_once : (db : Database) (m n : Items) → IsTold db m → IsTold db n → m ≡ n
told_once db m n (inl a) (inl b) = a.1 ∙ sym b.1
told_once db m n (inl a) (inr b) = absurd (not_both db a.0 b.schema)
told_once db m n (inr a) (inl b) = absurd (not_both db b.0 a.schema)
told_once db m n (inr a) (inr b) = one_of_rows (db.trees 0) m n a.rows b.rows

pub stands_once : (s : State) (m n : Items) → HasCleanDisk s → IsTrue s.is_open → StandsFor s m → StandsFor s n → m ≡ n
stands_once s m n clean live p q = told_once s.committed m n (p clean live).told (q clean live).told

-- no list of objects is that of no table and of one
one_length : {A B : Type 0} (R : A → B → Type 0) (objects : List A) (t : B) → AllZip R objects [] → AllZip R objects (t ∷ []) → ⊥
one_length R [] t none some = some
one_length R (row ∷ rows) t none some = none

not_both_left : (db : Trees) (m n : Items) (a : IsLeft db m) (b : IsLeft db n) → a.schema ≡ no_schema → b.schema ≡ item_schema → ⊥
not_both_left db m n a b none some = one_length _ _ _ (rw none at a.sound.lists.listed.tables) (rw some at b.sound.lists.listed.tables)

-- trees that an open finds tell one map
pub left_once : (db : Trees) (m n : Items) → IsLeft db m → IsLeft db n → m ≡ n
left_once db m n a b = go a.told b.told
  where
    go : IsTold (record { schema = a.schema; trees = db }) m → IsTold (record { schema = b.schema; trees = db }) n → m ≡ n
    go (inl p) (inl q) = p.1 ∙ sym q.1
    go (inl p) (inr q) = absurd (not_both_left db m n a b p.0 q.schema)
    go (inr p) (inl q) = absurd (not_both_left db n m b a q.0 p.schema)
    go (inr p) (inr q) = one_of_rows (db 0) m n p.rows q.rows

-- a connection that a fault has shut isn't open
pub not_open : (s : State) (n : Items) → MayFind s n → IsTrue s.is_open → ⊥
not_open s n it live = let shut = it.shut in cc

-- what an open may find of a connection that answers, or that a fault has shut
module _ (s : State) (told : Type 0) (n : Items) where
  pub found_alone : (m : Items) → HasCleanDisk s × IsTrue s.is_open → StandsFor s m → (MayFind s n × told) ⊎ ((HasCleanDisk s × IsTrue s.is_open) × ((k : Items) → StandsFor s k → n ≡ k)) → n ≡ m
  found_alone m sure stands (inl shut) = absurd (not_open s n shut.0 sure.1)
  found_alone m sure stands (inr once) = once.1 m stands

  pub found_clean : (MayFind s n × told) ⊎ ((HasCleanDisk s × IsTrue s.is_open) × ((k : Items) → StandsFor s k → n ≡ k)) → HasCleanDisk s
  found_clean (inl shut) = shut.0.clean
  found_clean (inr once) = once.0.0

-- what an open may find behind a call is what a stop may leave
pub found_one : (s : State) (m n : Items) → MayHold s (m ∷ []) → MayFind s n → n ≡ m
found_one s m n holds it = elim (holds it.db it.may) [ inl is ↦ left_once it.db n m it.is is | inr none ↦ absurd none ]

pub found_either : (s : State) (m k n : Items) → MayHold s (m ∷ k ∷ []) → MayFind s n → (n ≡ m) ⊎ (n ≡ k)
found_either s m k n holds it = elim (holds it.db it.may) [
  | inl is ↦ inl (left_once it.db n m it.is is)
  | inr (inl is) ↦ inr (left_once it.db n k it.is is)
  | inr (inr none) ↦ absurd none
]
