-- What edits do to the areas of a copy.
use Rattle.std.proofs.Common.{◌≡◌, ◌<◌, ◌≤◌, ◌==◌, ℕ, zero, suc, List, [], ◌∷◌, Bool, true, false, cond, not, Some}
use Rattle.std.proofs.Common.{None, refl, ap, ◌∙◌, arith}
use Rattle.std.proofs.lemmas.Bool.{cond-false, cond-true, eq-eqb}
use Rattle.std.specs.FinMap.{from_entries, insert, retain_keys}
use Rattle.std.specs.Ordering.{eq_by_cmp}
use Rattle.std.proofs.lemmas.Bool.Decides.{Decides-eqb}
use Rattle.keeper_memory.specs.copy.Copies.{Stage}
use Rattle.keeper_memory.specs.copy.States.{state_of}
use Rattle.hub_format.proofs.Acts.{puts_act}
use Rattle.hub_format.proofs.EntryMaps.{alike_map, filled, retained}
use Rattle.hub_format.specs.Pieces.{labels_end}
use Rattle.hub_format.specs.Edits.{put_at, puts}
use Rattle.hub_format.specs.Format.{Entry, where_label}
use Rattle.item_maps.specs.Edits.{after}
use Rattle.item_maps.specs.Items.{Items, bytes_cmp, is_between}
use Rattle.roster_values.proofs.KindLaws.{place_below}
use Rattle.roster_values.specs.Kinds.{place_of_kind}
use Rattle.roster_values.specs.declared.kind.Kind.{Kind}
use Rattle.roster_values.specs.declared.kind.Kind.TheVariants.{Orgs}
use Rattle.std.specs.Prelude.{Option}
use Rattle.copy_format.specs.Areas.{format_area, outbox_area, stage_area, state_area, token_area}
use Rattle.copy_format.specs.Bodies.{stage_body}
use Rattle.copy_format.specs.Edits.{clear_side}
use Rattle.copy_format.specs.Format.{other_side, row_area, stage_entries, token_entries}

apart : (a b : ℕ) → (a ≡ b → ⊥) → (a == b) ≡ false
apart a b differ = elim (a == b) as (λ t. (a == b) ≡ t → t ≡ false) [
  | true ↦ λ is. absurd (differ ((Decides-eqb a b).0 is))
  | false ↦ λ is. refl
] refl

-- the areas of rows are others than those below 32
pub row_not_low : (side : ℕ) (kind : Kind) (a : ℕ) → a < 32 → (row_area side kind == a) ≡ false
row_not_low side kind a low = apart (row_area side kind) a (λ is. absurd (omega (arith, is)))

pub low_not_row : (side : ℕ) (kind : Kind) (a : ℕ) → a < 32 → (a == row_area side kind) ≡ false
low_not_row side kind a low = apart a (row_area side kind) (λ is. absurd (omega (arith, is)))

pub by_side : (P : ℕ → Type 0) → P 0 → P 1 → (side : ℕ) → side ≤ 1 → P side
by_side P first second zero le = first
by_side P first second (suc zero) le = second
by_side P first second (suc (suc side)) le = absurd (omega arith)

-- the rows of the two sides stand apart
pub sides_apart : (k l : Kind) (side : ℕ) → side ≤ 1 → (row_area side k == row_area (other_side side) l) ≡ false
sides_apart k l = by_side (λ side. (row_area side k == row_area (other_side side) l) ≡ false)
    (apart (row_area 0 k) (row_area 1 l) (λ is. let few = place_below k in absurd (omega (arith, is, few))))
    (apart (row_area 1 k) (row_area 0 l) (λ is. let few = place_below l in absurd (omega (arith, is, few))))

pub kinds_apart : (k l : Kind) (side : ℕ) → (place_of_kind k ≡ place_of_kind l → ⊥) → (row_area side k == row_area side l) ≡ false
kinds_apart k l side differ = apart (row_area side k) (row_area side l) (λ is. differ (omega (arith, is)))

-- ---- puts

pub put_elsewhere : (k : ℕ) (e : Entry) (m : Items) (a : ℕ) → (a == k) ≡ false → after (put_at k e ∷ []) m a ≡ m a
put_elsewhere k e m a differ = cond-false (a == k) (insert (m a) e.0 e.1) (m a) differ

pub puts_elsewhere : (k : ℕ) (es : List Entry) (m : Items) (a : ℕ) → (a == k) ≡ false → after (puts k es) m a ≡ m a
puts_elsewhere k es m a differ = (puts_act k es).on m a ∙ cond-false (a == k) (filled es (m a)) (m a) differ

pub puts_here : (k : ℕ) (es : List Entry) (m : Items) → after (puts k es) m k ≡ filled es (m k)
puts_here k es m = (puts_act k es).on m k ∙ cond-true (k == k) (filled es (m k)) (m k) (eq-eqb k k refl)

-- a body in the place of another
pub one_new : (label new old : List ℕ) → from_entries {R = bytes_cmp} ((label, new) ∷ (label, old) ∷ []) ≡ from_entries ((label, new) ∷ [])
one_new label new old = alike_map ((label, new) ∷ (label, old) ∷ []) ((label, new) ∷ []) (λ q. hidden (eq_by_cmp bytes_cmp q label))
  where
    hidden : (b : Bool) → cond b (Some new) (cond b (Some old) None) ≡ cond b (Some new) None
    hidden true = refl
    hidden false = refl

pub stage_put : (old : Option Stage) (s : Stage) → insert (from_entries {R = bytes_cmp} (stage_entries old)) [] (stage_body (state_of s)) ≡ from_entries (stage_entries (Some s))
stage_put None s = refl
stage_put (Some x) s = one_new [] (stage_body (state_of s)) (stage_body (state_of x))

pub token_put : (old : Option (List ℕ)) (token : List ℕ) → insert (from_entries {R = bytes_cmp} (token_entries old)) [] token ≡ from_entries (token_entries (Some token))
token_put None token = refl
token_put (Some x) token = one_new [] token x

-- ---- clears

pub stage_cleared : (old : Option Stage) → retain_keys (from_entries {R = bytes_cmp} (stage_entries old)) (λ label. not (is_between [] (0 ∷ []) label)) ≡ from_entries []
stage_cleared old = retained (λ label. not (is_between [] (0 ∷ []) label)) (stage_entries old) ∙ ap from_entries (none old)
  where
    none : (o : Option Stage) → where_label (λ label. not (is_between [] (0 ∷ []) label)) (stage_entries o) ≡ []
    none None = refl
    none (Some s) = refl

-- what the clears of a side's rows do
pub record ClearsOf (side : ℕ) : Type 0 where
  pub format : (m : Items) → after (clear_side side) m format_area ≡ m format_area
  pub state : (m : Items) → after (clear_side side) m state_area ≡ m state_area
  pub stage : (m : Items) → after (clear_side side) m stage_area ≡ m stage_area
  pub entries : (m : Items) → after (clear_side side) m outbox_area ≡ m outbox_area
  pub token : (m : Items) → after (clear_side side) m token_area ≡ m token_area
  pub gone : (m : Items) (kind : Kind) → after (clear_side side) m (row_area side kind) ≡ retain_keys (m (row_area side kind)) (λ label. not (is_between [] labels_end label))
  pub kept : (m : Items) (kind : Kind) → after (clear_side side) m (row_area (other_side side) kind) ≡ m (row_area (other_side side) kind)

gone_0 : (m : Items) (kind : Kind) → after (clear_side 0) m (row_area 0 kind) ≡ retain_keys (m (row_area 0 kind)) (λ label. not (is_between [] labels_end label))
gone_0 m Orgs = refl
gone_0 m _ = refl

kept_0 : (m : Items) (kind : Kind) → after (clear_side 0) m (row_area 1 kind) ≡ m (row_area 1 kind)
kept_0 m Orgs = refl
kept_0 m _ = refl

gone_1 : (m : Items) (kind : Kind) → after (clear_side 1) m (row_area 1 kind) ≡ retain_keys (m (row_area 1 kind)) (λ label. not (is_between [] labels_end label))
gone_1 m Orgs = refl
gone_1 m _ = refl

kept_1 : (m : Items) (kind : Kind) → after (clear_side 1) m (row_area 0 kind) ≡ m (row_area 0 kind)
kept_1 m Orgs = refl
kept_1 m _ = refl

pub clears : (side : ℕ) → side ≤ 1 → ClearsOf side
clears = by_side ClearsOf
    (record { format = λ m. refl; state = λ m. refl; stage = λ m. refl; entries = λ m. refl; token = λ m. refl; gone = gone_0; kept = kept_0 })
    (record { format = λ m. refl; state = λ m. refl; stage = λ m. refl; entries = λ m. refl; token = λ m. refl; gone = gone_1; kept = kept_1 })
