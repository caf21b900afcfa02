-- Rows as they lie in a set.
use Rattle.std.proofs.Common.{◌≡◌, List, [], ◌∷◌, map, refl, sym, ap, subst, ◌∙◌}
use Rattle.std.proofs.lemmas.List.Elements.{recursion_from_All}
use Rattle.std.specs.List.{All, AllByRecursion}
use Rattle.roster_base.specs.Order.{in_order}
use Rattle.roster_types.specs.Keys.{Key, look_up}
use Rattle.roster_types.specs.declared.set_row.SetRow.{SetRow}
use Rattle.roster_values.specs.Kinds.{place_of_kind}
use Rattle.roster_values.specs.declared.kind.Kind.{Kind}
use Rattle.version_core.proofs.LookUps.{KeepKeys, look_up-map}
use Rattle.version_changes.specs.sets.Applying.{set_key}
use Rattle.bulk_export.specs.Steps.{earlier_at, earlier_key, set_row}
use Rattle.bulk_export.specs.declared.earlier.EarlierRow.{EarlierRow}
use Rattle.bulk_export.proofs.Ordering.{Of, each_overlaid, in_order_is}

-- what holds of the rows of a set holds of them as they lie there
pub each_set_row : (P : SetRow → Type 0) (es : List EarlierRow) → AllByRecursion P (map set_row es) → AllByRecursion (λ e. P (set_row e)) es
each_set_row P [] all = tt
each_set_row P (e ∷ es) all = (all.0, each_set_row P es all.1)

each_kind : (kind : Kind) (es : List EarlierRow) → AllByRecursion (λ (listed : SetRow). listed.row.kind ≡ kind) (map set_row es) → AllByRecursion (Of earlier_key (λ (e : EarlierRow). (set_row e).row.id) (place_of_kind kind)) es
each_kind kind [] all = tt
each_kind kind (e ∷ es) all = ((λ i. (place_of_kind (all.0 i), (set_row e).row.id)), each_kind kind es all.1)

pub kinds_of_earlier : (kind : Kind) (es : List EarlierRow) (rows : List SetRow) → map set_row es ≡ rows → All (λ (listed : SetRow). listed.row.kind ≡ kind) rows
    → AllByRecursion (Of earlier_key (λ (e : EarlierRow). (set_row e).row.id) (place_of_kind kind)) es
kinds_of_earlier kind es rows is all = each_kind kind es (subst (AllByRecursion (λ (listed : SetRow). listed.row.kind ≡ kind)) (sym is) (recursion_from_All (λ (listed : SetRow). listed.row.kind ≡ kind) rows all))

keep : (es : List EarlierRow) → KeepKeys earlier_key set_key set_row es
keep [] = tt
keep (e ∷ es) = (refl, keep es)

pub earlier_at_is : (k : Key) (es : List EarlierRow) (rows : List SetRow) → map set_row es ≡ rows → earlier_at es k ≡ look_up set_key k rows
earlier_at_is k es rows is = sym (look_up-map earlier_key set_key set_row k es (keep es)) ∙ ap (look_up set_key k) is

-- put in order they are of the same kind
pub kinds_ordered : (kind : Kind) (es : List EarlierRow) (rows : List SetRow) → map set_row es ≡ rows → All (λ (listed : SetRow). listed.row.kind ≡ kind) rows
    → AllByRecursion (λ (e : EarlierRow). (set_row e).row.kind ≡ kind) (in_order (λ (e : EarlierRow). (set_row e).row.id) es)
kinds_ordered kind es rows is all =
    let order = in_order_is earlier_key (λ (e : EarlierRow). (set_row e).row.id) (place_of_kind kind) es (kinds_of_earlier kind es rows is all) in
    let kinds = each_set_row (λ (listed : SetRow). listed.row.kind ≡ kind) es (subst (AllByRecursion (λ (listed : SetRow). listed.row.kind ≡ kind)) (sym is) (recursion_from_All (λ (listed : SetRow). listed.row.kind ≡ kind) rows all)) in
    subst (AllByRecursion (λ (e : EarlierRow). (set_row e).row.kind ≡ kind)) (sym order) (each_overlaid earlier_key (λ (e : EarlierRow). (set_row e).row.kind ≡ kind) es kinds)
