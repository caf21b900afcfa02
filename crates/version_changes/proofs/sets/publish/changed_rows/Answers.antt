use Rattle.std.proofs.Common.{◌≡◌, map, sym, ap, subst, ◌∙◌}
use Rattle.std.proofs.lemmas.Result.{IfOk-weaker}
use Rattle.std.specs.List.{flat_map}
use Rattle.roster_types.specs.Keys.{Key, look_up}
use Rattle.roster_types.specs.Sets.{AreParts}
use Rattle.version_changes.proofs.Bare.{AreParts-bare, changes-bare}
use Rattle.version_changes.specs.sets.Applying.{rows_in, set_key}
use Rattle.version_changes.specs.sets.Steps.{ChangesAt, bare, bare_set}
use Rattle.version_core.specs.Changes.{change_key}
use Rattle.version_changes.proofs.sets.publish.changed_rows.Goals as goal

pub new-bare-requires : goal.new-bare-requires
new-bare-requires c =
    let parts : c.in_ok-bare.bare ≡ map bare c.args.set.parts = c.in_ok-bare.ensures ∙ ap (map bare) (c.as_slice.ensures ∙ c.into_parts-feed.ensures.parts) in
    subst AreParts (sym parts) (AreParts-bare c.args.set.parts c.into_parts-feed.ensures.good)

-- what the rows change with the set that is without them, they change with the set
pub returns : goal.returns
returns c =
    let set = c.args.set in
    let parts : c.in_ok-bare.bare ≡ map bare set.parts = c.in_ok-bare.ensures ∙ ap (map bare) (c.as_slice.ensures ∙ c.into_parts-feed.ensures.parts) in
    let is : c.new-bare.result ≡ bare_set set = c.new-bare.ensures ∙ (λ i. record { feed = c.into_parts-feed.ensures.feed i; parts = parts i }) in
    let stored = λ (k : Key). look_up change_key k c.args.view.now.rows in
    let listed : (k : Key) → look_up set_key k c.in_ok-rows.rows.items ≡ look_up set_key k (rows_in set) = λ k.
    c.in_ok-rows.ensures.rows k ∙ ap (λ parts. look_up set_key k (flat_map (λ part. part.rows) parts)) c.into_parts-feed.ensures.parts in
    IfOk-weaker c.changes_of.result _ _
    (λ changes each k.
    let change = look_up change_key k changes in
    changes-bare set c.args.at (look_up set_key k (rows_in set)) (stored k) change (
    subst (λ l. ChangesAt (bare_set set) c.args.at l (stored k) change) (listed k) (
    subst (λ s. ChangesAt s c.args.at (look_up set_key k c.in_ok-rows.rows.items) (stored k) change) is (each k))))
    c.changes_of.ensures
