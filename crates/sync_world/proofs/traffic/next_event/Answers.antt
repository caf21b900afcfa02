use Rattle.std.proofs.Common.{◌∷◌, refl, sym, ap, ◌∙◌}
use Rattle.std.proofs.lemmas.List.Quantifiers.{position-Some}
use Rattle.std.specs.Prelude.{filter, position}
use Rattle.sync_world.specs.Planned.{events_aside, is_at}
use Rattle.sync_world.proofs.ListLemmas.{first_out, none_out, others_stay}
use Rattle.sync_world.proofs.traffic.next_event.Goals as goal

pub returns-in_default-clause-taken : goal.returns-in_default-clause-taken
returns-in_default-clause-taken c =
    (none_out (is_at c.args.exchange) c.args.events.now.items (ap (position (is_at c.args.exchange)) (sym c.as_slice.ensures.value) ∙ sym c.place_of.ensures ∙ c.in_default.is), refl)

pub returns-clause-taken : goal.returns-clause-taken
returns-clause-taken c =
    let first = position-Some (is_at c.args.exchange) c.args.events.now.items c.in-Some.place c.remove.result
    (ap (position (is_at c.args.exchange)) (sym c.as_slice.ensures.value) ∙ sym c.place_of.ensures ∙ c.in-Some.is) in (
      first_out (is_at c.args.exchange) c.remove.result c.args.events.now.items c.in-Some.place first.0 first.1 first.2
          ∙ (λ i. sym c.remove.ensures.value i ∷ filter (is_at c.args.exchange) (sym c.remove.ensures.items i)),
      ap (events_aside c.args.exchange) c.remove.ensures.items ∙ others_stay (is_at c.args.exchange) c.remove.result c.args.events.now.items c.in-Some.place first.0 first.1,
    )
