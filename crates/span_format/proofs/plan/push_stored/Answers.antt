use Rattle.std.proofs.Common.{map, sym, ap, ◌∙◌}
use Rattle.item_maps.specs.Edits.{entry_of}
use Rattle.hub_format.specs.Format.{grants_under, version_entry}
use Rattle.span_format.proofs.plan.push_stored.Goals as goal

pub returns-in-Some : goal.returns-in-Some
returns-in-Some c t first rest bases next changes old =
    c.push_folded.ensures t.base first bases next (c.in-Some.ensures (version_entry first) (ap (map entry_of) c.as_slice.ensures.value ∙ old.version first rest changes))
    (ap (map entry_of) c.as_slice-in-Some.ensures.value ∙ old.names first rest changes)
    (ap (map entry_of) c.as_slice-in-Some-2.ensures.value ∙ old.grants ∙ ap (λ n. grants_under n t.base.grants) (sym bases))
