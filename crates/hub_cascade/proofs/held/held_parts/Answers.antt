use Rattle.std.proofs.Common.{◌≡◌, ◌+◌, ◌++◌, ◌∙◌, [], ◌∷◌, List, ap, arith, get_or, map, refl, subst, sym, take}
use Rattle.std.proofs.lemmas.List.{map-append, take_all, take_more}
use Rattle.hub_cascade.proofs.Listing.{parts_push}
use Rattle.hub_cascade.specs.Steps.{AreHeldParts, held_part}
use Rattle.roster_values.specs.declared.kind.Kind.{Kind}
use Rattle.roster_values.specs.declared.kind.Kind.TheVariants.{Orgs}
use Rattle.hub_cascade.proofs.held.held_parts.Goals as goal

pub loop-kind-init : goal.loop-kind-init
loop-kind-init g c = record {
  are = subst (AreHeldParts []) (sym c.new-parts.ensures) tt;
  held = λ copy stands. c.new-parts.ensures;
  same = λ copy stands. stands;
  leads = g.met.C.CopyKeeper.stays c.args.copy.now;
  count = refl;
}

pub loop-kind-preserved : goal.loop-kind-preserved
loop-kind-preserved g c =
    let kinds = c.args.kinds.now in
    let i = c.loop-kind.kind-index in
    let kind = get_or kinds i Orgs in
    let parts = c.loop-kind.parts in
    let part = c.in_ok-held_part.field-0 in
    let here = c.loop-kind.invariant in
    let step = c.in_ok-held_part.ensures in
    let more : take (i + 1) kinds ≡ take i kinds ++ kind ∷ [] = take_more kinds i Orgs (omega arith) in
    let now = c.in_ok-push.ensures.ok in
    record {
      are = subst (AreHeldParts (take (i + 1) kinds)) (sym now) (subst (λ ks. AreHeldParts ks (parts ++ part ∷ [])) (sym more) (parts_push (take i kinds) parts kind part here.are step.is));
      held = λ copy stands.
          now ∙ (λ j. here.held copy (step.same copy stands) j ++ step.held copy stands j ∷ []) ∙ sym (map-append (held_part copy) (take i kinds) (kind ∷ [])) ∙ ap (map (held_part copy)) (sym more);
      same = λ copy stands. here.same copy (step.same copy stands);
      leads = g.met.C.CopyKeeper.leads_on _ _ _ here.leads step.leads;
      count = step.cause ∙ here.count;
    }

pub returns-clause-are : goal.returns-clause-are
returns-clause-are g c =
    subst (λ (ks : List Kind). AreHeldParts ks c.loop-kind.parts) (take_all c.loop-kind.kind-index c.args.kinds.now (omega arith)) c.loop-kind.invariant.are

pub returns-clause-held : goal.returns-clause-held
returns-clause-held g c = λ copy stands.
    c.loop-kind.invariant.held copy stands ∙ ap (map (held_part copy)) (take_all c.loop-kind.kind-index c.args.kinds.now (omega arith))
