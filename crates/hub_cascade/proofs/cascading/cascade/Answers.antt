use Rattle.std.proofs.Common.{◌≡◌, inl, refl, subst, sym, Result}
use Rattle.std.specs.Prelude.{IfOk}
use Rattle.hub_cascade.proofs.Answering.{answer_alone, answer_counts, answer_leaves, answer_makes, answer_tells}
use Rattle.hub_cascade.proofs.Answering.{copy_alone, copy_counts, copy_leaves, copy_makes, copy_tells}
use Rattle.hub_cascade.proofs.Leading.{makes_held, served}
use Rattle.hub_cascade.specs.Answers.{CountsCopy, CountsHub, LeavesOpen, MakesCascade, TellsHeld}
use Rattle.hub_cascade.specs.Cascading.{active_rows, current_rows}
use Rattle.hub_cascade.specs.Held.{CascadesHeld, held_rows}
use Rattle.hub_cascade.specs.declared.error.CascadeError.{CascadeError}
use Rattle.hub_core.specs.declared.published.Published.{Published}
use Rattle.keeper_memory.specs.Kept.{newest_kept}
use Rattle.keeper_memory.specs.copy.Copies.{Copy}
use Rattle.hub_cascade.proofs.cascading.cascade.Goals as goal

pub returns-in-Ok-clause-told : goal.returns-in-Ok-clause-told
returns-in-Ok-clause-told g c = λ after standing.
    let copies = g.C.CopyKeeper.stands_for c.held_set.new.copy in
    let feed = c.args.feed.now in
    let at = c.args.at in
    let made = c.publish_held.result in
    let lists = c.in-Ok.ensures.lists in
    let told = c.publish_held.ensures.told after standing in (
      told.0,
      told.1,
      told.2,
      subst (λ (r : Result Published CascadeError). MakesCascade (CascadesHeld copies feed at) r told.0 after) (sym c.answer_of.ensures)
          (answer_makes (CascadesHeld copies feed at) made told.0 after (makes_held copies feed at lists.rows lists.held made told.0 after (told.3 feed lists.rows lists.lists))),
    )

pub returns-in-Ok-clause-held : goal.returns-in-Ok-clause-held
returns-in-Ok-clause-held g c =
    let copies = g.C.CopyKeeper.stands_for c.held_set.new.copy in
    subst (TellsHeld copies) (sym c.answer_of.ensures) (answer_tells copies c.publish_held.result c.in-Ok.ensures.tells.0)

pub returns-in-Ok-clause-served : goal.returns-in-Ok-clause-served
returns-in-Ok-clause-served g c =
    let copies = g.C.CopyKeeper.stands_for c.held_set.new.copy in
    let feed = c.args.feed.now in
    let at = c.args.at in
    let made = c.publish_held.result in
    let lists = c.in-Ok.ensures.lists in
    let after = c.publish_held.new.hub.kept in
    let told = c.publish_held.ensures.told after (inl refl) in
    subst (λ (r : Result Published CascadeError). IfOk r (λ _. (copy : Copy) → copies copy → current_rows feed (newest_kept after.versions).rows ≡ active_rows (held_rows copy))) (sym c.answer_of.ensures)
    (served copies feed at told.0 after made (makes_held copies feed at lists.rows lists.held made told.0 after (told.3 feed lists.rows lists.lists)))

pub returns-in-Ok-clause-settled : goal.returns-in-Ok-clause-settled
returns-in-Ok-clause-settled g c =
    subst (λ (r : Result Published CascadeError). LeavesOpen r c.publish_held.new.hub.commit_open) (sym c.answer_of.ensures) (answer_leaves c.publish_held.result c.publish_held.new.hub.commit_open c.publish_held.ensures.settled)

pub returns-in-Ok-clause-hub_cause : goal.returns-in-Ok-clause-hub_cause
returns-in-Ok-clause-hub_cause g c =
    let count = g.H.HubKeeper.fault_count in
    subst (CountsHub (count c.args.keeper.now) (count c.publish_held.new.keeper)) (sym c.answer_of.ensures)
    (answer_counts c.publish_held.result (count c.args.keeper.now) (count c.publish_held.new.keeper) c.publish_held.ensures.cause)

pub returns-in-Ok-clause-copy_cause : goal.returns-in-Ok-clause-copy_cause
returns-in-Ok-clause-copy_cause g c =
    let count = g.C.CopyKeeper.fault_count in
    subst (CountsCopy (count c.args.copy.now) (count c.held_set.new.copy)) (sym c.answer_of.ensures)
    (answer_alone c.publish_held.result (count c.args.copy.now) (count c.held_set.new.copy) c.in-Ok.ensures.tells.1)

pub returns-in-Err-clause-told : goal.returns-in-Err-clause-told
returns-in-Err-clause-told g c = λ after standing.
    let copies = g.C.CopyKeeper.stands_for c.held_set.new.copy in
    let count = g.C.CopyKeeper.fault_count in
    (after, standing, (λ stands. stands), copy_makes (CascadesHeld copies c.args.feed.now c.args.at) copies (count c.args.copy.now) (count c.held_set.new.copy) c.in-Err.error after c.in-Err.ensures.tells)

pub returns-in-Err-clause-held : goal.returns-in-Err-clause-held
returns-in-Err-clause-held g c =
    let copies = g.C.CopyKeeper.stands_for c.held_set.new.copy in
    let count = g.C.CopyKeeper.fault_count in
    copy_tells copies (count c.args.copy.now) (count c.held_set.new.copy) c.in-Err.error c.in-Err.ensures.tells

pub returns-in-Err-clause-settled : goal.returns-in-Err-clause-settled
returns-in-Err-clause-settled g c =
    let copies = g.C.CopyKeeper.stands_for c.held_set.new.copy in
    let count = g.C.CopyKeeper.fault_count in
    copy_leaves copies (count c.args.copy.now) (count c.held_set.new.copy) c.in-Err.error c.args.hub.now.commit_open c.in-Err.ensures.tells

pub returns-in-Err-clause-hub_cause : goal.returns-in-Err-clause-hub_cause
returns-in-Err-clause-hub_cause g c =
    let copies = g.C.CopyKeeper.stands_for c.held_set.new.copy in
    let count = g.C.CopyKeeper.fault_count in
    copy_alone copies (count c.args.copy.now) (count c.held_set.new.copy) c.in-Err.error (g.H.HubKeeper.fault_count c.args.keeper.now) c.in-Err.ensures.tells

pub returns-in-Err-clause-copy_cause : goal.returns-in-Err-clause-copy_cause
returns-in-Err-clause-copy_cause g c =
    let copies = g.C.CopyKeeper.stands_for c.held_set.new.copy in
    let count = g.C.CopyKeeper.fault_count in
    copy_counts copies (count c.args.copy.now) (count c.held_set.new.copy) c.in-Err.error c.in-Err.ensures.tells

pub returns-in-Err-clause-hub_leads : goal.returns-in-Err-clause-hub_leads
returns-in-Err-clause-hub_leads g c = g.met.H.HubKeeper.stays c.args.keeper.now
