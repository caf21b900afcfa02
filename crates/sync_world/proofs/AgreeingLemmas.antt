-- A copy and a link that agree, as the hub goes on.
use Rattle.std.proofs.Common.{◌≡◌, [], sym, subst}
use Rattle.exchange_link.proofs.FitLemmas.{copy_on}
use Rattle.exchange_link.specs.Agreement.{Differ, NoneAbove}
use Rattle.exchange_link.specs.Exchanges.{LinkState}
use Rattle.exchange_link.specs.Marks.{Agree}
use Rattle.hub_spec.proofs.AgreeLemmas.{reads_keep}
use Rattle.hub_spec.specs.marks.Agreement.{MarksAgree}
use Rattle.hub_spec.specs.rules.Growth.{Grew}
use Rattle.keeper_memory.specs.copy.Copies.{Copy}
use Rattle.sync_world.proofs.WalkLemmas.{walk_grew}
use Rattle.sync_world.specs.Links.{HeldLink, link_state, world_of}
use Rattle.sync_world.specs.Walks.{Walks}

-- what a hub adds of others leaves the agreement
agree_grows : (copy : Copy) (told tells : LinkState) → Grew told.hub tells.hub → tells.sent ≡ told.sent → Agree copy told → Agree copy tells
agree_grows copy told tells grew sent agree = record {
  stage = record {
    differ = subst Differ (sym sent) agree.stage.differ;
    below = subst (NoneAbove copy.run) (sym sent) agree.stage.below;
    fits = copy_on copy told.hub tells.hub grew agree.stage.fits;
  };
  marks = subst (MarksAgree copy.entries copy.last_number tells.hub) (sym sent) (reads_keep copy.entries copy.last_number told.hub tells.hub [] told.sent grew tt agree.marks);
}

pub agree_walks : (copy : Copy) (old new : HeldLink) → Walks (world_of old) (world_of new) → new.sent ≡ old.sent → Agree copy (link_state old) → Agree copy (link_state new)
agree_walks copy old new walks sent agree = agree_grows copy (link_state old) (link_state new) (walk_grew (world_of old) (world_of new) walks) sent agree
