-- What exchanges make of a link to a world, one behind another.
use Rattle.std.specs.Prelude.{◌≡◌, ℕ, Bool, true, false, List, [], ◌∷◌, ◌++◌, Option, Some, None}
use Rattle.std.proofs.Common.{refl, sym, ap, subst, ◌∙◌}
use Rattle.std.proofs.lemmas.List.{append_assoc}
use Rattle.roster_base.specs.Faults.{Rose, one_more}
use Rattle.status_info.specs.declared.request.Request.{Request}
use Rattle.sync_world.specs.Deliveries.{Carried, Scene}
use Rattle.sync_world.specs.Given.{is_stale}
use Rattle.sync_world.specs.Links.{HeldLink, world_of}
use Rattle.sync_world.specs.Planned.{fate_at}
use Rattle.sync_world.specs.Walks.{Walks, walks_on, walks_stay}
use Rattle.sync_world.specs.declared.traffic.Exchange.{Exchange}

-- ---- one exchange

-- the count of faults rises where there is one
abbrev pub Counts : Bool → ℕ → ℕ → Type 0
Counts true before after = Rose before after
Counts false before after = after ≡ before

-- what came is kept, or nothing; a fault is counted where nothing came, or where what came is the reply of another
-- exchange
abbrev pub Keeps : Bool → Option (List ℕ) → HeldLink → HeldLink → Type 0
Keeps stale None old new = (new.kept ≡ []) × Counts true old.faults new.faults
Keeps stale (Some text) old new = (new.kept ≡ text) × Counts stale old.faults new.faults

-- what an exchange over a link may change
abbrev pub scene_of : HeldLink → Scene
scene_of link = record { past = link.past; events = link.events; world = world_of link; said = link.said }

-- the exchange of this number, at the link's moment and with the fate that is planned for it
abbrev pub next_exchange : HeldLink → ℕ → Exchange
next_exchange link number = record { number = number; at = link.clock; fate = fate_at link.fates number }

-- one exchange: it is counted, the events that were planned for it came to pass, its request had the fate that was
-- planned for it, and what came is kept
pub record Round (old new : HeldLink) : Type 0 where
  pub asked : new.asked ≡ one_more old.asked
  pub request : Request
  pub came : Option (List ℕ)
  pub carried : Carried (next_exchange old new.asked) request (scene_of old) (scene_of new) came
  pub keeps : Keeps (is_stale (fate_at old.fates new.asked)) came old new
  pub clock : new.clock ≡ old.clock
  pub fates : new.fates ≡ old.fates

-- ---- exchanges one behind another

-- exchanges that lead from the old link to the new one: these are the links behind each of them, in order
abbrev pub RoundsBy : List HeldLink → HeldLink → HeldLink → Type 0
RoundsBy [] old new = new ≡ old
RoundsBy (next ∷ links) old new = Round old next × RoundsBy links next new

-- some exchanges, one behind another, lead from the old link to the new one
abbrev pub Rounds : HeldLink → HeldLink → Type 0
Rounds old new = (links : List HeldLink) × RoundsBy links old new

rounds_by_on : (links more : List HeldLink) (one two three : HeldLink) → RoundsBy links one two → RoundsBy more two three → RoundsBy (links ++ more) one three
rounds_by_on [] more one two three first second = subst (λ (link : HeldLink). RoundsBy more link three) first second
rounds_by_on (next ∷ links) more one two three first second = (first.0, rounds_by_on links more next two three first.1 second)

rounds_on : (one two three : HeldLink) → Rounds one two → Rounds two three → Rounds one three
rounds_on one two three first second = (first.0 ++ second.0, rounds_by_on first.0 second.0 one two three first.1 second.1)

-- the same where no exchange wanted memory: that one did is noted in the link for good
abbrev pub RoundsIf : HeldLink → HeldLink → Type 0
RoundsIf old new = new.wanted ≡ false → (old.wanted ≡ false) × Rounds old new

-- from the old link to the new one the hub made a run, and more requests were sent; the clock and the planned fates of
-- exchanges stay
pub record LinkLeads (old new : HeldLink) : Type 0 where
  pub walks : Walks (world_of old) (world_of new)
  pub more : List Request
  pub sent : new.sent ≡ more ++ old.sent
  pub clock : new.clock ≡ old.clock
  pub fates : new.fates ≡ old.fates
  pub rounds : RoundsIf old new

pub link_stays : (link : HeldLink) → LinkLeads link link
link_stays link = record { walks = walks_stay (world_of link); more = []; sent = refl; clock = refl; fates = refl; rounds = λ none. (none, ([], refl)) }

pub link_leads_on : (one two three : HeldLink) → LinkLeads one two → LinkLeads two three → LinkLeads one three
link_leads_on one two three first second = record {
  walks = walks_on (world_of one) (world_of two) (world_of three) first.walks second.walks;
  more = second.more ++ first.more;
  sent = second.sent ∙ ap (λ (sent : List Request). second.more ++ sent) first.sent ∙ sym (append_assoc second.more first.more one.sent);
  clock = second.clock ∙ first.clock;
  fates = second.fates ∙ first.fates;
  rounds = λ none. let (mid, last) = second.rounds none in let (none', rounds) = first.rounds mid in (none', rounds_on one two three rounds last);
}
