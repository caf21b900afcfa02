-- All entries, one after another.
use Rattle.std.proofs.Common.{◌≡◌, ◌≢◌, ◌+◌, ◌-◌, ◌*◌, ◌≤◌, ℕ, true, List, [], ◌∷◌, Some, None, refl, sym, subst, arith}
use Rattle.std.proofs.Math.Nat.{mul-le-mul_left}
use Rattle.std.specs.Prelude.{IfSome, is_none}
use Rattle.std.specs.List.{AllByRecursion}
use Rattle.keeper_memory.specs.copy.Changes.{copy_after}
use Rattle.keeper_memory.specs.copy.Copies.{Copy, IsCopy, first_unsettled}
use Rattle.keeper_memory.specs.declared.copy.change.CopyChange.TheVariants.{Settle}
use Rattle.keeper_memory.specs.declared.copy.entry.OutEntry.{OutEntry}
use Rattle.exchange_link.specs.Causes.{IsMore, RoseBy, kept_of}
use Rattle.exchange_link.specs.Exchanges.{LinkState}
use Rattle.exchange_link.specs.SendCauses.{EndsAtEntry, IsBetween, IsSendAside, SendCauseOf, SendToldCause}
use Rattle.exchange_link.specs.SendCompleteness.{CanSendAll, IsFine}
use Rattle.exchange_link.specs.Sent.{AllSettled, NamesFirst, number_in, unsettled}
use Rattle.exchange_link.specs.declared.send_answer.SendAnswer.{SendAnswer}
use Rattle.exchange_link.specs.declared.send_answer.SendAnswer.TheVariants as answer
use Rattle.hub_spec.proofs.Growing.{Grew-trans}
use Rattle.hub_spec.specs.marks.Answering.{CanSendWrite}
use Rattle.hub_spec.specs.marks.Marked.{mark_of}
use Rattle.exchange_link.specs.Requests.{Moved}
use Rattle.version_core.specs.HubStates.{HubState, newest_number}
use Rattle.consumer_outbox.proofs.StepLemmas.{names_first}
use Rattle.consumer_outbox.proofs.WalkLemmas.{open_by, open_is, settles_left, settles_next, settles_none, walk_settles}
use Rattle.consumer_outbox.specs.Sends.{IsEntryEnd, SettledTo, SettlesAny, SoFar, StaysAny, TakesAny}

-- ---- counts

pub more_none : (a : ℕ) → IsMore a 0 a
more_none a = record { least = omega arith; most = omega arith }

pub more_to : (a b c n m : ℕ) → IsMore a n b → n ≤ m → IsMore b (m - n) c → IsMore a m c
more_to a b c n m x le y = record { least = let one = x.least in let two = y.least in omega (arith, one, two, le); most = let one = x.most in let two = y.most in omega (arith, one, two, le) }

next_times : (t s : ℕ) → t * (s + 1) ≡ t * s + t
next_times t s = omega arith

-- the exchanges of one more entry
pub bound_next : (tries settled count more : ℕ) → count ≤ tries * settled → more ≤ count + tries → more ≤ tries * (settled + 1)
bound_next tries settled count more few le = omega (arith, next_times tries settled, few, le)

pub bound_at : (tries settled count start asked most : ℕ) → count ≤ tries * settled → asked ≤ start + count → settled ≤ most → asked ≤ start + tries * most
bound_at tries settled count start asked most few le fits = omega (arith, few, le, mul-le-mul_left tries fits)

-- ---- the copy

pub so_far_none : (c : Copy) → SoFar 0 c c
so_far_none c = record { run = refl; held = refl; stage = refl; last_number = refl; entries = settles_none c.entries }

pub so_far_next : (n number status version : ℕ) (before mid after : Copy) (entry : OutEntry) → SoFar n before mid → first_unsettled mid.entries ≡ Some entry → after ≡ copy_after (Settle number status version) mid → SoFar (n + 1) before after
so_far_next n number status version before mid after entry x first e = subst (SoFar (n + 1) before) (sym e) (record {
  run = x.run;
  held = x.held;
  stage = x.stage;
  last_number = x.last_number;
  entries = settles_next n (record { status = status; version = version }) before.entries mid.entries entry x.entries first;
})

-- where the call goes on, one entry more is settled
pub settles_on : (n number : ℕ) (before mid after : Copy) (entry : OutEntry) → SoFar n before mid → first_unsettled mid.entries ≡ Some entry → TakesAny number None mid after → SoFar (n + 1) before after
settles_on n number before mid after entry x first (StaysAny stops e) = absurd (stops refl)
settles_on n number before mid after entry x first (SettlesAny status version y e) = so_far_next n number status version before mid after entry x first e

pub settles_up_to : (number : ℕ) (mid after : Copy) (entry : OutEntry) → IsCopy mid → first_unsettled mid.entries ≡ Some entry → TakesAny number None mid after → SettledTo entry.number after.entries
settles_up_to number mid after entry is first (StaysAny stops e) = absurd (stops refl)
settles_up_to number mid after entry is first (SettlesAny status version y e) = subst (λ (c : Copy). SettledTo entry.number c.entries) (sym e) (walk_settles 0 (record { status = status; version = version }) mid.entries entry is.entries.rise first)

entry_end_settled : (a : SendAnswer) (n : ℕ) (entries : List OutEntry) → IsEntryEnd a → AllSettled a n entries
entry_end_settled (answer.Settled count) n entries e = absurd e
entry_end_settled a n entries e = tt

-- where it ends at an entry, as many are settled, or one more where the keeper or memory gave up
pub settles_at_end : (n number : ℕ) (a : SendAnswer) (before mid after : Copy) (entry : OutEntry) → SoFar n before mid → first_unsettled mid.entries ≡ Some entry → IsEntryEnd a → TakesAny number (Some a) mid after
    → (settled : ℕ) × SoFar settled before after × AllSettled a settled after.entries
settles_at_end n number a before mid after entry x first end (StaysAny stops e) = (n, subst (SoFar n before) (sym e) x, entry_end_settled a n after.entries end)
settles_at_end n number a before mid after entry x first end (SettlesAny status version y e) = (n + 1, so_far_next n number status version before mid after entry x first e, entry_end_settled a (n + 1) after.entries end)

pub entry_left : (n : ℕ) (before mid : Copy) (entry : OutEntry) → SoFar n before mid → first_unsettled mid.entries ≡ Some entry → n + 1 ≤ unsettled before.entries
entry_left n before mid entry x first = let left = settles_left n before.entries mid.entries entry x.entries first in omega (arith, left)

-- ---- answers

-- the keeper or memory gives up between two entries
pub record Aside (broke : Type 0) (a : SendAnswer) : Type 0 where
  pub aside : IsSendAside a
  pub cause : a ≡ answer.KeeperFault → broke

pub aside_end : (a : SendAnswer) → IsSendAside a → IsEntryEnd a
aside_end answer.NoMemory x = tt
aside_end answer.KeeperFault x = tt
aside_end a x = absurd x

pub aside_settled : (a : SendAnswer) (n : ℕ) (entries : List OutEntry) → IsSendAside a → AllSettled a n entries
aside_settled a n entries x = entry_end_settled a n entries (aside_end a x)

pub aside_told : (token : List ℕ) (before after : LinkState) (entries : List OutEntry) (a : SendAnswer) → IsSendAside a → SendToldCause token before after entries a
aside_told token before after entries answer.NoMemory x = tt
aside_told token before after entries answer.KeeperFault x = tt
aside_told token before after entries a x = absurd x

pub aside_fine : (a : SendAnswer) → IsSendAside a → (a ≡ answer.KeeperFault → ⊥) → IsFine a
aside_fine answer.NoMemory x n = tt
aside_fine answer.KeeperFault x n = absurd (n refl)
aside_fine a x n = absurd x

pub aside_cause : (kept : List ℕ) (run n : ℕ) (missed broke : Type 0) (a : SendAnswer) → IsSendAside a → (a ≡ answer.KeeperFault → broke) → SendCauseOf (kept_of kept run n) missed broke a
aside_cause kept run n missed broke answer.NoMemory x f = tt
aside_cause kept run n missed broke answer.KeeperFault x f = f refl
aside_cause kept run n missed broke a x f = absurd x

pub aside_names : (a : SendAnswer) (entries : List OutEntry) → IsSendAside a → NamesFirst a entries
aside_names answer.NoMemory entries x = tt
aside_names answer.KeeperFault entries x = tt
aside_names a entries x = absurd x

pub aside_stays : (a : SendAnswer) → IsSendAside a → EndsAtEntry a → ⊥
aside_stays answer.NoMemory x e = e
aside_stays answer.KeeperFault x e = e
aside_stays a x e = absurd x

pub end_not_last : (a : SendAnswer) → IsEntryEnd a → a ≢ answer.LastRun
end_not_last a e same = subst IsEntryEnd same e

pub end_names : (a : SendAnswer) (entries : List OutEntry) (entry : OutEntry) → IsEntryEnd a → (EndsAtEntry a → first_unsettled entries ≡ Some entry) → IfSome (number_in a) (λ n. n ≡ entry.number) → NamesFirst a entries
end_names (answer.Settled count) entries entry e f named = absurd e
end_names (answer.Interrupted number) entries entry e f named = names_first (answer.Interrupted number) entries entry (f tt) named
end_names (answer.NoScope number) entries entry e f named = names_first (answer.NoScope number) entries entry (f tt) named
end_names (answer.BadReply number) entries entry e f named = names_first (answer.BadReply number) entries entry (f tt) named
end_names (answer.MarkTaken number) entries entry e f named = names_first (answer.MarkTaken number) entries entry (f tt) named
end_names (answer.HubFault number) entries entry e f named = names_first (answer.HubFault number) entries entry (f tt) named
end_names (answer.HubNoMemory number) entries entry e f named = names_first (answer.HubNoMemory number) entries entry (f tt) named
end_names a entries entry e f named = tt

pub cause_more : (kept : List ℕ) (run n : ℕ) (missed broke wide more : Type 0) (a : SendAnswer) → (missed → wide) → (broke → more) → SendCauseOf (kept_of kept run n) missed broke a → SendCauseOf (kept_of kept run n) wide more a
cause_more kept run n missed broke wide more (answer.Settled count) f h x = tt
cause_more kept run n missed broke wide more answer.LastRun f h x = tt
cause_more kept run n missed broke wide more answer.NoMemory f h x = tt
cause_more kept run n missed broke wide more (answer.Interrupted number) f h x = f x
cause_more kept run n missed broke wide more answer.KeeperFault f h x = h x
cause_more kept run n missed broke wide more a f h x = x

pub rose_from : (n first before now : ℕ) → first ≤ before → RoseBy n before now → RoseBy n first now
rose_from n first before now le x = omega (arith, le, x)

-- ---- over a link that tells

wider : (first before after : LinkState) (mid : HubState) → Moved first before → IsBetween before after mid → IsBetween first after mid
wider first before after mid moved x = record { from = Grew-trans first.hub before.hub mid moved.grew x.from; to = x.to }

pub told_on : (token : List ℕ) (first before after : LinkState) (entries : List OutEntry) (a : SendAnswer) → Moved first before → SendToldCause token before after entries a → SendToldCause token first after entries a
told_on token first before after entries (answer.BadReply number) moved x = x
told_on token first before after entries (answer.HubFault number) moved x = let low = moved.counts in omega (arith, low, x)
told_on token first before after entries answer.UnknownToken moved x = (x.0, wider first before after x.0 moved x.1, x.2)
told_on token first before after entries (answer.NoScope number) moved x = (x.0, wider first before after x.0 moved x.1, x.2, x.3, x.4)
told_on token first before after entries (answer.MarkTaken number) moved x = (x.0, wider first before after x.0 moved x.1, x.2, x.3, x.4)
told_on token first before after entries a moved x = tt

-- what may be sent of all entries, may be of the next
pub can_send : (token : List ℕ) (n : ℕ) (first before : LinkState) (state : HubState) (start mid : Copy) (entry : OutEntry) → Moved first before → SoFar n start mid → first_unsettled mid.entries ≡ Some entry
    → CanSendAll token (newest_number first.hub) start.entries state → CanSendAll token (newest_number before.hub) (entry ∷ []) state
can_send token n first before state start mid entry moved x is can = record {
  by = can.by;
  known = can.known;
  unchanged = let low = can.unchanged in let longer = moved.grew.longer in omega (arith, low, longer);
  each = (
    (λ yet. open_is (λ (e : OutEntry). CanSendWrite state can.by (mark_of e)) mid.entries entry is
        (subst (λ es. AllByRecursion (λ (e : OutEntry). is_none e.settled ≡ true → CanSendWrite state can.by (mark_of e)) es) (sym x.entries.entries)
        (open_by (λ (e : OutEntry). CanSendWrite state can.by (mark_of e)) x.entries.settled start.entries can.each))),
    tt,
  );
}
