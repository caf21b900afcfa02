-- Requests of others, as far as a world's hub took them.
use Rattle.std.proofs.Common.{◌≡◌, ℕ, ℤ, ◌+◌, ◌-◌, ◌^◌, ◌<◌, min, true, false, List, [], ◌∷◌, ◌++◌, length}
use Rattle.std.proofs.Common.{length-append, Option, Some, None, Err, refl, sym, ap, subst, ◌∙◌, arith}
use Rattle.std.proofs.lemmas.List.{append_assoc, append-nil}
use Rattle.std.specs.Io.KnownBytes.{prepend_known}
use Rattle.std.specs.Prelude.{MatchOption}
use Rattle.http_wire.proofs.RunLemmas.{closes_behind, fails_behind}
use Rattle.http_wire.specs.Reading.{Causes, Fails, FailsAgain, Held, NextGives, OnStream, SourceCause}
use Rattle.http_wire.specs.declared.fault.WireFault.{WireFault}
use Rattle.http_wire.specs.declared.fault.WireFault.TheVariants as fault
use Rattle.rest_provider.proofs.EndsProgress.{Progress, begins, goes_on}
use Rattle.rest_provider.specs.Ends.{IsRead, IsStopped, SourceStop, counted}
use Rattle.status_info.specs.declared.reply.Reply.{Reply}
use Rattle.status_info.specs.declared.request.Request.{Request}
use Rattle.version_core.specs.HubStates.{HubState}
use Rattle.sync_world.specs.Acts.{Acted, Asks, Done, IsTaken, Takes, taken, tells_fault, tells_left}
use Rattle.sync_world.specs.Asking.{bytes_left}
use Rattle.sync_world.specs.Walks.{WalksBy, by_both, by_none}
use Rattle.sync_world.specs.Worlds.{HeldWorld}
use Rattle.sync_world.specs.declared.acts.Saying.{Saying}
use Rattle.sync_world.specs.declared.acts.Saying.TheVariants as saying

abbrev both : Done → Done → Done
both first second = record { steps = first.steps ++ second.steps; said = first.said ++ second.said }

takes_more : (at : ℤ) (requests : List Request) (done : Done) (request : Request) (reply : Reply) (after : HubState) → Takes at requests done → Takes at (requests ++ request ∷ []) (both done (taken request at reply after))
takes_more at [] done request reply after (steps, said) =
    let one = taken request at reply after in
    (reply, after, record { steps = []; said = [] }, (refl, refl), ap (λ xs. xs ++ one.steps) steps, ap (λ xs. xs ++ one.said) said)
takes_more at (r ∷ requests) done request reply after (reply', after', rest, takes, steps, said) =
    let one = taken request at reply after in
    (reply', after', both rest one, takes_more at requests rest request reply after takes, ap (λ xs. xs ++ one.steps) steps, ap (λ xs. xs ++ one.said) said)

-- these requests were taken, none of them closes the stream, and these bytes are kept behind them
pub record SoFar (at : ℤ) (bytes left kept : List ℕ) (count : ℕ) (before now : HeldWorld) (said said' : List Saying) : Type 0 where
  pub requests : List Request
  pub first : Done
  pub takes : Takes at requests first
  pub by : WalksBy first.steps before now
  pub told : said' ≡ said ++ first.said
  pub wire : Progress (bytes_left bytes) (bytes_left left) kept requests [] count

pub none_so_far : (at : ℤ) (bytes kept : List ℕ) (world : HeldWorld) (said : List Saying) → kept ≡ [] → SoFar at bytes bytes kept 0 world world said said
none_so_far at bytes kept world said none = record {
  requests = [];
  first = record { steps = []; said = [] };
  takes = (refl, refl);
  by = by_none world;
  told = sym (append-nil said);
  wire = begins (bytes_left bytes) kept none;
}

module _ {at : ℤ} {bytes left left' kept kept' : List ℕ} {count : ℕ} {before mid now : HeldWorld} {said said' said'' : List Saying} (so_far : SoFar at bytes left kept count before mid said said') where
  module _ (request : Request) (read : IsRead (bytes_left left) (bytes_left left') kept kept' request) (acted : Acted (IsTaken request at) mid now said' said'') where
    abbrev reply : Reply
    reply = acted.is.0

    abbrev after : HubState
    after = acted.is.1

    abbrev one : Done
    one = taken request at reply after

    abbrev all : Done
    all = both so_far.first one

    takes : Takes at (so_far.requests ++ request ∷ []) all
    takes = takes_more at so_far.requests so_far.first request reply after so_far.takes

    by : WalksBy all.steps before now
    by = by_both so_far.first.steps one.steps before mid now so_far.by (subst (λ (d : Done). WalksBy d.steps mid now) acted.is.2 acted.by)

    told : said'' ≡ said ++ all.said
    told = acted.told ∙ ap (λ (d : Done). said' ++ d.said) acted.is.2 ∙ ap (λ xs. xs ++ one.said) so_far.told ∙ append_assoc said so_far.first.said one.said

    pub more_so_far : (count' : ℕ) → count' ≡ min (count + 1) (2 ^ 64 - 1) → request.close ≡ false → SoFar at bytes left' kept' count' before now said said''
    more_so_far count' next stays = record {
      requests = so_far.requests ++ request ∷ [];
      first = all;
      takes = takes;
      by = by;
      told = told;
      wire = goes_on (bytes_left bytes) (bytes_left left) (bytes_left left') kept kept' so_far.requests [] count so_far.wire request [] read count' next stays tt refl;
    }

    -- it closes the stream
    pub closed : (end : List Saying) (number : ℕ) → request.close ≡ true → number ≡ min (count + 2) (2 ^ 64 - 1) → end ≡ said'' ++ tells_left number (kept' ++ left') → Acted (Asks bytes at) before now said end
    closed end number closes next tells =
        let longer = length-append so_far.requests (request ∷ []) in
        let same : number ≡ counted (length (so_far.requests ++ request ∷ []) + 1) = let n = so_far.wire.number in omega (arith, longer, n, next) in
        record {
          done = record { steps = all.steps; said = all.said ++ tells_left number (kept' ++ left') };
          is = record {
            requests = so_far.requests ++ request ∷ [];
            stop = None;
            rest = kept' ++ left';
            read = closes_behind None (Some bytes) (prepend_known kept (Some left)) (prepend_known kept' (Some left')) so_far.requests request so_far.wire.read read.read closes;
            stops = record { earlier = so_far.requests; last = request; are = refl; stay = so_far.wire.stay; closes = closes };
            first = all;
            takes = takes;
            steps = refl;
            said = ap (λ n. all.said ++ tells_left n (kept' ++ left')) same;
          };
          by = by;
          told = tells ∙ ap (λ xs. xs ++ tells_left number (kept' ++ left')) told ∙ append_assoc said all.said (tells_left number (kept' ++ left'));
        }

  -- no request can be read
  pub stopped : (fault : WireFault) (number : ℕ) → IsStopped (bytes_left left) (bytes_left left') kept kept' fault → now ≡ mid → said'' ≡ said' → number ≡ min (count + 1) (2 ^ 64 - 1) → (end : List Saying)
      → end ≡ said'' ++ tells_fault number fault → Acted (Asks bytes at) before now said end
  stopped fault number stops same silent next end tells =
      let first = so_far.first in
      let is_number : number ≡ counted (length so_far.requests + 1) = let n = so_far.wire.number in omega (arith, n, next) in
      record {
        done = record { steps = first.steps; said = first.said ++ tells_fault number fault };
        is = record {
          requests = so_far.requests;
          stop = Some fault;
          rest = kept' ++ left';
          read = fails_behind None refl (Some bytes) (prepend_known kept (Some left)) (prepend_known kept' (Some left')) so_far.requests fault so_far.wire.read stops.read;
          stops = so_far.wire.stay;
          first = first;
          takes = so_far.takes;
          steps = refl;
          said = ap (λ n. first.said ++ tells_fault n fault) is_number;
        };
        by = subst (λ (w : HeldWorld). WalksBy first.steps before w) (sym same) so_far.by;
        told = tells ∙ ap (λ xs. xs ++ tells_fault number fault) (silent ∙ so_far.told) ∙ append_assoc said first.said (tells_fault number fault);
      }

-- what is told of bytes that are left
pub left_some : (number : ℕ) (xs ys : List ℕ) → 0 < length xs + length ys → tells_left number (xs ++ ys) ≡ saying.AfterClose number ∷ []
left_some number [] [] some = absurd (omega (arith, some))
left_some number [] (y ∷ ys) some = refl
left_some number (x ∷ xs) ys some = refl

pub left_none : (number : ℕ) (xs ys : List ℕ) → length xs + length ys ≡ 0 → tells_left number (xs ++ ys) ≡ []
left_none number [] [] none = refl
left_none number [] (y ∷ ys) none = absurd (omega (arith, none))
left_none number (x ∷ xs) ys none = absurd (omega (arith, none))

-- ---- one turn

source_stop : (e : WireFault) (before now : ℕ) → SourceCause {T = Request} before now (Err e) → SourceStop (Some e) before now
source_stop fault.Source before now cause = cause.1
source_stop other before now cause = cause

-- no request can be read of bytes in memory
pub is_stopped : (left left' taken : List ℕ) (old new : Held) (e : WireFault) → old.fault ≡ None → OnStream old.fault (prepend_known old.kept (Some left)) (prepend_known new.kept (Some left')) (Err e)
    → NextGives old taken new (Some left') (Err e) → SourceCause {T = Request} 0 0 (Err e) → IsStopped (bytes_left left) (bytes_left left') old.kept new.kept e
is_stopped left left' taken old new e fresh stream gives cause =
    let fails = subst (λ (f : Option WireFault). MatchOption f (Fails e (old.kept ++ taken) new (Some left')) (λ known. FailsAgain known e taken old new)) fresh gives in
    record {
      read = subst (λ (f : Option WireFault). OnStream f (prepend_known old.kept (Some left)) (prepend_known new.kept (Some left')) (Err e)) fresh stream;
      cause = subst (λ (kept : List ℕ). Causes e kept (Some left')) (sym fails.kept) fails.cause;
      source = source_stop e 0 0 cause;
      written = refl;
      sink = refl;
    }
