-- A connection as far as it was served.
use Rattle.std.proofs.Common.{◌≡◌, ℕ, ◌+◌, ◌-◌, ◌^◌, min, true, false, List, [], ◌∷◌, ◌++◌, length, Option, refl, sym}
use Rattle.std.proofs.Common.{ap, ◌∙◌, subst}
use Rattle.std.proofs.lemmas.List.{append-nil, map-append}
use Rattle.std.proofs.lemmas.List.Concat.{flat_map-append}
use Rattle.std.specs.Io.KnownBytes.{Appends}
use Rattle.http_wire.specs.Replies.{reply_text}
use Rattle.http_wire.specs.declared.fault.WireFault.{WireFault}
use Rattle.outside_ports.specs.Written.{AppendsPart}
use Rattle.rest_provider.proofs.EndsProgress.{Progress, begins as wire_begins, breaks_off as wire_breaks}
use Rattle.rest_provider.proofs.EndsProgress.{closes_at as wire_closes, goes_on as wire_goes, stops_at as wire_stops}
use Rattle.rest_provider.proofs.EndsProgress.{wants_memory as wire_wants}
use Rattle.rest_provider.specs.Ends.{Ends, IsStopped, TellsStop, sink_state}
use Rattle.rest_provider.specs.declared.stream_end.StreamEnd.{StreamEnd}
use Rattle.rest_provider.specs.declared.stream_end.StreamEnd.TheVariants as end
use Rattle.roster_base.specs.Faults.{Rose}
use Rattle.status_info.specs.declared.reply.Reply.{Reply}
use Rattle.status_info.specs.declared.request.Request.{Request}
use Rattle.hub_shared.specs.Serving.{All, Connection, Exchange, IsTaken, Serves, connection, replies_text, requests_of}

requests_more : (xs : List Exchange) (e : Exchange) → requests_of (xs ++ e ∷ []) ≡ requests_of xs ++ e.request ∷ []
requests_more xs e = map-append (λ (x : Exchange). x.request) xs (e ∷ [])

text_more : (xs : List Exchange) (e : Exchange) → replies_text (xs ++ e ∷ []) ≡ replies_text xs ++ reply_text e.reply
text_more xs e =
    flat_map-append (λ (x : Exchange). reply_text x.reply) xs (e ∷ []) ∙ ap (λ (bs : List ℕ). replies_text xs ++ bs) (append-nil (reply_text e.reply))

module _ {V : Type 0} (takes : Request → Reply → V → V → Type 0) where
  all_more : (xs : List Exchange) (e : Exchange) (before mid now : V) → All takes xs before mid → takes e.request e.reply mid now → All takes (xs ++ e ∷ []) before now
  all_more [] e before mid now all one = (now, subst (λ (v : V). takes e.request e.reply v now) all one, refl)
  all_more (x ∷ xs) e before mid now (v, first, all) one = (v, first, all_more xs e v mid now all one)

  -- so far the requests were answered, and none closes the connection
  pub record SoFar (before : Ends) (first : V) (now : Connection V) (answered : ℕ) : Type 0 where
    pub exchanges : List Exchange
    pub all : All takes exchanges first now.value
    pub wire : Progress before now.ends now.kept (requests_of exchanges) (replies_text exchanges) answered

  pub starts : (before : Ends) (kept : List ℕ) (value : V) → kept ≡ []
      → SoFar before value (connection before kept value) 0
  starts before kept value none = record { exchanges = []; all = refl; wire = wire_begins before kept none }

  pub wants_memory : (before : Ends) (value : V) → Serves takes before before value value end.NoMemory
  wants_memory before value = record { exchanges = []; answered = refl; ends = wire_wants before }

  module _ (before : Ends) (first : V) (mid now : Connection V) (answered : ℕ) (so_far : SoFar before first mid answered) where
    abbrev pub xs : List Exchange
    xs = so_far.exchanges

    module _ (e : Exchange) (taken : IsTaken takes mid now e) where
      all_now : All takes (xs ++ e ∷ []) first now.value
      all_now = all_more xs e first mid.value now.value so_far.all taken.taken

      pub goes_on : (answered' : ℕ) → answered' ≡ min (answered + 1) (2 ^ 64 - 1) → e.request.close ≡ false
          → Appends mid.ends.written now.ends.written (reply_text e.reply) → now.ends.sink_faults ≡ mid.ends.sink_faults
          → SoFar before first now answered'
      goes_on answered' next stays writes sink = record {
        exchanges = xs ++ e ∷ [];
        all = all_now;
        wire = rw (requests_more xs e, text_more xs e)
            (wire_goes before mid.ends now.ends mid.kept now.kept (requests_of xs) (replies_text xs) answered so_far.wire
            e.request (reply_text e.reply) taken.read answered' next stays writes sink);
      }

      pub closes_at : e.request.close ≡ true → Appends mid.ends.written now.ends.written (reply_text e.reply)
          → now.ends.sink_faults ≡ mid.ends.sink_faults
          → Serves takes before now.ends first now.value (end.Closed (min (answered + 1) (2 ^ 64 - 1)) (length now.kept))
      closes_at closes writes sink = record {
        exchanges = xs ++ e ∷ [];
        answered = all_now;
        ends = rw (requests_more xs e, text_more xs e)
            (wire_closes before mid.ends now.ends mid.kept now.kept (requests_of xs) (replies_text xs) answered so_far.wire
            e.request (reply_text e.reply) taken.read closes writes sink);
      }

      pub breaks_off : AppendsPart mid.ends.written now.ends.written (reply_text e.reply)
          → Rose mid.ends.sink_faults now.ends.sink_faults → Serves takes before now.ends first now.value end.Sink
      breaks_off writes rose = record {
        exchanges = xs ++ e ∷ [];
        answered = all_now;
        ends = rw (requests_more xs e, text_more xs e)
            (wire_breaks before mid.ends now.ends mid.kept now.kept (requests_of xs) (replies_text xs) answered so_far.wire
            e.request (reply_text e.reply) taken.read writes rose);
      }

    pub stops_at : (e : WireFault) → IsStopped mid.ends now.ends mid.kept now.kept e → now.value ≡ mid.value
        → (written : Option (List ℕ)) (sink_faults : ℕ) (result : StreamEnd)
        → TellsStop (sink_state now.ends.written now.ends.sink_faults) (sink_state written sink_faults) e
        (length (requests_of xs)) (length now.kept) result
        → Serves takes before (record now.ends { written = written; sink_faults = sink_faults }) first now.value result
    stops_at e stopped same written sink_faults result tells = record {
      exchanges = xs;
      answered = subst (λ (v : V). All takes xs first v) (sym same) so_far.all;
      ends = wire_stops before mid.ends now.ends mid.kept now.kept (requests_of xs) (replies_text xs) answered so_far.wire e
          stopped written sink_faults result tells;
    }
