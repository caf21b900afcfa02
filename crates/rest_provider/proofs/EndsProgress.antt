-- A stream as far as it was read and written to.
use Rattle.std.proofs.Common.{◌≡◌, inl, inr, ℕ, ◌+◌, ◌-◌, ◌^◌, min, Bool, true, false, List, [], ◌∷◌, ◌++◌, length}
use Rattle.std.proofs.Common.{length-append, Option, Some, None, Ok, Err, refl, sym, ap, ◌∙◌, subst, arith}
use Rattle.std.specs.Prelude.{MatchBool}
use Rattle.std.proofs.lemmas.List.{append-nil}
use Rattle.std.specs.Io.KnownBytes.{Appends, prepend_known}
use Rattle.http_wire.proofs.RunLemmas.{Continues, closes_behind, continues_more, continues_none, fails_behind}
use Rattle.http_wire.proofs.RunLemmas.{stops_behind}
use Rattle.http_wire.specs.Reading.{AreFirst, AreRequests, BeginsWith, OnStream}
use Rattle.http_wire.specs.declared.fault.WireFault.{WireFault}
use Rattle.http_wire.specs.declared.fault.WireFault.TheVariants as fault
use Rattle.outside_ports.proofs.Appending.{appends_both, appends_none, part_behind}
use Rattle.outside_ports.specs.Written.{AppendsPart}
use Rattle.rest_provider.specs.Ends.{AreTaken, Ends, EndsBy, IsRead, IsStopped, SourceStop, StandFirst, StayOpen}
use Rattle.rest_provider.specs.Ends.{TellsStop, counted, fault_text, sink_state}
use Rattle.rest_provider.specs.declared.stream_end.StreamEnd.{StreamEnd}
use Rattle.rest_provider.specs.declared.stream_end.StreamEnd.TheVariants as end
use Rattle.roster_base.specs.Faults.{Rose}
use Rattle.status_info.specs.declared.request.Request.{Request}
use Rattle.version_core.proofs.VersionLemmas.{AllByRecursion-push}

-- ---- what was taken of the stream

pub first_taken : (stream mid : List ℕ) (xs : List Request) → AreFirst stream xs mid → StandFirst stream xs mid
first_taken stream mid [] first = first
first_taken stream mid (x ∷ xs) (after, begins, stays, first) = (after, begins, (λ closes. absurd (cc (stays, closes))), first_taken after mid xs first)

stand_more : (stream mid rest : List ℕ) (xs : List Request) (r : Request) → AreFirst stream xs mid → BeginsWith mid r rest → StandFirst stream (xs ++ r ∷ []) rest
stand_more stream mid rest [] r first begins = (rest, subst (λ (bytes : List ℕ). BeginsWith bytes r rest) first begins, (λ closes. refl), refl)
stand_more stream mid rest (x ∷ xs) r (after, begins, stays, first) last = (after, begins, (λ closes. absurd (cc (stays, closes))), stand_more after mid rest xs r first last)

taken_more : (stream mid rest : Option (List ℕ)) (xs : List Request) (r : Request) → Continues stream mid xs → OnStream None mid rest (Ok r) → AreTaken stream rest (xs ++ r ∷ [])
taken_more None mid rest xs r first last = tt
taken_more (Some stream) None rest xs r first last = absurd first
taken_more (Some stream) (Some mid) None xs r first last = absurd last
taken_more (Some stream) (Some mid) (Some rest) xs r first last = stand_more stream mid rest xs r first last

taken_then : (stream mid rest : Option (List ℕ)) (xs : List Request) (e : WireFault) → Continues stream mid xs → OnStream None mid rest (Err e) → AreTaken stream rest xs
taken_then None mid rest xs e first last = tt
taken_then (Some stream) None rest xs e first last = absurd first
taken_then (Some stream) (Some mid) None xs e first last = absurd last
taken_then (Some stream) (Some mid) (Some rest) xs e first (same, none) = subst (λ (bytes : List ℕ). StandFirst stream xs bytes) (sym same) (first_taken stream mid xs first)

-- all requests of some bytes are the first
closes_or_not : (rest after : List ℕ) (x : Request) (xs : List Request) (b : Bool) → x.close ≡ b → (AreRequests after xs rest → StandFirst after xs rest)
    → MatchBool b ((xs ≡ []) × (rest ≡ after)) (AreRequests after xs rest) → (x.close ≡ true → xs ≡ []) × StandFirst after xs rest
closes_or_not rest after x xs true is stand (none, same) = ((λ closes. none), subst (λ (rs : List Request). StandFirst after rs rest) (sym none) same)
closes_or_not rest after x xs false is stand are = ((λ closes. absurd (cc (is, closes))), stand are)

pub requests_stand : (bytes rest : List ℕ) (xs : List Request) → AreRequests bytes xs rest → StandFirst bytes xs rest
requests_stand bytes rest [] (none, same) = same
requests_stand bytes rest (x ∷ xs) (after, begins, behind) =
    let both = closes_or_not rest after x xs x.close refl (requests_stand after rest xs) behind in
    (after, begins, both.0, both.1)

none_kept : (left : Option (List ℕ)) (kept : List ℕ) → kept ≡ [] → prepend_known kept left ≡ left
none_kept None kept none = refl
none_kept (Some xs) kept none = rw none refl

-- ---- the invariant

-- these requests were read and answered, by this text, none of them closes the stream, and these bytes are kept behind
-- them
pub record Progress (before now : Ends) (kept : List ℕ) (requests : List Request) (text : List ℕ) (answered : ℕ) : Type 0 where
  pub read : Continues before.left (prepend_known kept now.left) requests
  pub stay : StayOpen requests
  pub source : now.source_faults ≡ before.source_faults
  pub written : Appends before.written now.written text
  pub sink : now.sink_faults ≡ before.sink_faults
  pub number : answered ≡ counted (length requests)

pub begins : (before : Ends) (kept : List ℕ) → kept ≡ [] → Progress before before kept [] [] 0
begins before kept none = record {
  read = subst (λ (rest : Option (List ℕ)). Continues before.left rest []) (sym (none_kept before.left kept none)) (continues_none before.left);
  stay = tt;
  source = refl;
  written = appends_none before.written;
  sink = refl;
  number = refl;
}

-- memory ran out before anything was read
pub wants_memory : (before : Ends) → EndsBy before before [] [] end.NoMemory
unfolding begins
wants_memory before =
    let start = begins before [] refl in
    inl (
      Some fault.NoMemory,
      [],
      record {
        read = stops_behind before.left (prepend_known [] before.left) [] fault.NoMemory refl start.read;
        stops = tt;
        cause = tt;
        source = refl;
        written = appends_none before.written;
        sink = refl;
      },
      refl,
    )

module _ (before mid now : Ends) (kept kept' : List ℕ) (requests : List Request) (text : List ℕ) (answered : ℕ) (so_far : Progress before mid kept requests text answered) where
  module _ (request : Request) (more : List ℕ) (taken : IsRead mid now kept kept' request) where
    abbrev pub all : List Request
    all = requests ++ request ∷ []

    source : now.source_faults ≡ before.source_faults
    source = taken.source ∙ so_far.source

    longer : length all ≡ length requests + 1
    longer = length-append requests (request ∷ [])

    -- a reply was written, and the stream stays open
    pub goes_on : (answered' : ℕ) → answered' ≡ min (answered + 1) (2 ^ 64 - 1) → request.close ≡ false → Appends mid.written now.written more → now.sink_faults ≡ mid.sink_faults
        → Progress before now kept' all (text ++ more) answered'
    goes_on answered' next stays writes sink = record {
      read = continues_more None before.left (prepend_known kept mid.left) (prepend_known kept' now.left) requests request so_far.read taken.read stays;
      stay = AllByRecursion-push (λ (r : Request). r.close ≡ false) requests request so_far.stay stays;
      source = source;
      written = appends_both before.written mid.written now.written text more so_far.written writes;
      sink = sink ∙ so_far.sink;
      number = rw longer (omega (arith, next, so_far.number));
    }

    -- a reply was written to a request that closes the stream
    pub closes_at : request.close ≡ true → Appends mid.written now.written more → now.sink_faults ≡ mid.sink_faults
        → EndsBy before now all (text ++ more) (end.Closed (min (answered + 1) (2 ^ 64 - 1)) (length kept'))
    closes_at closes writes sink =
        let same : min (answered + 1) (2 ^ 64 - 1) ≡ counted (length all) = rw longer (omega (arith, so_far.number)) in
        inl (
          None,
          kept',
          record {
            read = closes_behind None before.left (prepend_known kept mid.left) (prepend_known kept' now.left) requests request so_far.read taken.read closes;
            stops = record { earlier = requests; last = request; are = refl; stay = so_far.stay; closes = closes };
            cause = tt;
            source = source;
            written = rw (append-nil (text ++ more)) (appends_both before.written mid.written now.written text more so_far.written writes);
            sink = sink ∙ so_far.sink;
          },
          ap (λ (n : ℕ). end.Closed n (length kept')) same,
        )

    -- the sink failed at a reply
    pub breaks_off : AppendsPart mid.written now.written more → Rose mid.sink_faults now.sink_faults → EndsBy before now all (text ++ more) end.Sink
    breaks_off writes rose = inr (
      record {
        kept = kept';
        more = [];
        taken = taken_more before.left (prepend_known kept mid.left) (prepend_known kept' now.left) requests request so_far.read taken.read;
        follows = inl refl;
        written = rw (append-nil (text ++ more)) (part_behind before.written mid.written now.written text more so_far.written writes);
        failed = subst (λ (n : ℕ). Rose n now.sink_faults) so_far.sink rose;
      },
      refl,
    )

  -- a fault stopped the reading, and was told
  module _ (e : WireFault) (stopped : IsStopped mid now kept kept' e) (written : Option (List ℕ)) (sink_faults : ℕ) where
    abbrev pub last : Ends
    last = record now { written = written; sink_faults = sink_faults }

    pub stops_at : (result : StreamEnd)
        → TellsStop (sink_state now.written now.sink_faults) (sink_state written sink_faults) e (length requests) (length kept') result
        → EndsBy before last requests text result
    stops_at result (inl (writes, sink, is)) = inl (
      Some e,
      kept',
      record {
        read = fails_behind None refl before.left (prepend_known kept mid.left) (prepend_known kept' now.left) requests e so_far.read stopped.read;
        stops = so_far.stay;
        cause = stopped.cause;
        source = subst (λ (n : ℕ). SourceStop (Some e) n now.source_faults) so_far.source stopped.source;
        written = appends_both before.written now.written written text (fault_text e) (subst (λ (w : Option (List ℕ)). Appends before.written w text) (sym stopped.written) so_far.written) writes;
        sink = sink ∙ stopped.sink ∙ so_far.sink;
      },
      is,
    )
    stops_at result (inr (writes, rose, is)) = inr (
      record {
        kept = kept';
        more = fault_text e;
        taken = taken_then before.left (prepend_known kept mid.left) (prepend_known kept' now.left) requests e so_far.read stopped.read;
        follows = inr (e, stopped.cause, refl);
        written = part_behind before.written now.written written text (fault_text e) (subst (λ (w : Option (List ℕ)). Appends before.written w text) (sym stopped.written) so_far.written) writes;
        failed = subst (λ (n : ℕ). Rose n sink_faults) (stopped.sink ∙ so_far.sink) rose;
      },
      is,
    )
