-- A stream as far as it was served.
use Rattle.std.proofs.Common.{◌≡◌, inl, inr, ℕ, ℤ, ◌+◌, ◌-◌, ◌^◌, min, true, false, List, [], ◌∷◌, ◌++◌, length, Option}
use Rattle.std.proofs.Common.{refl, sym, ap, ◌∙◌, subst, arith}
use Rattle.std.proofs.lemmas.List.{append-nil, map-append}
use Rattle.std.proofs.lemmas.List.Concat.{flat_map-append}
use Rattle.std.specs.Io.KnownBytes.{Appends}
use Rattle.http_wire.specs.Replies.{reply_text}
use Rattle.http_wire.specs.declared.fault.WireFault.{WireFault}
use Rattle.hub_spec.specs.requests.Requests.{wanted_by}
use Rattle.hub_spec.specs.rules.Runs.{Replied, Runs, Step, Steps, Take, end_of}
use Rattle.keeper_memory.specs.Kept.{KeptState}
use Rattle.outside_ports.specs.Written.{AppendsPart}
use Rattle.rest_provider.proofs.EndsProgress.{Progress as IsSoFar, begins as wire_begins, breaks_off as wire_breaks}
use Rattle.rest_provider.proofs.EndsProgress.{closes_at as wire_closes, goes_on as wire_goes, stops_at as wire_stops}
use Rattle.rest_provider.proofs.EndsProgress.{wants_memory as wire_wants}
use Rattle.rest_provider.specs.Ends.{EndsBy, IsStopped, TellsStop, sink_state}
use Rattle.rest_provider.specs.Exchanges.{AreAt, AreStepsOf, CountsFailures, Exchange, IsStepOf, TakesAll, TakesInTurn}
use Rattle.rest_provider.specs.Exchanges.{replies_text, requests_of}
use Rattle.rest_provider.specs.Moments.{IsMomentOf}
use Rattle.rest_provider.specs.Steps.{CountsFailed, TakesRequest}
use Rattle.rest_provider.specs.Streams.{ComesFrom, Serves, Stage}
use Rattle.rest_provider.specs.Turns.{IsIdle, IsTaken}
use Rattle.rest_provider.specs.declared.stream_end.StreamEnd.{StreamEnd}
use Rattle.rest_provider.specs.declared.stream_end.StreamEnd.TheVariants as end
use Rattle.roster_base.specs.Faults.{Rose}
use Rattle.version_core.proofs.VersionLemmas.{AllByRecursion-push}
use Rattle.version_core.specs.HubStates.{HubState}

-- ---- one exchange more

requests_more : (xs : List Exchange) (e : Exchange) → requests_of (xs ++ e ∷ []) ≡ requests_of xs ++ e.request ∷ []
requests_more xs e = map-append (λ (x : Exchange). x.request) xs (e ∷ [])

text_more : (xs : List Exchange) (e : Exchange) → replies_text (xs ++ e ∷ []) ≡ replies_text xs ++ reply_text e.reply
text_more xs e =
    flat_map-append (λ (x : Exchange). reply_text x.reply) xs (e ∷ []) ∙ ap (λ (bs : List ℕ). replies_text xs ++ bs) (append-nil (reply_text e.reply))

-- ---- one step more

steps_more : (xs : List Exchange) (e : Exchange) (steps : List Step) (step : Step) → AreStepsOf xs steps → IsStepOf e step → AreStepsOf (xs ++ e ∷ []) (steps ++ step ∷ [])
steps_more [] e steps step are is = subst (λ (ss : List Step). AreStepsOf (e ∷ []) (ss ++ step ∷ [])) (sym are) (is, refl)
steps_more (x ∷ xs) e [] step are is = absurd are
steps_more (x ∷ xs) e (s ∷ steps) step (one, are) is = (one, steps_more xs e steps step are is)

runs_more : (before : HubState) (steps : List Step) (f g : ℕ) (new : Step) → Runs before steps f → Steps new.command (end_of before steps) new.answer new.after g
    → Runs before (steps ++ new ∷ []) (f + g)
runs_more before [] f g new run step = (g, 0, step, omega arith, tt)
runs_more before (s ∷ steps) f g new (failed, rest, one, within, run) step = (failed, rest + g, one, omega arith, runs_more s.after steps rest g new run step)

ends_more : (before : HubState) (steps : List Step) (new : Step) → end_of before (steps ++ new ∷ []) ≡ new.after
ends_more before [] new = refl
ends_more before (s ∷ steps) new = ends_more s.after steps new

run_more : (xs : List Exchange) (e : Exchange) (f g : ℕ) (state mid next : HubState) → TakesInTurn xs f state mid → Steps (Take (wanted_by e.request) e.at) mid (Replied e.reply) next g
    → TakesInTurn (xs ++ e ∷ []) (f + g) state next
run_more xs e f g state mid next run step =
    let new : Step = record { command = Take (wanted_by e.request) e.at; answer = Replied e.reply; after = next } in
    record {
      steps = run.steps ++ new ∷ [];
      are = steps_more xs e run.steps new run.are (record { command = refl; answer = refl });
      run = runs_more state run.steps f g new run.run (subst (λ (s : HubState). Steps (Take (wanted_by e.request) e.at) s (Replied e.reply) next g) (sym run.end) step);
      end = ends_more state run.steps new;
    }

takes_more : (xs : List Exchange) (e : Exchange) (f g : ℕ) (kept mid after : KeptState) → TakesAll xs f kept mid → TakesRequest e.request e.at e.reply mid after g
    → TakesAll (xs ++ e ∷ []) (f + g) kept after
takes_more xs e f g kept mid after first last = λ state is part.
    let (m, is_m, holds_m, part_m, run) = first state is part in
    let (n, is_n, holds_n, part_n, step) = last m is_m part_m in
    (n, is_n, (λ hub. holds_n (holds_m hub)), part_n, run_more xs e f g state m n run step)

comes_more : (before mid now : Stage) (xs : List Exchange) (e : Exchange) (f g : ℕ) → ComesFrom before mid (TakesAll xs f)
    → ComesFrom mid now (λ kept after. TakesRequest e.request e.at e.reply kept after g) → ComesFrom before now (TakesAll (xs ++ e ∷ []) (f + g))
comes_more before mid now xs e f g first last = λ after stands.
    let (m, m_stands, m_told, step) = last after stands in
    let (kept, kept_stands, told, run) = first m m_stands in
    (kept, kept_stands, (λ x. told (m_told x)), takes_more xs e f g kept m after run step)

comes_same : (before mid now : Stage) (leads : KeptState → KeptState → Type 0) → ComesFrom before mid leads → ComesFrom mid now (λ kept after. after ≡ kept) → ComesFrom before now leads
comes_same before mid now leads first last = λ after stands.
    let (m, m_stands, m_told, same) = last after stands in
    let (kept, kept_stands, told, run) = first m m_stands in
    (kept, kept_stands, (λ x. told (m_told x)), subst (λ (k : KeptState). leads kept k) (sym same) run)

counts_more : (before mid now f g : ℕ) → CountsFailures before mid f → CountsFailed mid now g → CountsFailures before now (f + g)
counts_more before mid now f g (inl (none, same)) (inl (none', same')) = inl (omega arith, omega arith)
counts_more before mid now f g (inl (none, same)) (inr (one, rose)) = inr (omega arith)
counts_more before mid now f g (inr rose) (inl (none', same')) = inr (omega arith)
counts_more before mid now f g (inr rose) (inr (one, rose')) = inr (omega arith)

-- ---- the invariant

-- the requests so far were answered, none of them closes the stream, and these bytes are kept behind them
pub record Progress (before now : Stage) (kept : List ℕ) (moment : Option ℤ) (answered : ℕ) : Type 0 where
  pub exchanges : List Exchange
  pub moments : AreAt moment exchanges
  pub failed : ℕ
  pub count : CountsFailures before.keeper_faults now.keeper_faults failed
  pub told : ComesFrom before now (TakesAll exchanges failed)
  pub wire : IsSoFar before.ends now.ends kept (requests_of exchanges) (replies_text exchanges) answered

pub begins : (before : Stage) (kept : List ℕ) (moment : Option ℤ) → kept ≡ [] → Progress before before kept moment 0
begins before kept moment none = record {
  exchanges = [];
  moments = tt;
  failed = 0;
  count = inl (refl, refl);
  told = λ after stands. (after, stands, (λ x. x), (λ state is part. (state, is, (λ hub. hub), part, record { steps = []; are = refl; run = tt; end = refl })));
  wire = wire_begins before.ends kept none;
}

-- memory ran out before anything was read
pub wants_memory : (before : Stage) (moment : Option ℤ) → Serves before before moment end.NoMemory
unfolding begins
wants_memory before moment =
    let start = begins before [] moment refl in
    record { exchanges = []; moments = start.moments; failed = 0; count = start.count; told = start.told; ends = wire_wants before.ends }

module _ (before mid now : Stage) (kept kept' : List ℕ) (moment : Option ℤ) (answered : ℕ) (so_far : Progress before mid kept moment answered) where
  abbrev pub xs : List Exchange
  xs = so_far.exchanges

  module _ (e : Exchange) (taken : IsTaken mid now kept kept' moment e) where
    abbrev pub all : List Exchange
    all = xs ++ e ∷ []

    abbrev pub failures : ℕ
    failures = so_far.failed + taken.answered.failed

    moments : AreAt moment all
    moments = AllByRecursion-push (λ (x : Exchange). IsMomentOf moment x.at) xs e so_far.moments taken.answered.at

    count : CountsFailures before.keeper_faults now.keeper_faults failures
    count = counts_more before.keeper_faults mid.keeper_faults now.keeper_faults so_far.failed taken.answered.failed so_far.count taken.answered.count

    told : ComesFrom before now (TakesAll all failures)
    told = comes_more before mid now xs e so_far.failed taken.answered.failed so_far.told taken.answered.told

    served : (result : StreamEnd) → EndsBy before.ends now.ends (requests_of xs ++ e.request ∷ []) (replies_text xs ++ reply_text e.reply) result → Serves before now moment result
    served result ends = record {
      exchanges = all;
      moments = moments;
      failed = failures;
      count = count;
      told = told;
      ends = rw (requests_more xs e, text_more xs e) ends;
    }

    -- a reply was written, and the stream stays open
    pub goes_on : (answered' : ℕ) → answered' ≡ min (answered + 1) (2 ^ 64 - 1) → e.request.close ≡ false → Appends mid.ends.written now.ends.written (reply_text e.reply)
        → now.ends.sink_faults ≡ mid.ends.sink_faults → Progress before now kept' moment answered'
    goes_on answered' next stays writes sink = record {
      exchanges = all;
      moments = moments;
      failed = failures;
      count = count;
      told = told;
      wire = rw (requests_more xs e, text_more xs e)
          (wire_goes before.ends mid.ends now.ends kept kept' (requests_of xs) (replies_text xs) answered so_far.wire e.request (reply_text e.reply) taken.read answered' next stays writes sink);
    }

    -- a reply was written to a request that closes the stream
    pub closes_at : e.request.close ≡ true → Appends mid.ends.written now.ends.written (reply_text e.reply) → now.ends.sink_faults ≡ mid.ends.sink_faults
        → Serves before now moment (end.Closed (min (answered + 1) (2 ^ 64 - 1)) (length kept'))
    closes_at closes writes sink = served (end.Closed (min (answered + 1) (2 ^ 64 - 1)) (length kept'))
        (wire_closes before.ends mid.ends now.ends kept kept' (requests_of xs) (replies_text xs) answered so_far.wire e.request (reply_text e.reply) taken.read closes writes sink)

    -- the sink failed at a reply
    pub breaks_off : AppendsPart mid.ends.written now.ends.written (reply_text e.reply) → Rose mid.ends.sink_faults now.ends.sink_faults → Serves before now moment end.Sink
    breaks_off writes rose = served end.Sink
        (wire_breaks before.ends mid.ends now.ends kept kept' (requests_of xs) (replies_text xs) answered so_far.wire e.request (reply_text e.reply) taken.read writes rose)

  -- a fault stopped the reading, and was told
  module _ (e : WireFault) (stopped : IsStopped mid.ends now.ends kept kept' e) (idle : IsIdle mid now) (written : Option (List ℕ)) (sink_faults : ℕ) where
    abbrev pub last : Stage
    last = record now { ends = record now.ends { written = written; sink_faults = sink_faults } }

    pub stops_at : (result : StreamEnd)
        → TellsStop (sink_state now.ends.written now.ends.sink_faults) (sink_state written sink_faults) e
        (length (requests_of xs)) (length kept') result
        → Serves before last moment result
    stops_at result tells = record {
      exchanges = xs;
      moments = so_far.moments;
      failed = so_far.failed;
      count = subst (λ (n : ℕ). CountsFailures before.keeper_faults n so_far.failed) (sym idle.keeper) so_far.count;
      told = comes_same before mid now (TakesAll xs so_far.failed) so_far.told idle.told;
      ends = wire_stops before.ends mid.ends now.ends kept kept' (requests_of xs) (replies_text xs) answered so_far.wire e stopped written sink_faults result tells;
    }
