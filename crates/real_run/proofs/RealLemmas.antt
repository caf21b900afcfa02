-- Answers over the real folder and clock, from answers over a keeper.
use Rattle.std.proofs.Common.{◌≡◌, ◌≢◌, ℕ, ℤ, List, [], ◌∷◌, Option, None, Some, Result, Ok, Err, IfNone, IsErr, IsSome}
use Rattle.std.proofs.Common.{refl, sym, ◌∙◌, ap, subst, inl, inr, arith}
use Rattle.std.specs.Io.KnownBytes.{Appends}
use Rattle.std.specs.Bool.{⊤}
use Rattle.consumer_deltas.specs.DeltaAnswers.{HasBase}
use Rattle.consumer_deltas.specs.DeltaCalls.{AsksDeltas}
use Rattle.consumer_deltas.specs.DeltaCauses.{DeltaCause, DeltaCaused}
use Rattle.consumer_deltas.specs.DeltaCauses.DeltaCause.{Broke as BrokeBeside, Halted, OutOfRuns, Swapped, Unbased}
use Rattle.consumer_deltas.specs.DeltaCauses.DeltaCause.{Wants as WantsAlone}
use Rattle.consumer_deltas.specs.DeltaFilling.{Halts}
use Rattle.consumer_deltas.specs.DeltaFilling.Halts.{Broke, Merging, Stopped, Wants as WantsBeside}
use Rattle.consumer_deltas.specs.DeltaJudging.{Sofar}
use Rattle.consumer_deltas.specs.DeltaMerging.{Unmerged}
use Rattle.consumer_deltas.specs.DeltaMerging.Unmerged.{Broke as Broken, TooMany as OverLimit, Wants as Wanting}
use Rattle.consumer_deltas.specs.declared.answer.DeltaAnswer.{DeltaAnswer}
use Rattle.consumer_deltas.specs.declared.judging.Place.{Place}
use Rattle.hub_cascade.specs.Answers.{MakesCascade}
use Rattle.hub_cascade.specs.Held.{CascadesHeld, HoldSomething}
use Rattle.hub_cascade.specs.declared.error.CascadeError.{CascadeError}
use Rattle.hub_cascade.specs.declared.error.CascadeError.TheVariants as cascade_error
use Rattle.hub_cli.specs.Below.Catching.{AsksFromHeld, FirstIs, MayCatchUp}
use Rattle.hub_cli.specs.Below.Missed.{Missed}
use Rattle.hub_cli.specs.Below.Missed.TheVariants as miss
use Rattle.hub_core.specs.Steps.{MakesNext}
use Rattle.hub_core.specs.declared.hub_error.HubError.{HubError}
use Rattle.hub_core.specs.declared.hub_error.HubError.TheVariants as hub_error
use Rattle.hub_core.specs.declared.published.Published.{Published}
use Rattle.hub_core.specs.declared.published.Published.TheVariants as published
use Rattle.hub_cli.specs.Below.CascadeAnswers.{CascadesCopy, IsCascadeAnswer, TellsCascade, cascade_run}
use Rattle.version_changes.specs.sets.Applying.{Outcome}
use Rattle.version_core.specs.declared.change.BaseVersion.{BaseVersion}
use Rattle.hub_cli.specs.Below.ConsumerAnswers.{CopyRun, IsDeltaOf, IsSyncOf, LinkRun, Task, copy_run}
use Rattle.hub_cli.specs.Below.OutboxAnswers.{IsEnterOf, IsSendOf, Sending}
use Rattle.keeper_memory.specs.copy.Copies.{Copy, IsCopy}
use Rattle.keeper_memory.specs.copy.HeldCopy.{HeldCopy, empty_copy}
use Rattle.exchange_link.specs.Asked.{AsksPages, AsksWrites}
use Rattle.exchange_link.specs.Between.{Call, CopyAndLink, FromBoth, copy_since, copy_with, link_since}
use Rattle.exchange_link.specs.Causes.{Caused}
use Rattle.exchange_link.specs.Exchanges.{LinkState}
use Rattle.exchange_link.specs.Pairs.{AtEach}
use Rattle.exchange_link.specs.SendCauses.{SendCaused}
use Rattle.exchange_link.specs.declared.answer.SyncAnswer.{SyncAnswer}
use Rattle.exchange_link.specs.declared.send_answer.EnterError.{EnterError}
use Rattle.exchange_link.specs.declared.send_answer.SendAnswer.{SendAnswer}
use Rattle.version_core.specs.declared.mark.Write.{Write}
use Rattle.keeper_memory.proofs.KeptLemmas.{no_versions}
use Rattle.keeper_memory.specs.Failures.{FailurePlan, planned}
use Rattle.keeper_memory.specs.Kept.{IsKept, KeptState}
use Rattle.version_core.proofs.MarkLemmas.{no_marks}
use Rattle.outside_ports.specs.Written.{AppendsPart}
use Rattle.status_info.specs.declared.request.Request.{Request}
use Rattle.roster_base.specs.Faults.{Rose}
use Rattle.roster_values.specs.declared.kind.Kind.{Kind}
use Rattle.hub_cli.proofs.Below.Telling.{told_count, told_done, told_part}
use Rattle.hub_cli.specs.Below.Answers.{status_of, text_of}
use Rattle.hub_cli.specs.Below.ConsumerAnswers.{CopyStays, IsListAnswer}
use Rattle.hub_cli.specs.Below.ExportAnswers.{ExportEnds, HasTooMany, IsChangesExport, IsExport, IsSinceAnswer}
use Rattle.hub_cli.specs.Below.ExportAnswers.{RefusesExport, rows_in}
use Rattle.hub_cli.specs.Below.FollowAnswers.{IsCaughtUp, IsFollowAnswer, MissCause, MissTold, TellsFollow}
use Rattle.hub_cli.specs.Below.OutboxAnswers.{IsOutboxAnswer}
use Rattle.hub_cli.specs.Below.Outside.{Faults, Outside, faults_of, outside_of}
use Rattle.hub_cli.specs.Below.Runs.{LeadsFrom, Writes}
use Rattle.hub_cli.specs.Runs.{ConsumerRests, IsAnswer, IsCommandAnswer}
use Rattle.hub_words.specs.Words.{keep_in, store_in}
use Rattle.hub_cli.specs.Below.Answer.{Answer}
use Rattle.hub_cli.specs.Below.End.{End}
use Rattle.hub_cli.specs.Below.End.TheVariants as ends
use Rattle.hub_words.specs.declared.words.Command.{Command}
use Rattle.hub_words.specs.declared.words.Command.TheVariants.{Cascade, Enter, Export, ExportManifest, ExportSince}
use Rattle.hub_words.specs.declared.words.Command.TheVariants.{Follow, ListHeld, Make, Outbox, Rehearse}
use Rattle.hub_words.specs.declared.words.Command.TheVariants.{Send, Show, Sync, SyncDelta}
use Rattle.hub_words.specs.declared.words.Parsed.{Parsed}
use Rattle.real_run.specs.RealRuns.{AnswersFrom, AnswersOver, IsRealAnswer, RealCopy, RealLink, Runs, new_copy_run}
use Rattle.real_run.specs.RealRuns.{new_hub, real_copy_run, silent_link_run, stored_copy_run}
use Rattle.hub_words.specs.Statuses.{bad_words_status, no_memory_status, output_failed_status}

-- ---- what a cascade makes, of what is asked more weakly

module _ (asks more : BaseVersion → Outcome → Type 0) (f : (version : BaseVersion) (outcome : Outcome) → asks version outcome → more version outcome) where
  makes_next-more : (r : Result Published HubError) (from to : KeptState) → MakesNext asks r from to → MakesNext more r from to
  makes_next-more (Ok (published.New version)) from to (next, adds, is) = (next, record { asked = f _ _ adds.asked; added = adds.added }, is)
  makes_next-more (Ok (published.Same version)) from to is = (f _ _ is.0, is.1, is.2)
  makes_next-more (Err (hub_error.Refused fault)) from to is = (f _ _ is.0, is.1)
  makes_next-more (Err hub_error.Keeper) from to (inl same) = inl same
  makes_next-more (Err hub_error.Keeper) from to (inr (next, adds)) = inr (next, record { asked = f _ _ adds.asked; added = adds.added })
  makes_next-more (Err hub_error.NoMemory) from to is = is

  makes_cascade-more : (r : Result Published CascadeError) (from to : KeptState) → MakesCascade asks r from to → MakesCascade more r from to
  makes_cascade-more (Ok answer) from to is = makes_next-more (Ok answer) from to is
  makes_cascade-more (Err (cascade_error.Refused fault)) from to is = makes_next-more (Err (hub_error.Refused fault)) from to is
  makes_cascade-more (Err cascade_error.HubKeeper) from to is = makes_next-more (Err hub_error.Keeper) from to is
  makes_cascade-more (Err cascade_error.CopyKeeper) from to is = is
  makes_cascade-more (Err cascade_error.NoMemory) from to is = is
  makes_cascade-more (Err cascade_error.NothingHeld) from to is = is

-- ---- what is told of copy and link, said more weakly

-- of the copy no more is told than was, and that it and the link are as they were is said more weakly
module _ (stood stands stood_more stands_more : Copy → Type 0) (before now : ℕ) (told tells : LinkState → Type 0) (asked asked_now missed : ℕ) (kept : List ℕ) (failed failed_now : ℕ) (copy_same copy_more link_same link_more : Type 0)
    (down : (a : Copy) → stands_more a → (b : Copy) → stood b → stood_more b) (on : (a : Copy) → stands_more a → stands a) (c : copy_same → copy_more) (l : link_same → link_more) where
  abbrev copy_old : CopyRun
  copy_old = copy_run stood stands before now copy_same

  abbrev copy_new : CopyRun
  copy_new = copy_run stood_more stands_more before now copy_more

  abbrev link_old : LinkRun
  link_old = record {
    told = told;
    tells = tells;
    asked_before = asked;
    asked_now = asked_now;
    missed = missed;
    kept = kept;
    faults_before = failed;
    faults_now = failed_now;
    same = link_same;
  }

  abbrev link_new : LinkRun
  link_new = record link_old { same = link_more }

  rests-more : ConsumerRests copy_old link_old → ConsumerRests copy_new link_new
  rests-more is = (c is.0, l is.1)

  -- what holds of all copies and links for which both stood, where more is told
  met : (meets : Copy → LinkState → Type 0) (a : Copy) → stands_more a → ((b : Copy) (t : LinkState) → stood_more b → told t → meets b t) → (b : Copy) (t : LinkState) → stood b → told t → meets b t
  met meets a s agreed b t is tell = agreed b t (down a s b is) tell

  -- a copy for which the keeper stood
  stood-before : (leaves : Copy → Type 0) (a : Copy) → stands_more a → ((b : Copy) × stood b × leaves b) → (b : Copy) × stood_more b × leaves b
  stood-before leaves a s (b, is, left) = (b, down a s b is, left)

  -- what holds of both times, where all that stood before meet
  both-more : (meets : Copy → LinkState → Type 0) (P : Copy → LinkState → Copy → LinkState → Type 0)
      → (AtEach stood told meets → FromBoth copy_old link_old P)
      → AtEach stood_more told meets → FromBoth copy_new link_new P
  both-more meets P is agreed b t s tell =
      let (x, y, z, w, v) = is (met meets b s agreed) b t (on b s) tell in (x, y, down b s x z, w, v)

  -- what holds of what stands now, where all that stood before meet
  each-more : (meets Q : Copy → LinkState → Type 0) → (AtEach stood told meets → AtEach stands tells Q) → AtEach stood_more told meets → AtEach stands_more tells Q
  each-more meets Q is agreed b t s tell = is (met meets b s agreed) b t (on b s) tell

  caused-more : (call : Call) (a : SyncAnswer) → Caused call copy_old link_old a → Caused call copy_new link_new a
  caused-more call a is = record {
    run = is.run;
    count = is.count;
    asked = is.asked;
    counts = is.counts;
    runs = λ some b s. is.runs some b (on b s);
    only = is.only;
    exact = is.exact;
    last = is.last;
    on = λ asks. let o = is.on asks in (o.0, λ b s. o.1 b (on b s));
  }

  caused_since-more : (call : Call) (broken count lost : ℕ) (a : SyncAnswer)
      → Caused call (copy_since copy_old broken) (link_since link_old count lost) a
      → Caused call (copy_since copy_new broken) (link_since link_new count lost) a
  caused_since-more call broken count lost a is = record {
    run = is.run;
    count = is.count;
    asked = is.asked;
    counts = is.counts;
    runs = λ some b s. is.runs some b (on b s);
    only = is.only;
    exact = is.exact;
    last = is.last;
    on = λ asks. let o = is.on asks in (o.0, λ b s. o.1 b (on b s));
  }

  asks_pages-more : (call : Call) (a : SyncAnswer) (before after : List Request)
      → AsksPages call copy_old link_old a before after → AsksPages call copy_new link_new a before after
  asks_pages-more call a before after is = record {
    run = is.run;
    count = is.count;
    runs = λ some b s. is.runs some b (on b s);
    counts = is.counts;
    pages = is.pages;
    tried = is.tried;
  }

  sync-more : (task : Task) (a : SyncAnswer) → IsSyncOf task a copy_old link_old → IsSyncOf task a copy_new link_new
  sync-more task a is = record {
    copy = λ b s. stood-before _ b s (is.copy b (on b s));
    faulted = λ failing b s. stood-before _ b s (is.faulted failing b (on b s));
    last_run = λ b s. stood-before _ b s (is.last_run b (on b s));
    later = is.later;
    cause = caused-more _ a is.cause;
    asks = λ t tell. let (x, told, asks) = is.asks t tell in (x, told, asks_pages-more _ a x.sent t.sent asks);
    told = both-more _ _ is.told;
    bound = λ agreed b t s tell. let (x, z, n, few, bound) = is.bound (met _ b s agreed) b t (on b s) tell in (x, down b s x z, n, few, bound);
    cause_told = each-more _ _ is.cause_told;
    complete = λ agreed link copy. both-more _ _ (λ met. is.complete met link copy) agreed;
    marks = each-more _ _ is.marks;
  }

  asks_deltas-more : (call : Call) (a : DeltaAnswer) (before after : List Request)
      → AsksDeltas call copy_old link_old a before after → AsksDeltas call copy_new link_new a before after
  asks_deltas-more call a before after is = record {
    run = is.run;
    count = is.count;
    base = is.base;
    held = λ some b s. stood-before (HasBase is.base call.token) b s (is.held some b (on b s));
    runs = λ some b s. is.runs some b (on b s);
    counts = is.counts;
    some = is.some;
    each = is.each;
  }

  unmerged-more : (broke : Type 0) (kind : Kind) (entries : Sofar) (a : SyncAnswer) → Unmerged broke stands kind entries a → Unmerged broke stands_more kind entries a
  unmerged-more broke kind entries a (Broken failed is) = Broken failed is
  unmerged-more broke kind entries a (Wanting is) = Wanting is
  unmerged-more broke kind entries a (OverLimit n large all is) = OverLimit n large (λ b s. all b (on b s)) is

  halts-more : (run count : ℕ) (how broke : Type 0) (place : Place) (a : DeltaAnswer) → Halts kept run count how broke stands place a → Halts kept run count how broke stands_more place a
  halts-more run count how broke place a (Stopped held shown stops) = Stopped held (λ b s. shown b (on b s)) stops
  halts-more run count how broke place a (Merging entries are shown s why is) = Merging entries are (λ b s. shown b (on b s)) s (unmerged-more broke place.kind entries s why) is
  halts-more run count how broke place a (Broke failed is) = Broke failed is
  halts-more run count how broke place a (WantsBeside is) = WantsBeside is

  delta_cause-more : (run count : ℕ) (how broke : Type 0) (place : Place) (a : DeltaAnswer) → DeltaCause kept run count how broke stands place a → DeltaCause kept run count how broke stands_more place a
  delta_cause-more run count how broke place a (Unbased none is) = Unbased none is
  delta_cause-more run count how broke place a (OutOfRuns none is) = OutOfRuns none is
  delta_cause-more run count how broke place a (Swapped version is) = Swapped version is
  delta_cause-more run count how broke place a (BrokeBeside failed is) = BrokeBeside failed is
  delta_cause-more run count how broke place a (WantsAlone is) = WantsAlone is
  delta_cause-more run count how broke place a (Halted halts) = Halted (halts-more run count how broke place a halts)

  delta_caused-more : (call : Call) (a : DeltaAnswer) → DeltaCaused call copy_old link_old a → DeltaCaused call copy_new link_new a
  delta_caused-more call a is = record {
    run = is.run;
    count = is.count;
    place = is.place;
    held = λ some b s. stood-before (HasBase is.place.base call.token) b s (is.held some b (on b s));
    few = is.few;
    counts = is.counts;
    runs = λ some b s. is.runs some b (on b s);
    only = delta_cause-more is.run is.count _ _ is.place a is.only;
    exact = is.exact;
  }

  delta-more : (task : Task) (a : DeltaAnswer) → IsDeltaOf task a copy_old link_old → IsDeltaOf task a copy_new link_new
  delta-more task a is = record {
    copy = λ b s. stood-before _ b s (is.copy b (on b s));
    base = λ b s. stood-before _ b s (is.base b (on b s));
    faulted = λ b s. stood-before _ b s (is.faulted b (on b s));
    last_run = λ b s. stood-before _ b s (is.last_run b (on b s));
    cause = delta_caused-more _ a is.cause;
    later = is.later;
    link_later = is.link_later;
    asks = λ t tell. let (x, told, asks) = is.asks t tell in (x, told, asks_deltas-more _ a x.sent t.sent asks);
    told = both-more _ _ is.told;
    bound = λ agreed b t s tell. let (x, y, z, w, n, few, bound) = is.bound (met _ b s agreed) b t (on b s) tell in (x, y, down b s x z, w, n, few, bound);
    cause_told = each-more _ _ is.cause_told;
    complete = λ agreed link copy. both-more _ _ (λ met. is.complete met link copy) agreed;
    marks = each-more _ _ is.marks;
  }

  enter-more : (write : Write) (r : Result ℕ EnterError) → IsEnterOf write r copy_old → IsEnterOf write r copy_new
  enter-more write r is = record {
    told = λ b s. stood-before _ b s (is.told b (on b s));
    agree = λ t agreed b s. is.agree t (λ x stood. agreed x (down b s x stood)) b (on b s);
    cause = is.cause;
  }

  sent-more : (token : List ℕ) (tries : ℕ) (a : SendAnswer) → SendCaused token tries copy_old link_old a → SendCaused token tries copy_new link_new a
  sent-more token tries a is = record {
    run = is.run;
    count = is.count;
    counts = is.counts;
    runs = λ some b s. is.runs some b (on b s);
    only = is.only;
    exact = is.exact;
    names = λ b s. is.names b (on b s);
    last = λ ends. let e = is.last ends in (e.0, λ b t s tell. e.1 b t (on b s) tell);
  }

  asks_writes-more : (token : List ℕ) (tries : ℕ) (a : SendAnswer) (before after : CopyAndLink)
      → AsksWrites token tries link_old a before after → AsksWrites token tries link_new a before after
  asks_writes-more token tries a before after is = record {
    run = is.run;
    count = is.count;
    runs = is.runs;
    counts = is.counts;
    writes = is.writes;
    tried = is.tried;
  }

  send-more : (task : Sending) (a : SendAnswer) → IsSendOf task a copy_old link_old → IsSendOf task a copy_new link_new
  send-more task a is = record {
    copy = λ b s. let (x, z, left, few) = is.copy b (on b s) in (x, down b s x z, left, few);
    last_run = λ b s. stood-before _ b s (is.last_run b (on b s));
    cause = sent-more task.token task.tries a is.cause;
    asks = λ b t s tell.
        let (x, y, z, w, v) = is.asks b t (on b s) tell in
        (x, y, down b s x z, w, asks_writes-more task.token task.tries a (copy_with x y) (copy_with b t) v);
    told = both-more _ _ is.told;
    complete = λ agreed link copy. both-more _ _ (λ met. is.complete met link copy) agreed;
  }

  stays-more : CopyStays copy_old → CopyStays copy_new
  stays-more is b s = down b s b (is b (on b s))

  list-more : (kind : Kind) (a : Answer) → IsListAnswer kind copy_old a → IsListAnswer kind copy_new a
  list-more kind a (stays, inl (done, t, same)) = (stays-more stays, inl (done, record { rows = t.rows; list = t.list; held = λ b s. t.held b (on b s); is = t.is }, same))
  list-more kind a (stays, inr how) = (stays-more stays, inr how)

  outbox-more : (a : Answer) → IsOutboxAnswer copy_old a → IsOutboxAnswer copy_new a
  outbox-more a (stays, inl (done, t, same)) = (stays-more stays, inl (done, record { entries = t.entries; rise = t.rise; held = λ b s. t.held b (on b s); is = t.is }, same))
  outbox-more a (stays, inr how) = (stays-more stays, inr how)

  export-text-more : (kind : Kind) (text : List ℕ) → IsExport kind stands text → IsExport kind stands_more text
  export-text-more kind text is = record { rows = is.rows; are = record { list = is.are.list; held = λ b s. is.are.held b (on b s) }; file = is.file }

  refused-more : (HasBytes : Copy → ℕ → Type 0) (kind : Kind) (end : End) → RefusesExport HasBytes kind stands end → RefusesExport HasBytes kind stands_more end
  refused-more HasBytes kind ends.NothingHeld none = λ b s. none b (on b s)
  refused-more HasBytes kind (ends.ExportTooLarge named bytes) is = (is.0, is.1, λ b s. is.2 b (on b s))
  refused-more HasBytes kind end is = absurd is

  export-more : (IsText : (Copy → Type 0) → List ℕ → Type 0) (HasBytes : Copy → ℕ → Type 0) → ((text : List ℕ) → IsText stands text → IsText stands_more text) → (kind : Kind) (a : Answer)
      → ExportEnds IsText HasBytes kind copy_old a → ExportEnds IsText HasBytes kind copy_new a
  export-more IsText HasBytes more kind a (stays, inl (inl (done, t, same))) = (stays-more stays, inl (inl (done, more a.done t, same)))
  export-more IsText HasBytes more kind a (stays, inl (inr how)) = (stays-more stays, inl (inr how))
  export-more IsText HasBytes more kind a (stays, inr (none, refuses)) = (stays-more stays, inr (none, refused-more HasBytes kind a.end refuses))

  since-more : (kind : Kind) (dir : List ℕ) (o : Outside) (a : Answer) → IsSinceAnswer kind dir o copy_old a → IsSinceAnswer kind dir o copy_new a
  since-more kind dir o a (inl (end, kept_same, reads, is)) = inl (end, c kept_same, reads, is)
  since-more kind dir o a (inr (set, at, reads, moment, ends_so)) =
      let IsText = IsChangesExport at (rows_in kind set.parts) kind in
      let more : (text : List ℕ) → IsText stands text → IsText stands_more text
      = λ text t. record { held = t.held; are = record { list = t.are.list; held = λ b s. t.are.held b (on b s) }; rows = t.rows; changes = t.changes; file = t.file } in
      inr (set, at, reads, moment, export-more IsText (HasTooMany at (rows_in kind set.parts) kind) more kind a ends_so)

  something-more : HoldSomething stands → HoldSomething stands_more
  something-more is b s none = is b (on b s) none

  cascades-more : (feed : List ℕ) (moment : Option ℤ) (keeper : Faults) (r : Result Published CascadeError) (from to : KeptState)
      → CascadesCopy (cascade_run feed moment keeper copy_old) r from to → CascadesCopy (cascade_run feed moment keeper copy_new) r from to
  cascades-more feed moment keeper r from to (at, is, makes) = (
    at,
    is,
    makes_cascade-more (CascadesHeld stands feed at) (CascadesHeld stands_more feed at)
        (λ version outcome c. (c.0, record { order = c.1.order; held = λ b s. c.1.held b (on b s) }, c.2)) r from to makes,
  )

  tells_cascade-more : (feed : List ℕ) (moment : Option ℤ) (keeper : Faults) (done : List ℕ) (end : End) (from to : KeptState)
      → TellsCascade (cascade_run feed moment keeper copy_old) done end from to → TellsCascade (cascade_run feed moment keeper copy_new) done end from to
  tells_cascade-more feed moment keeper done ends.Done from to (some, quiet, answer, is, line) = (something-more some, quiet, answer, cascades-more feed moment keeper (Ok answer) from to is, line)
  tells_cascade-more feed moment keeper done ends.HubFailed from to (none, (risen, inl same)) = (none, (risen, inl same))
  tells_cascade-more feed moment keeper done ends.HubFailed from to (none, (risen, inr is)) = (none, (risen, inr (cascades-more feed moment keeper (Err cascade_error.HubKeeper) from to is)))
  tells_cascade-more feed moment keeper done ends.CopyFailed from to is = is
  tells_cascade-more feed moment keeper done (ends.NotPublished fault) from to (none, (some, quiet, is)) =
      (none, (something-more some, quiet, cascades-more feed moment keeper (Err (cascade_error.Refused fault)) from to is))
  tells_cascade-more feed moment keeper done ends.NothingHeld from to (none, (nothing, quiet, same)) = (none, ((λ b s. nothing b (on b s)), quiet, same))
  tells_cascade-more feed moment keeper done ends.NoMemory from to (none, inl same) = (none, inl same)
  tells_cascade-more feed moment keeper done ends.NoMemory from to (none, inr (answer, is)) = (none, inr (answer, cascades-more feed moment keeper (Ok answer) from to is))
  tells_cascade-more feed moment keeper done end from to is = absurd is.1

  cascade-more : (feed : List ℕ) (moment : Option ℤ) (keeper : Faults) (a : Answer) (from to : KeptState)
      → IsCascadeAnswer (cascade_run feed moment keeper copy_old) a from to → IsCascadeAnswer (cascade_run feed moment keeper copy_new) a from to
  cascade-more feed moment keeper a from to (stays, is) = (stays-more stays, tells_cascade-more feed moment keeper a.done a.end from to is)

  -- ---- what is told of a copy that was brought up to date, and cascaded

  miss_cause-more : (task : Task) (s : Result ℕ Missed) → MissCause task copy_old link_old s → MissCause task copy_new link_new s
  miss_cause-more task (Ok version) is = tt
  miss_cause-more task (Err (miss.Delta a)) is = delta_caused-more _ a is
  miss_cause-more task (Err (miss.Sync a)) (mid, is) = (
    record {
      run = mid.run;
      count = mid.count;
      kept = mid.kept;
      first = mid.first;
      unbased = mid.unbased;
      asked = mid.asked;
      faults = mid.faults;
      link_faults = mid.link_faults;
      counts = mid.counts;
      later = mid.later;
      link_later = mid.link_later;
    },
    caused_since-more _ mid.faults mid.asked mid.link_faults a is,
  )

  miss_told-more : (task : Task) (s : Result ℕ Missed) (t : LinkState) → MissTold task link_old t s → MissTold task link_new t s
  miss_told-more task (Ok version) t is = tt
  miss_told-more task (Err (miss.Delta a)) t is = is
  miss_told-more task (Err (miss.Sync a)) t is = is

  first-more : (token : List ℕ) (limit : ℕ) (a : Copy) → stands_more a → (sent : List Request) → FirstIs (AsksFromHeld token limit stood) sent → FirstIs (AsksFromHeld token limit stood_more) sent
  first-more token limit a s [] is = tt
  first-more token limit a s (q ∷ []) (base, (b, was, has), asks) = (base, (b, down a s b was, has), asks)
  first-more token limit a s (q ∷ earlier ∷ others) is = first-more token limit a s (earlier ∷ others) is

  may-less : (token : List ℕ) (a : Copy) → stands_more a → (b : Copy) (t now : LinkState) → MayCatchUp token stood_more b t now → MayCatchUp token stood b t now
  may-less token a s b t now may = record { pin = may.pin; base = elim may.base [ inl none ↦ inl (λ x was. none x (down a s x was)) | inr held ↦ inr held ] }

  caught-more : (task : Task) (r : Result ℕ Missed) → IsCaughtUp task r copy_old link_old → IsCaughtUp task r copy_new link_new
  caught-more task r is = record {
    shape = is.shape;
    copy = λ b s. stood-before _ b s (is.copy b (on b s));
    cause = miss_cause-more task r is.cause;
    first = λ some b t s tell.
        let (x, told, begins) = is.first (λ a was. some a (down b s a was)) b t (on b s) tell in
        (x, told, record { more = begins.more; sent = begins.sent; first = first-more task.token task.limit b s begins.more begins.first });
    told = both-more _ _ is.told;
    cause_told = λ agreed b t s tell. miss_told-more task r t (is.cause_told (met _ b s agreed) b t (on b s) tell);
    complete = λ agreed link copy b t s tell.
        let (x, y, z, w, v) = is.complete (met _ b s agreed) link copy b t (on b s) tell in
        (x, y, down b s x z, w, λ low quiet may. v low quiet (may-less task.token b s x y t may));
    marks = each-more _ _ is.marks;
  }

  tells_follow-more : (feed : List ℕ) (moment : Option ℤ) (keeper : Faults) (r : Result ℕ Missed) (a : Answer) (from to : KeptState)
      → TellsFollow (cascade_run feed moment keeper copy_old) r a from to → TellsFollow (cascade_run feed moment keeper copy_new) r a from to
  tells_follow-more feed moment keeper (Ok version) a from to (inl (more, line, told)) = inl (more, line, tells_cascade-more feed moment keeper more a.end from to told)
  tells_follow-more feed moment keeper (Ok version) a from to (inr (none, wants, more, end, told)) = inr (none, wants, more, end, tells_cascade-more feed moment keeper more end from to told)
  tells_follow-more feed moment keeper (Err (miss.Sync x)) a from to is = is
  tells_follow-more feed moment keeper (Err (miss.Delta x)) a from to is = is

  follow-more : (task : Task) (feed : List ℕ) (moment : Option ℤ) (keeper : Faults) (a : Answer) (from to : KeptState)
      → IsFollowAnswer task (cascade_run feed moment keeper copy_old) link_old a from to → IsFollowAnswer task (cascade_run feed moment keeper copy_new) link_new a from to
  follow-more task feed moment keeper a from to (inl (r, caught, told)) = inl (r, caught-more task r caught, tells_follow-more feed moment keeper r a from to told)
  follow-more task feed moment keeper a from to (inr shut) = inr (record { done = shut.done; end = shut.end; same = (c shut.same.0, l shut.same.1, shut.same.2) })

  -- ---- every command

  command-more : (command : Command) (o : Outside) (a : Answer) (from to : KeptState) → IsCommandAnswer command o copy_old link_old a from to → IsCommandAnswer command o copy_new link_new a from to
  command-more (Show kind) o a from to is = (rests-more is.0, is.1, is.2)
  command-more (Sync task) o a from to (same, nothing, (none, s, is, how)) = (same, nothing, (none, s, sync-more task s is, how))
  command-more (SyncDelta task) o a from to (same, nothing, (none, d, is, how)) = (same, nothing, (none, d, delta-more task d is, how))
  command-more (Cascade feed) o a from to is = (is.0, l is.1, cascade-more feed o.moment o.keeper a from to is.2)
  command-more (Follow task feed) o a from to is = (is.0, follow-more task feed o.moment o.keeper a from to is.1)
  command-more (Enter task) o a from to (same, stood, rests, inl (end, kept_same, reads, is)) = (same, stood, l rests, inl (end, c kept_same, reads, is))
  command-more (Enter task) o a from to (same, stood, rests, inr (write, r, reads, is, entered)) = (same, stood, l rests, inr (write, r, reads, enter-more write r is, entered))
  command-more (Send task) o a from to (same, nothing, (none, s, is, how)) = (same, nothing, (none, s, send-more task s is, how))
  command-more Outbox o a from to is = (is.0, is.1, l is.2, outbox-more a is.3)
  command-more (ListHeld kind) o a from to is = (is.0, is.1, l is.2, list-more kind a is.3)
  command-more (ExportManifest mode) o a from to is = (rests-more is.0, is.1, is.2, is.3)
  command-more (Export kind) o a from to is = (is.0, is.1, l is.2, export-more (IsExport kind) _ (export-text-more kind) kind a is.3)
  command-more (ExportSince kind dir) o a from to is = (is.0, is.1, l is.2, since-more kind dir o a is.3)
  command-more (Rehearse file) o a from to is = (rests-more is.0, is.1, is.2, is.3)
  command-more (Make count) o a from to is = (rests-more is.0, is.1, is.2, is.3)
  command-more other o a from to is = (rests-more is.0, is.1)

  answer-more : (r : Result Parsed ℕ) (o : Outside) (a : Answer) (from to : KeptState) → IsAnswer r o copy_old link_old a from to → IsAnswer r o copy_new link_new a from to
  answer-more (Err place) o a from to is = (rests-more is.0, is.1, is.2)
  answer-more (Ok parsed) o a from to (inl is) = inl (command-more parsed.command o a from to is)
  answer-more (Ok parsed) o a from to (inr is) = inr (rests-more is.0, is.1, is.2)

-- a relation that is said more weakly
leads-on : (old new : KeptState → Type 0) (leads more : KeptState → KeptState → Type 0) → ((from to : KeptState) → leads from to → more from to) → LeadsFrom old new leads → LeadsFrom old new more
leads-on old new leads more f from = record {
  before = from.before;
  after = from.after;
  is = from.is;
  some = f from.before from.after from.some;
  told = λ now stands. let t = from.told now stands in (t.0, t.1, f t.0 now t.2);
}

-- ---- a link that tells nothing

pub real-silent : {stood stands : Copy → Type 0} {before now : ℕ} {rests : Type 0} {asked asked_now missed : ℕ} {kept : List ℕ} {failed failed_now : ℕ} {same : Type 0} {old new : KeptState → Type 0} {parsed : Result Parsed ℕ} (answer : Answer)
    → AnswersOver old new (copy_run stood stands before now rests) (record { told = λ told. ⊥; tells = λ told. ⊥; asked_before = asked; asked_now = asked_now; missed = missed; kept = kept; faults_before = failed; faults_now = failed_now; same = same }) parsed answer
    → AnswersFrom old new (copy_run stood stands before now rests) parsed answer
real-silent {stood} {stands} {before} {now} {rests} {asked} {asked_now} {missed} {kept} {failed} {failed_now} {same} {old} {new} {parsed} answer from = record {
  link = record { asked_before = asked; asked_now = asked_now; missed = missed; kept = kept; faults_before = failed; faults_now = failed_now };
  over = record {
    folder = from.folder;
    keeper = from.keeper;
    leads =
        leads-on old new _ _
        (answer-more stood stands stood stands before now (λ told. ⊥) (λ told. ⊥) asked asked_now missed kept failed failed_now rests rests same ⊤
        (λ a s b is. is) (λ a s. s) (λ e. e) (λ e. tt) parsed (outside_of None None from.folder from.keeper) answer)
        from.leads;
  };
}

-- ---- the states of the hub

new_is_kept : (keep : ℕ) → IsKept (new_hub keep)
new_is_kept keep = record { versions = no_versions keep; marks = no_marks 0 }

named : (store : Option (List ℕ)) (fact : Type 0) → IsSome store → IfNone store fact
named (Some folder) fact is = tt
named None fact is = cc is

given_new : (store : Option (List ℕ)) (fact : Type 0) → fact → IfNone store fact
given_new (Some folder) fact is = tt
given_new None fact is = is

-- ---- stores

-- of a store's copy nothing is told
untold : (store : Option (List ℕ)) (is : CopyRun → Type 0) (c : RealCopy) → IsSome store → is (stored_copy_run c.before c.faults) → is (real_copy_run store c)
untold (Some folder) is c some this = this
untold None is c some this = cc some

-- where the words name a store, the hub stood for some state
pub real-stored : {stood stands : Copy → Type 0} {before now : ℕ} {rests : Type 0} {old new : KeptState → Type 0} {parsed : Result Parsed ℕ} (answer : Answer)
    → IsSome (store_in parsed) → (rests → now ≡ before) → AnswersFrom old new (copy_run stood stands before now rests) parsed answer → IsRealAnswer parsed answer
real-stored {stood} {stands} {before} {now} {rests} {old} {new} {parsed} answer some same from =
    let leads = from.over.leads in
    let link = from.link in
    let outside = outside_of None None from.over.folder from.over.keeper in
    record {
      folder = from.over.folder;
      keeper = from.over.keeper;
      copy = record { now = empty_copy; before = before; faults = now };
      link = link;
      before = leads.before;
      after = leads.after;
      is = leads.is;
      new = named (store_in parsed) _ some;
      some =
          untold (store_in parsed) (λ (run : CopyRun). IsAnswer parsed outside run (silent_link_run link) answer leads.before leads.after) (record { now = empty_copy; before = before; faults = now }) some
          (answer-more stood stands (λ copy. ⊥) (λ copy. ⊥) before now (λ told. ⊥) (λ told. ⊥) link.asked_before link.asked_now link.missed link.kept link.faults_before link.faults_now rests (now ≡ before) ⊤ ⊤
          (λ a s b is. s) (λ a s. absurd s) same (λ e. e) parsed outside answer leads.before leads.after leads.some);
    }

-- ---- memory

-- the copy is a new one where no store is named
anew : (store : Option (List ℕ)) (is : CopyRun → Type 0) (c : RealCopy) → store ≡ None → is (new_copy_run c) → is (real_copy_run store c)
anew store is c none this = subst (λ (s : Option (List ℕ)). is (real_copy_run s c)) (sym none) this

-- a copy in memory is new
new-copy : (start now : HeldCopy) (link : RealLink) (parsed : Result Parsed ℕ) (outside : Outside) (answer : Answer) (from to : KeptState) → start.copy ≡ empty_copy → start.plan ≡ planned [] [] []
    → IsAnswer parsed outside (copy_run (λ copy. (copy ≡ start.copy) × IsCopy copy) (λ copy. (copy ≡ now.copy) × IsCopy copy) start.plan.faults now.plan.faults (now ≡ start)) (silent_link_run link) answer from to
    → IsAnswer parsed outside (new_copy_run (record { now = now.copy; before = 0; faults = now.plan.faults })) (silent_link_run link) answer from to
new-copy start now link parsed outside answer from to empty plan is =
    subst (λ (n : ℕ). Is (λ copy. (copy ≡ empty_copy) × IsCopy copy) n (now.copy ≡ empty_copy)) (ap (λ (p : FailurePlan). p.faults) plan)
    (subst (λ (k : Copy). Is (λ copy. (copy ≡ k) × IsCopy copy) start.plan.faults (now.copy ≡ k)) empty
    (answer-more (λ copy. (copy ≡ start.copy) × IsCopy copy) (λ copy. (copy ≡ now.copy) × IsCopy copy) (λ copy. (copy ≡ start.copy) × IsCopy copy) (λ copy. (copy ≡ now.copy) × IsCopy copy) start.plan.faults now.plan.faults
    (λ told. ⊥) (λ told. ⊥) link.asked_before link.asked_now link.missed link.kept link.faults_before link.faults_now (now ≡ start) (now.copy ≡ start.copy) ⊤ ⊤
    (λ a s b is. is) (λ a s. s) (λ e. ap (λ (h : HeldCopy). h.copy) e) (λ e. e) parsed outside answer from to is))
  where
    Is : (Copy → Type 0) → ℕ → Type 0 → Type 0
    Is stood before rests = IsAnswer parsed outside (copy_run stood (λ copy. (copy ≡ now.copy) × IsCopy copy) before now.plan.faults rests) (silent_link_run link) answer from to

-- hub and copy in memory are new
pub real-new : {start now : KeptState} {first then : HeldCopy} (keep : ℕ) {parsed : Result Parsed ℕ} (answer : Answer)
    → start ≡ new_hub keep → first.copy ≡ empty_copy → first.plan ≡ planned [] [] [] → keep ≡ keep_in parsed → store_in parsed ≡ None
    → AnswersFrom (λ kept. kept ≡ start) (λ kept. kept ≡ now) (copy_run (λ copy. (copy ≡ first.copy) × IsCopy copy) (λ copy. (copy ≡ then.copy) × IsCopy copy) first.plan.faults then.plan.faults (then ≡ first)) parsed answer
    → IsRealAnswer parsed answer
real-new {start} {now} {first} {then} keep {parsed} answer begins empty plan same none from =
    let told = from.over.leads.told now refl in
    let outside = outside_of None None from.over.folder from.over.keeper in
    record {
      folder = from.over.folder;
      keeper = from.over.keeper;
      copy = record { now = then.copy; before = 0; faults = then.plan.faults };
      link = from.link;
      before = told.0;
      after = now;
      is = subst IsKept (sym (told.1 ∙ begins)) (new_is_kept keep);
      new = given_new (store_in parsed) _ (told.1 ∙ begins ∙ ap new_hub same);
      some =
          anew (store_in parsed) (λ (run : CopyRun). IsAnswer parsed outside run (silent_link_run from.link) answer told.0 now) (record { now = then.copy; before = 0; faults = then.plan.faults }) none
          (new-copy first then from.link parsed outside answer told.0 now empty plan told.2);
    }

-- ---- want of memory

abbrev out_of_memory : Answer
out_of_memory = record { done = []; end = ends.NoMemory }

-- no consumer is met
abbrev idle_copy : RealCopy
idle_copy = record { now = empty_copy; before = 0; faults = 0 }

abbrev idle_link : RealLink
idle_link = record { asked_before = 0; asked_now = 0; missed = 0; kept = []; faults_before = 0; faults_now = 0 }

rests : (store : Option (List ℕ)) → ConsumerRests (real_copy_run store idle_copy) (silent_link_run idle_link)
rests None = (refl, tt)
rests (Some folder) = (refl, tt)

wants : (parsed : Result Parsed ℕ) (store : Option (List ℕ)) (outside : Outside) (kept : KeptState) → IsAnswer parsed outside (real_copy_run store idle_copy) (silent_link_run idle_link) out_of_memory kept kept
wants (Err place) store outside kept = (rests store, refl, inr (refl, refl))
wants (Ok parsed) store outside kept = inr (rests store, refl, (refl, refl))

-- memory may run out before a keeper is there
real-wants : (parsed : Result Parsed ℕ) → IsRealAnswer parsed out_of_memory
real-wants parsed = record {
  folder = faults_of 0 0;
  keeper = faults_of 0 0;
  copy = idle_copy;
  link = idle_link;
  before = new_hub (keep_in parsed);
  after = new_hub (keep_in parsed);
  is = new_is_kept (keep_in parsed);
  new = given_new (store_in parsed) _ refl;
  some = wants parsed (store_in parsed) (outside_of None None (faults_of 0 0) (faults_of 0 0)) (new_hub (keep_in parsed));
}

-- ---- whole runs

pub runs-wanting : {parsed : Result Parsed ℕ} {status : ℕ} {old new : Option (List ℕ)} {before now : ℕ}
    → (status ≢ output_failed_status → (status ≡ no_memory_status) × Appends old new (text_of out_of_memory) × (now ≡ before)) → (status ≡ output_failed_status → Rose before now × AppendsPart old new (text_of out_of_memory))
    → Runs (IsRealAnswer parsed) parsed status old new before now
runs-wanting {parsed} done fault = record {
  done = λ e. let d = done e in (out_of_memory, real-wants parsed, d.0, d.1);
  part = λ e. (out_of_memory, real-wants parsed, (fault e).1);
  words_are_bad = λ e. let d = done (λ f. omega (arith, e, f)) in absurd (omega (arith, e, d.0));
  bad_words = λ bad not_failed not_wanting. absurd (not_wanting (done not_failed).0);
  sink_failed = λ e. (fault e).0;
  sink_stood = λ e. (done e).2;
}

-- what is written of answers, as a whole run
pub runs-written : {is more : Answer → Type 0} {parsed : Result Parsed ℕ} {status : ℕ} {old new : Option (List ℕ)} {before now : ℕ}
    → ((a : Answer) → is a → more a) → ((a : Answer) → is a → status_of a.end ≡ bad_words_status → IsErr parsed) → ((a : Answer) → is a → IsErr parsed → status_of a.end ≢ no_memory_status → status_of a.end ≡ bad_words_status)
    → Writes status old new before now is → Runs more parsed status old new before now
runs-written {is} {more} {parsed} {status} {old} {new} f words bad written = record {
  done = λ not_failed. let (a, so, same, told) = told_done old new written not_failed in (a, f a so, same, told);
  part = λ failed. let (a, so, told) = told_part old new written failed in (a, f a so, told);
  words_are_bad = λ is_bad. let (a, so, same, told) = told_done old new written (λ failed. omega (arith, failed, is_bad)) in words a so (sym same ∙ is_bad);
  bad_words = λ err not_failed not_wanting. let (a, so, same, told) = told_done old new written not_failed in same ∙ bad a so err (λ e. not_wanting (same ∙ e));
  sink_failed = (told_count old new written).0;
  sink_stood = (told_count old new written).1;
}

-- a run whose answers are said otherwise
pub runs-as : {is more : Answer → Type 0} {parsed : Result Parsed ℕ} {status : ℕ} {old new : Option (List ℕ)} {before now : ℕ} → ((a : Answer) → is a → more a)
    → Runs is parsed status old new before now → Runs more parsed status old new before now
runs-as f r = record {
  done = λ e. let (a, so, status, told) = r.done e in (a, f a so, status, told);
  part = λ e. let (a, so, told) = r.part e in (a, f a so, told);
  words_are_bad = r.words_are_bad;
  bad_words = r.bad_words;
  sink_failed = r.sink_failed;
  sink_stood = r.sink_stood;
}
