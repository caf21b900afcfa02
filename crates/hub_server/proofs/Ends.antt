-- What the first ending that isn't Done says of all jobs.
use Rattle.std.proofs.Common.{◌≡◌, ◌⊎◌, ◌<◌, suc, ℕ, List, [], ◌∷◌, Result, Ok, Err, IfOk, length}
use Rattle.std.proofs.Common.{slice_index_or, inl, inr, arith}
use Rattle.std.specs.List.{AllZip}
use Rattle.hub_server.specs.Jobs.{Does, Service}
use Rattle.hub_server.specs.Serving.{AllMean, AllServed, Ended, SomeRefused, SomeRose, acceptors_in, acceptors_of}
use Rattle.hub_server.specs.Serving.{ending_of_all, feeds_in, folders_in, folders_of}
use Rattle.hub_server.specs.declared.ending.Ending.{Ending}
use Rattle.hub_server.specs.declared.ending.Ending.TheVariants as ending
use Rattle.hub_server.specs.declared.jobs.Job.{Job}
use Rattle.hub_server.specs.declared.jobs.Job.TheVariants as job
use Rattle.hub_server.specs.declared.jobs.JobEnd.{JobEnd}
use Rattle.hub_server.specs.declared.jobs.JobEnd.TheVariants as job_end
use Rattle.hub_server.specs.declared.server.Results.{Results}
use Rattle.hub_words.specs.declared.task.Feed.{Feed}

-- what holds at each place of two lists of one length holds of them place by place
pub all_zip : {X Y : Type 0} (R : X → Y → Type 0) (xs : List X) (ys : List Y) → length ys ≡ length xs
    → ((i : ℕ) (d : X) (e : Y) → i < length xs → R (slice_index_or xs i d) (slice_index_or ys i e)) → AllZip R xs ys
all_zip R [] [] long each = tt
all_zip R [] (y ∷ ys) long each = absurd (omega (arith, long))
all_zip R (x ∷ xs) [] long each = absurd (omega (arith, long))
all_zip R (x ∷ xs) (y ∷ ys) long each = (each 0 x y (omega arith), all_zip R xs ys (omega (arith, long)) (λ i d e less. each (suc i) d e (omega (arith, less))))

module _ {A F : Type 0} (s : Service A F) where
  abbrev Did : List (Job A F) → List (JobEnd A F) → Type 0
  Did jobs ends = AllZip (Does s) jobs ends

  all_done : (jobs : List (Job A F)) (ends : List (JobEnd A F)) → Did jobs ends → ending_of_all ends ≡ ending.Done
      → AllServed s.given s.connections (acceptors_in jobs) (acceptors_of ends) × AllMean s.files (feeds_in jobs) (folders_in jobs)
  all_done [] [] did is = (tt, tt)
  all_done (job.Feed j ∷ jobs) (job_end.Feed f ending.Done ∷ ends) did is = let rest = all_done jobs ends did.1 is in (rest.0, (did.0, rest.1))
  all_done (job.Feed j ∷ jobs) (job_end.Feed f other ∷ ends) did is = cc
  all_done (job.Feed j ∷ jobs) (job_end.Acceptor a e ∷ ends) did is = absurd did.0
  all_done (job.Acceptor j ∷ jobs) (job_end.Feed f e ∷ ends) did is = absurd did.0
  all_done (job.Acceptor j ∷ jobs) (job_end.Acceptor a ending.Done ∷ ends) did is = let rest = all_done jobs ends did.1 is in ((did.0, rest.0), rest.1)
  all_done (job.Acceptor j ∷ jobs) (job_end.Acceptor a other ∷ ends) did is = cc
  all_done [] (end ∷ ends) did is = absurd did
  all_done (j ∷ jobs) [] did is = absurd did

  folder_failed : (jobs : List (Job A F)) (ends : List (JobEnd A F)) → Did jobs ends → ending_of_all ends ≡ ending.FolderFailed → SomeRose s.folder_faults (folders_in jobs) (folders_of ends)
  folder_failed [] [] did is = cc
  folder_failed (job.Feed j ∷ jobs) (job_end.Feed f ending.Done ∷ ends) did is = inr (folder_failed jobs ends did.1 is)
  folder_failed (job.Feed j ∷ jobs) (job_end.Feed f ending.FolderFailed ∷ ends) did is = inl did.0
  folder_failed (job.Feed j ∷ jobs) (job_end.Feed f other ∷ ends) did is = cc
  folder_failed (job.Feed j ∷ jobs) (job_end.Acceptor a e ∷ ends) did is = absurd did.0
  folder_failed (job.Acceptor j ∷ jobs) (job_end.Feed f e ∷ ends) did is = absurd did.0
  folder_failed (job.Acceptor j ∷ jobs) (job_end.Acceptor a ending.Done ∷ ends) did is = folder_failed jobs ends did.1 is
  folder_failed (job.Acceptor j ∷ jobs) (job_end.Acceptor a ending.FolderFailed ∷ ends) did is = absurd did.0
  folder_failed (job.Acceptor j ∷ jobs) (job_end.Acceptor a other ∷ ends) did is = cc
  folder_failed [] (end ∷ ends) did is = absurd did
  folder_failed (j ∷ jobs) [] did is = absurd did

  acceptor_failed : (jobs : List (Job A F)) (ends : List (JobEnd A F)) → Did jobs ends → ending_of_all ends ≡ ending.AcceptorFailed → SomeRose s.acceptor_faults (acceptors_in jobs) (acceptors_of ends)
  acceptor_failed [] [] did is = cc
  acceptor_failed (job.Feed j ∷ jobs) (job_end.Feed f ending.Done ∷ ends) did is = acceptor_failed jobs ends did.1 is
  acceptor_failed (job.Feed j ∷ jobs) (job_end.Feed f ending.AcceptorFailed ∷ ends) did is = absurd did.0
  acceptor_failed (job.Feed j ∷ jobs) (job_end.Feed f other ∷ ends) did is = cc
  acceptor_failed (job.Feed j ∷ jobs) (job_end.Acceptor a e ∷ ends) did is = absurd did.0
  acceptor_failed (job.Acceptor j ∷ jobs) (job_end.Feed f e ∷ ends) did is = absurd did.0
  acceptor_failed (job.Acceptor j ∷ jobs) (job_end.Acceptor a ending.Done ∷ ends) did is = inr (acceptor_failed jobs ends did.1 is)
  acceptor_failed (job.Acceptor j ∷ jobs) (job_end.Acceptor a ending.AcceptorFailed ∷ ends) did is = inl did.0
  acceptor_failed (job.Acceptor j ∷ jobs) (job_end.Acceptor a other ∷ ends) did is = cc
  acceptor_failed [] (end ∷ ends) did is = absurd did
  acceptor_failed (j ∷ jobs) [] did is = absurd did

  refused : (jobs : List (Job A F)) (ends : List (JobEnd A F)) → Did jobs ends → ending_of_all ends ≡ ending.Refused → SomeRefused s.files s.opening (feeds_in jobs) (folders_in jobs)
  refused [] [] did is = cc
  refused (job.Feed j ∷ jobs) (job_end.Feed f ending.Done ∷ ends) did is = inr (refused jobs ends did.1 is)
  refused (job.Feed j ∷ jobs) (job_end.Feed f ending.Refused ∷ ends) did is = inl did.0
  refused (job.Feed j ∷ jobs) (job_end.Feed f other ∷ ends) did is = cc
  refused (job.Feed j ∷ jobs) (job_end.Acceptor a e ∷ ends) did is = absurd did.0
  refused (job.Acceptor j ∷ jobs) (job_end.Feed f e ∷ ends) did is = absurd did.0
  refused (job.Acceptor j ∷ jobs) (job_end.Acceptor a ending.Done ∷ ends) did is = refused jobs ends did.1 is
  refused (job.Acceptor j ∷ jobs) (job_end.Acceptor a ending.Refused ∷ ends) did is = absurd did.0
  refused (job.Acceptor j ∷ jobs) (job_end.Acceptor a other ∷ ends) did is = cc
  refused [] (end ∷ ends) did is = absurd did
  refused (j ∷ jobs) [] did is = absurd did

  -- jobs that did what they were given end so
  pub ended : (jobs : List (Job A F)) (ends : List (JobEnd A F)) → Did jobs ends
      → Ended s (feeds_in jobs) (folders_in jobs) (folders_of ends) (acceptors_in jobs) (acceptors_of ends) (ending_of_all ends)
  ended jobs ends did = record {
    done = all_done jobs ends did;
    folder_failed = folder_failed jobs ends did;
    acceptor_failed = acceptor_failed jobs ends did;
    refused = refused jobs ends did;
  }

  -- and what was gathered of them
  pub ended_all : (jobs : List (Job A F)) (ends : List (JobEnd A F)) → length ends ≡ length jobs
      → ((i : ℕ) (d : Job A F) (e : JobEnd A F) → i < length jobs → Does s (slice_index_or jobs i d) (slice_index_or ends i e))
      → {E : Type 0} (result : Result (Results A F) E) → IfOk result (λ r. r.ending ≡ ending_of_all ends) → IfOk result (λ r. r.doors.acceptors.items ≡ acceptors_of ends) → IfOk result (λ r. r.doors.folders.items ≡ folders_of ends)
      → IfOk result (λ r. Ended s (feeds_in jobs) (folders_in jobs) r.doors.folders.items (acceptors_in jobs) r.doors.acceptors.items r.ending)
  ended_all jobs ends long each (Ok r) e a f = rw (e, a, f) (ended jobs ends (all_zip (Does s) jobs ends long each))
  ended_all jobs ends long each (Err w) e a f = tt

  -- what ends before a job was done says nothing of any
  pub nothing_ended : (feeds : List Feed) (folders : List F) (acceptors : List A) (e : Ending) → (e ≡ ending.KeeperFailed) ⊎ (e ≡ ending.NoMemory)
      → Ended s feeds folders folders acceptors acceptors e
  nothing_ended feeds folders acceptors e (inl is) = rw is record { done = λ no. cc; folder_failed = λ no. cc; acceptor_failed = λ no. cc; refused = λ no. cc }
  nothing_ended feeds folders acceptors e (inr is) = rw is record { done = λ no. cc; folder_failed = λ no. cc; acceptor_failed = λ no. cc; refused = λ no. cc }
