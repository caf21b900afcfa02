-- Lists of jobs, and of what they gave back, with one more at the end.
use Rattle.std.proofs.Common.{◌≡◌, List, [], ◌∷◌, ◌++◌, refl, ap, ◌∙◌}
use Rattle.hub_server.specs.Endings.{or_else}
use Rattle.hub_server.specs.Serving.{acceptors_in, acceptors_of, ending_in, ending_of_all, feeds_in, folders_in}
use Rattle.hub_server.specs.Serving.{folders_of}
use Rattle.hub_server.specs.declared.ending.Ending.{Ending}
use Rattle.hub_server.specs.declared.ending.Ending.TheVariants as ending
use Rattle.hub_server.specs.declared.jobs.AcceptorJob.{AcceptorJob}
use Rattle.hub_server.specs.declared.jobs.FeedJob.{FeedJob}
use Rattle.hub_server.specs.declared.jobs.Job.{Job}
use Rattle.hub_server.specs.declared.jobs.Job.TheVariants as job
use Rattle.hub_server.specs.declared.jobs.JobEnd.{JobEnd}
use Rattle.hub_server.specs.declared.jobs.JobEnd.TheVariants as job_end

or_else-next : (a b c : Ending) → or_else a (or_else b c) ≡ or_else (or_else a b) c
or_else-next ending.Done b c = refl
or_else-next ending.FolderFailed b c = refl
or_else-next ending.Refused b c = refl
or_else-next ending.KeeperFailed b c = refl
or_else-next ending.AcceptorFailed b c = refl
or_else-next ending.NoMemory b c = refl

or_else-done : (a : Ending) → or_else a ending.Done ≡ a
or_else-done ending.Done = refl
or_else-done ending.FolderFailed = refl
or_else-done ending.Refused = refl
or_else-done ending.KeeperFailed = refl
or_else-done ending.AcceptorFailed = refl
or_else-done ending.NoMemory = refl

module _ {A F : Type 0} where
  pub feeds-feed : (jobs : List (Job A F)) (j : FeedJob F) → feeds_in (jobs ++ job.Feed j ∷ []) ≡ feeds_in jobs ++ j.feed ∷ []
  feeds-feed [] j = refl
  feeds-feed (job.Feed i ∷ jobs) j = ap (λ fs. i.feed ∷ fs) (feeds-feed jobs j)
  feeds-feed (job.Acceptor i ∷ jobs) j = feeds-feed jobs j

  pub folders-feed : (jobs : List (Job A F)) (j : FeedJob F) → folders_in (jobs ++ job.Feed j ∷ []) ≡ folders_in jobs ++ j.folder ∷ []
  folders-feed [] j = refl
  folders-feed (job.Feed i ∷ jobs) j = ap (λ fs. i.folder ∷ fs) (folders-feed jobs j)
  folders-feed (job.Acceptor i ∷ jobs) j = folders-feed jobs j

  pub acceptors-feed : (jobs : List (Job A F)) (j : FeedJob F) → acceptors_in (jobs ++ job.Feed j ∷ []) ≡ acceptors_in jobs
  acceptors-feed [] j = refl
  acceptors-feed (job.Feed i ∷ jobs) j = acceptors-feed jobs j
  acceptors-feed (job.Acceptor i ∷ jobs) j = ap (λ xs. i.acceptor ∷ xs) (acceptors-feed jobs j)

  pub feeds-acceptor : (jobs : List (Job A F)) (j : AcceptorJob A) → feeds_in (jobs ++ job.Acceptor j ∷ []) ≡ feeds_in jobs
  feeds-acceptor [] j = refl
  feeds-acceptor (job.Feed i ∷ jobs) j = ap (λ fs. i.feed ∷ fs) (feeds-acceptor jobs j)
  feeds-acceptor (job.Acceptor i ∷ jobs) j = feeds-acceptor jobs j

  pub folders-acceptor : (jobs : List (Job A F)) (j : AcceptorJob A) → folders_in (jobs ++ job.Acceptor j ∷ []) ≡ folders_in jobs
  folders-acceptor [] j = refl
  folders-acceptor (job.Feed i ∷ jobs) j = ap (λ fs. i.folder ∷ fs) (folders-acceptor jobs j)
  folders-acceptor (job.Acceptor i ∷ jobs) j = folders-acceptor jobs j

  pub acceptors-acceptor : (jobs : List (Job A F)) (j : AcceptorJob A) → acceptors_in (jobs ++ job.Acceptor j ∷ []) ≡ acceptors_in jobs ++ j.acceptor ∷ []
  acceptors-acceptor [] j = refl
  acceptors-acceptor (job.Feed i ∷ jobs) j = acceptors-acceptor jobs j
  acceptors-acceptor (job.Acceptor i ∷ jobs) j = ap (λ xs. i.acceptor ∷ xs) (acceptors-acceptor jobs j)

  -- ---- what they gave back

  pub folders_of-more : (ends : List (JobEnd A F)) (end : JobEnd A F) → folders_of (ends ++ end ∷ []) ≡ folders_of ends ++ folders_of (end ∷ [])
  folders_of-more [] end = refl
  folders_of-more (job_end.Feed f d ∷ ends) end = ap (λ fs. f ∷ fs) (folders_of-more ends end)
  folders_of-more (job_end.Acceptor a d ∷ ends) end = folders_of-more ends end

  pub acceptors_of-more : (ends : List (JobEnd A F)) (end : JobEnd A F) → acceptors_of (ends ++ end ∷ []) ≡ acceptors_of ends ++ acceptors_of (end ∷ [])
  acceptors_of-more [] end = refl
  acceptors_of-more (job_end.Feed f d ∷ ends) end = acceptors_of-more ends end
  acceptors_of-more (job_end.Acceptor a d ∷ ends) end = ap (λ xs. a ∷ xs) (acceptors_of-more ends end)

  pub ending-more : (ends : List (JobEnd A F)) (end : JobEnd A F) → ending_of_all (ends ++ end ∷ []) ≡ or_else (ending_of_all ends) (ending_in end)
  ending-more [] end = or_else-done (ending_in end)
  ending-more (d ∷ ends) end = ap (or_else (ending_in d)) (ending-more ends end) ∙ or_else-next (ending_in d) (ending_of_all ends) (ending_in end)
