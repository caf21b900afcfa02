-- What the end of a feed says of its set.
use Rattle.std.proofs.Common.{◌≡◌, ◌≢◌, ℕ, ℤ, List, Option, Err, inl, inr, refl}
use Rattle.csv_sets.specs.Folders.{FaultOf, folder_read}
use Rattle.csv_sets.specs.Sets.{set_of}
use Rattle.csv_sets.specs.declared.fault.SetFault.{SetFault}
use Rattle.csv_sets.specs.declared.fault.SetFault.TheVariants as fault
use Rattle.hub_core.specs.declared.hub_error.HubError.TheVariants as error
use Rattle.hub_history.specs.declared.entry.Entry.{Entry}
use Rattle.hub_server.specs.Jobs.{Feeds, IsTurnedDown, ending_of, ending_of_fault}
use Rattle.hub_server.specs.declared.ending.Ending.TheVariants as ending
use Rattle.hub_words.specs.declared.task.Feed.{Feed}
use Rattle.hub_shared.specs.Feeding as feeding
use Rattle.hub_shared.specs.declared.feeding.FeedEnd.{FeedEnd}
use Rattle.hub_shared.specs.declared.feeding.FeedEnd.TheVariants as feed_end
use Rattle.keeper_memory.specs.Kept.{KeptState}
use Rattle.outside_ports.specs.Files.{Stored}
use Rattle.roster_base.specs.declared.refusal.Refusal.TheVariants as refusal
use Rattle.roster_types.specs.Sets.{SetRecord}
use Rattle.version_changes.specs.declared.sets.publish_fault.PublishFault.{PublishFault}

other_fault : (f : SetFault) → f ≢ fault.Folder → ending_of_fault f ≡ ending.Refused
other_fault fault.Folder other = absurd (other refl)
other_fault fault other = refl

module _ (opening : KeptState) (files : Option (List Stored)) (before now : ℕ) (feed : Feed) where
  faulty : (f : SetFault) → FaultOf files before now f (set_of feed.dir feed.name) → Feeds opening files before now feed (ending_of_fault f)
  faulty f (inl (is, rose)) = rw is rose
  faulty f (inr (other, same, meant)) = rw (other_fault f other) (inl (f, meant))

  turned_down : (set : SetRecord) (moment : Option ℤ) (fault : PublishFault) (receipt : List Entry) → feeding.IsFed opening set moment (Err (error.Refused fault)) receipt → IsTurnedDown opening set
  turned_down set moment fault receipt (at, is, inl busy, faulty) = cc
  turned_down set moment fault receipt (at, is, inr (inl (log, ends, failed)), faulty) = cc
  turned_down set moment fault receipt (at, is, inr (inr (log, own, ends, due, asks)), faulty) = (log, receipt, at, fault, asks)

  -- a feed that ended so did what its ending says
  pub feeds_end : (moment : Option ℤ) (end : FeedEnd) (receipt : Option (List Entry))
      → feeding.Feeds opening (feeding.feed_read (folder_read files before now) feed.dir feed.name) moment end receipt
      → Feeds opening files before now feed (ending_of end)
  feeds_end moment (feed_end.Published published) receipt (set, r, reads, given, fed) = (set, reads.1)
  feeds_end moment (feed_end.Set (refusal.Fault f)) receipt (reads, none) = faulty f reads
  feeds_end moment (feed_end.Set refusal.NoMemory) receipt is = tt
  feeds_end moment (feed_end.Hub error.Keeper) receipt is = tt
  feeds_end moment (feed_end.Hub error.NoMemory) receipt is = tt
  feeds_end moment (feed_end.Hub (error.Refused fault)) receipt (set, r, reads, given, fed) = inr (set, reads.1, turned_down set moment fault r fed)
