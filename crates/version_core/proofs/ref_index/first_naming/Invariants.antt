use Rattle.std.proofs.Common.{◌≡◌, ◌-◌, ◌≤◌, length, option_copied, true}
use Rattle.std.specs.List.{AllWithin}
use Rattle.version_core.specs.Changes.{rows_of}
use Rattle.version_core.specs.History.{pasts_of, rows_at}
use Rattle.version_core.specs.RefIndex.{Fails, is_from}
use Rattle.version_core.proofs.NamingRows.{named, refers_after}
use Rattle.version_core.proofs.ref_index.first_naming.Given as goal

-- none of those before passes, and those from here on are beyond
abbrev pub invariant-loop-at : goal.invariant-loop-at
invariant-loop-at l =
    let rows = rows_of (rows_at l.version (pasts_of l.histories)) in
    let after = option_copied l.fn.after in
    let key = named l.asked.kind l.place l.asked.name.now l.asked.target.now after rows in
    record {
      in_range : l.at ≤ length l.entries;
      none : AllWithin (Fails (refers_after l.asked.kind l.place l.asked.name.now l.asked.target.now after rows) rows key) l.entries 0 l.at;
      from : AllWithin (λ entry. is_from key after entry ≡ true) l.entries l.at (length l.entries);
    }

abbrev pub decreases-loop-at : goal.decreases-loop-at
decreases-loop-at l = length l.entries - l.at
