-- The small part of a stage with a page more.
use Rattle.std.proofs.Common.{◌≡◌, ◌+◌, ◌++◌, ℕ, List, Bool, true, false, length, length-append, None, Option, Some}
use Rattle.std.proofs.Common.{sym, ap, ◌∙◌}
use Rattle.keeper_memory.proofs.ListLemmas.{last_from-append}
use Rattle.keeper_memory.specs.copy.Changes.{stage_after}
use Rattle.keeper_memory.specs.copy.Copies.{Stage}
use Rattle.keeper_memory.specs.copy.Lists.{last_from}
use Rattle.keeper_memory.specs.copy.States.{state_of}
use Rattle.keeper_memory.specs.declared.copy.state.StageState.{StageState}
use Rattle.roster_types.specs.Records.{Record}

pub more_staged : (s : Stage) (old : StageState) (rows : List Record) (total count : ℕ) (last : Option (List ℕ)) (done : Bool) → old ≡ state_of s → done ≡ false → count ≡ old.staged + length rows → last ≡ last_from old.last rows
    → record { pin = old.pin; token = old.token; kinds_done = old.kinds_done; staged = count; total = Some total; last = last } ≡ state_of (stage_after s rows total done)
more_staged s old rows total count last true is stays counts ends = absurd cc
more_staged s old rows total count last false is stays counts ends =
    let staged : count ≡ length (s.present ++ rows) = counts ∙ ap (λ (t : StageState). t.staged + length rows) is ∙ sym (length-append s.present rows) in
    let id : last ≡ last_from None (s.present ++ rows) = ends ∙ ap (λ (t : StageState). last_from t.last rows) is ∙ sym (last_from-append None s.present rows) in
    λ i. record { pin = (is i).pin; token = (is i).token; kinds_done = (is i).kinds_done; staged = staged i; total = Some total; last = id i }
