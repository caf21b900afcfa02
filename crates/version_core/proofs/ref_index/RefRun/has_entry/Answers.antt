use Rattle.std.proofs.Common.{get_or, rules}
use Rattle.std.proofs.lemmas.Fn.{always_returns_same}
use Rattle.roster_values.specs.Kinds.{place_of_kind}
use Rattle.version_core.specs.RefIndex.{Naming, naming_cmp, naming_of, is_entry_of}
use Rattle.version_core.proofs.SayingLemmas.{any_at, said}
use Rattle.version_core.proofs.ref_index.RefRun.has_entry.Goals as goal

pub returns-in-Ok : goal.returns-in-Ok
returns-in-Ok c = λ _.
    let key : Naming = ((place_of_kind c.args.kind, c.args.place, c.args.target.now), c.args.id.now) in
    let entries = c.entries.result.now in
    let here = c.in-Ok.ensures.position (λ entry. naming_cmp (naming_of entry) key) (always_returns_same _ _ _ (λ a r f called. (search rules, search rules))) in
    rw (← c.entries.ensures.entries) (any_at (is_entry_of key.0 key.1) entries c.in-Ok._at c.in-Ok.ensures.bound (λ d. said key.0 key.1 (get_or entries c.in-Ok._at d) (here d)))
