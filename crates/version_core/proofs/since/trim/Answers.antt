use Rattle.std.proofs.Common.{◌≡◌, ◌≤◌, ℕ, List, [], ◌∷◌, length, vec_len, refl, sym, ◌∙◌, arith, rules}
use Rattle.version_core.specs.Since.{trimmed}
use Rattle.version_core.specs.declared.since.Since.{Since}
use Rattle.version_core.proofs.since.trim.Goals as goal

-- an entry alone stays
alone : {A : Type 0} (version : ℕ) (entries : List (Since A)) → length entries ≤ 1 → trimmed version entries ≡ entries
alone version [] le = refl
alone version (x ∷ []) le = refl
alone version (x ∷ y ∷ entries) le = absurd (omega (arith, le))

pub returns-after-loop-entries-clause-entries : goal.returns-after-loop-entries-clause-entries
returns-after-loop-entries-clause-entries g c =
    let few = c.loop-entries-test.false in
    let counted = c.len.ensures in
    let len : vec_len c.loop-entries.entries ≡ length c.loop-entries.entries.items = search rules in
    sym (alone c.args.version c.loop-entries.entries.items (omega (arith, few, counted, len))) ∙ c.loop-entries.invariant.entries
