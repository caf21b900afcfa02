use Rattle.std.proofs.Common.{◌≡◌, ◌+◌, ◌-◌, if◌then◌else◌, Some, None, true, false, leb, take, sym, ap, subst, ◌∙◌}
use Rattle.std.proofs.Common.{arith}
use Rattle.std.proofs.lemmas.Bool.Decides.{nat_tests}
use Rattle.std.specs.Option.{option_or}
use Rattle.version_core.specs.Since.{standing}
use Rattle.version_core.proofs.SinceLemmas.{standing-last}
use Rattle.version_core.proofs.since.standing.Goals as goal

-- the last entry that is left stands
pub returns-then-entry-version : goal.returns-then-entry-version
returns-then-entry-version g c =
    let version = c.args.version in
    let entries = c.args.entries.now in
    let n = c.loop-left.left - 1 in
    let entry = c.index-entries-left.result in
    let one_less : n + 1 ≡ c.loop-left.left = omega (arith, c.loop-left-test.true) in
    let early : leb entry.version version ≡ true = let e = c.if-entry-version.true in grind (arith, nat_tests) in
    let step = standing-last version entries n entry (omega (arith, c.loop-left-test.true, c.loop-left.invariant.in_range)) c.index-entries-left.is in
    let whole = subst (λ m. standing version (take m entries) ≡ option_or (if leb entry.version version then Some entry.value else None) (standing version (take n entries))) one_less step in
    sym (c.loop-left.invariant.not_later ∙ whole ∙ ap (λ b. option_or (if b then Some entry.value else None) (standing version (take n entries))) early)

-- it is too young
pub loop-left-preserved : goal.loop-left-preserved
loop-left-preserved g c =
    let version = c.args.version in
    let entries = c.args.entries.now in
    let n = c.loop-left.left - 1 in
    let entry = c.index-entries-left.result in
    let one_less : n + 1 ≡ c.loop-left.left = omega (arith, c.loop-left-test.true) in
    let late : leb entry.version version ≡ false = let e = c.if-entry-version.false in grind (arith, nat_tests) in
    let step = standing-last version entries n entry (omega (arith, c.loop-left-test.true, c.loop-left.invariant.in_range)) c.index-entries-left.is in
    let whole = subst (λ m. standing version (take m entries) ≡ option_or (if leb entry.version version then Some entry.value else None) (standing version (take n entries))) one_less step in
    record {
      in_range = omega (arith, c.loop-left.invariant.in_range);
      not_later = c.loop-left.invariant.not_later ∙ whole ∙ ap (λ b. option_or (if b then Some entry.value else None) (standing version (take n entries))) late;
    }
