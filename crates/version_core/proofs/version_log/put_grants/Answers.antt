use Rattle.std.proofs.Common.{◌≡◌, ◌∷◌, [], ◌<◌, ◌≤◌, false, leb, unwrap_or, sym, ap, subst, ◌∙◌, arith, rules}
use Rattle.std.proofs.lemmas.Bool.Decides.{nat_tests}
use Rattle.std.specs.List.{AllByRecursion}
use Rattle.version_core.specs.Since.{standing}
use Rattle.version_core.proofs.PutLemmas.{all_append, leb_same}
use Rattle.version_core.proofs.SinceLemmas.{standing-push, standing-pushed}
use Rattle.version_core.proofs.version_log.put_grants.Goals as goal

pub returns-in-Some-clause-now : goal.returns-in-Some-clause-now
returns-in-Some-clause-now c =
    let old = c.args.grants.now.items in
    let version = c.args.version in
    ap (λ es. unwrap_or (standing version es) []) c.push_reserved.ensures.items
    ∙ ap (λ o. unwrap_or o []) (standing-pushed version old (record { version = version; value = c.in-Some.value }) (leb_same version))
    ∙ sym (ap (λ o. unwrap_or o (unwrap_or (standing version old) [])) c.in-Some.is)

pub returns-in-Some-clause-earlier : goal.returns-in-Some-clause-earlier
returns-in-Some-clause-earlier c = λ v lt.
    let late : leb c.args.version v ≡ false = let e : v < c.args.version = lt in grind (arith, nat_tests) in
    ap (standing v) c.push_reserved.ensures.items ∙ standing-push v c.args.grants.now.items (record { version = c.args.version; value = c.in-Some.value }) late

pub returns-in-Some-clause-up_to : goal.returns-in-Some-clause-up_to
returns-in-Some-clause-up_to c = λ to.
    subst (AllByRecursion (λ entry. entry.version ≤ c.args.version)) (sym c.push_reserved.ensures.items)
    (all_append (λ entry. entry.version ≤ c.args.version) c.args.grants.now.items (record { version = c.args.version; value = c.in-Some.value } ∷ []) to (search rules, tt))
