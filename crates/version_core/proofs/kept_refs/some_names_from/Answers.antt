use Rattle.std.proofs.Common.{◌≡◌, ◌∙◌, ◌+◌, ◌||◌, ℕ, zero, suc, Bool, false, List, [], ◌∷◌, drop, refl, ap, sym, arith}
use Rattle.version_core.specs.References.{names_at}
use Rattle.version_core.specs.Since.{first_from, some_from}
use Rattle.version_core.specs.declared.row_change.RowChange.{RowChange}
use Rattle.version_core.specs.declared.since.Since.{Since}
use Rattle.version_core.proofs.kept_refs.some_names_from.Goals as goal

-- where the first doesn't pass, one of the others may
others : {A : Type 0} (version : ℕ) (p : A → Bool) (entries : List (Since A)) (n : ℕ) → first_from version p (drop n entries) ≡ false → some_from version p (drop (suc n) entries) ≡ some_from version p (drop n entries)
others version p [] zero fails = refl
others version p [] (suc n) fails = refl
others version p (x ∷ []) zero fails = sym (ap (λ b. b || some_from version p []) fails)
others version p (x ∷ y ∷ entries) zero fails = sym (ap (λ b. b || some_from version p (y ∷ entries)) fails)
others version p (x ∷ entries) (suc n) fails = others version p entries n fails

pub loop-at-preserved : goal.loop-at-preserved
loop-at-preserved c =
    let next : c.loop-at.at + 1 ≡ suc c.loop-at.at = omega arith in
    let test = λ (change : RowChange). names_at c.args.place c.args.target.now change.row in
    ap (λ n. some_from c.args.version test (drop n c.args.rows.now)) next
    ∙ others c.args.version test c.args.rows.now c.loop-at.at (sym c.names_from.ensures ∙ c.if-names_from.false) ∙ c.loop-at.invariant
