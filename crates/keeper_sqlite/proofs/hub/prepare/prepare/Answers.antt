use Rattle.std.proofs.Common.{rules, ◌<◌, ◌^◌, map, ap, ◌∙◌, arith, inl, inr}
use Rattle.std.proofs.lemmas.Result.{on_ok_weaker}
use Rattle.item_maps.specs.Edits.{entry_of}
use Rattle.keeper_sqlite.specs.hub.Keeping.{KeepOrNew}
use Rattle.keeper_sqlite.proofs.HubKeepingLemmas.{first_keeps, is_kept, is_new, is_old, made_new, on_any, some_kept}
use Rattle.keeper_sqlite.proofs.HoldingLemmas.{made_either}
use Rattle.keeper_sqlite.proofs.hub.prepare.prepare.Goals as goal

pub returns-in-New-clause-ok : goal.returns-in-New-clause-ok
returns-in-New-clause-ok g c state this sure =
    let small : c.args.keep < 2 ^ 32 = search rules in
    let told = rw c.number.ensures at (c.in_ok-items.ensures.items this.items this.stands (c.commit.ensures.trust sure)) in
    let seen = ap (map entry_of) c.as_slice.ensures.value in
    let none = is_new c.args.keep this.items state (map entry_of c.in_ok-items.items.items) this.kept told (λ one. absurd (let other = c.in-New.ensures.one (seen ∙ one) in cc)) (λ two. absurd (let other = c.in-New.ensures.two (seen ∙ two) in cc)) in
    let stays = c.in_ok-items.ensures.same this.items this.stands in
    on_ok_weaker c.commit.result
    (made_new c.args.keep (g.S.StoredItems.stands_for c.commit.new.self) state c.as_slice-in-New.result.now this.items (omega (arith, small)) (c.as_slice-in-New.ensures.value ∙ c.in_ok-edits-in-New.ensures) none)
    (c.commit.ensures.ok this.items stays)

pub returns-in-New-clause-err : goal.returns-in-New-clause-err
returns-in-New-clause-err g c m stands = c.commit.ensures.err m (c.in_ok-items.ensures.same m stands)

pub returns-in-One-clause-ok : goal.returns-in-One-clause-ok
returns-in-One-clause-ok g c state this sure =
    let told = rw c.number.ensures at (c.in_ok-items.ensures.items this.items this.stands (c.turn.ensures.trust sure)) in
    let seen = ap (map entry_of) c.as_slice.ensures.value in
    let old = is_old c.args.keep this.items state (map entry_of c.in_ok-items.items.items) this.kept told (λ none. absurd (let other = c.in-One.ensures.none (seen ∙ none) in cc)) (λ two. absurd (let other = c.in-One.ensures.two (seen ∙ two) in cc)) in
    c.turn.ensures.ok state (record { items = this.items; stands = c.in_ok-items.ensures.same this.items this.stands; kept = old }) sure

pub returns-in-One-clause-err : goal.returns-in-One-clause-err
returns-in-One-clause-err g c m stands = c.turn.ensures.err m (c.in_ok-items.ensures.same m stands)

pub returns-in-Two-clause-ok : goal.returns-in-Two-clause-ok
returns-in-Two-clause-ok g c state this sure =
    let told = rw c.number.ensures at (c.in_ok-items.ensures.items this.items this.stands sure) in
    let seen = ap (map entry_of) c.as_slice.ensures.value in
    record {
      items = this.items;
      stands = c.in_ok-items.ensures.same this.items this.stands;
      kept = is_kept c.args.keep this.items state (map entry_of c.in_ok-items.items.items) this.kept told (λ none. absurd (let other = c.in-Two.ensures.none (seen ∙ none) in cc)) (λ one. absurd (let other = c.in-Two.ensures.one (seen ∙ one) in cc));
    }

pub returns-in_err-items-clause-err : goal.returns-in_err-items-clause-err
returns-in_err-items-clause-err g c m stands = on_any c.from_residual.result (c.all_of.ensures.same m stands)

pub returns-in_err-edits-in-New-clause-err : goal.returns-in_err-edits-in-New-clause-err
returns-in_err-edits-in-New-clause-err g c m stands = on_any c.from_residual-in_err-edits-in-New.result (c.in_ok-items.ensures.same m stands)

pub returns-clause-err : goal.returns-clause-err
returns-clause-err g c m stands = c.refuse.ensures.same m (c.in_ok-items.ensures.same m stands)

pub returns-in_err-items-clause-made : goal.returns-in_err-items-clause-made
returns-in_err-items-clause-made g c n held = inl (c.all_of.ensures.held n held)

pub returns-in_err-edits-in-New-clause-made : goal.returns-in_err-edits-in-New-clause-made
returns-in_err-edits-in-New-clause-made g c n held = inl (c.in_ok-items.ensures.held n held)

pub returns-in-New-clause-made : goal.returns-in-New-clause-made
returns-in-New-clause-made g c n held = elim (c.commit.ensures.made n held) [
  | inl was ↦ inl (c.in_ok-items.ensures.held n was.1)
  | inr came ↦ inr (
    c.in_ok-items.ensures.trust came.0,
    λ state this.
        let told = rw c.number.ensures at (c.in_ok-items.ensures.items this.items this.stands came.0) in
        let seen = ap (map entry_of) c.as_slice.ensures.value in
        let none = is_new c.args.keep this.items state (map entry_of c.in_ok-items.items.items) this.kept told (λ one. absurd (let other = c.in-New.ensures.one (seen ∙ one) in cc)) (λ two. absurd (let other = c.in-New.ensures.two (seen ∙ two) in cc)) in
        let small : c.args.keep < 2 ^ 32 = search rules in
        made_either (KeepOrNew c.args.keep) c.commit.result c.as_slice-in-New.result.now this.items n state this.kept
        (inl (first_keeps c.args.keep state c.as_slice-in-New.result.now this.items (omega (arith, small)) (c.as_slice-in-New.ensures.value ∙ c.in_ok-edits-in-New.ensures) none))
        (came.1 this.items (c.in_ok-items.ensures.same this.items this.stands)),
  )
]

pub returns-in-Two-clause-made : goal.returns-in-Two-clause-made
returns-in-Two-clause-made g c n held = inl (c.in_ok-items.ensures.held n held)

pub returns-in-One-clause-made : goal.returns-in-One-clause-made
returns-in-One-clause-made g c n held = elim (c.turn.ensures.made n held) [
  | inl there ↦ inl (c.in_ok-items.ensures.held n there)
  | inr came ↦ inr (
    c.in_ok-items.ensures.trust came.0,
    λ state this.
        let told = rw c.number.ensures at (c.in_ok-items.ensures.items this.items this.stands came.0) in
        let seen = ap (map entry_of) c.as_slice.ensures.value in
        let old = is_old c.args.keep this.items state (map entry_of c.in_ok-items.items.items) this.kept told (λ none. absurd (let other = c.in-One.ensures.none (seen ∙ none) in cc)) (λ two. absurd (let other = c.in-One.ensures.two (seen ∙ two) in cc)) in
        some_kept c.args.keep n state (came.1 state (record { items = this.items; stands = c.in_ok-items.ensures.same this.items this.stands; kept = old })),
  )
]

pub returns-clause-made : goal.returns-clause-made
returns-clause-made g c n held = inl (c.in_ok-items.ensures.held n (c.refuse.ensures.held n held))
