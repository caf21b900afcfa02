use Rattle.std.proofs.Common.{◌≡◌, ◌++◌, [], map, true, append_assoc, append-nil, sym, ap, subst, refl, ◌∙◌}
use Rattle.item_maps.specs.Edits.{entry_of}
use Rattle.keeper_sqlite.specs.Rest.{rest_of}
use Rattle.keeper_sqlite.specs.hub.Rows.{AreRead}
use Rattle.keeper_sqlite.proofs.hub.spans.read_all.Goals as goal

pub pieces-preserved : goal.pieces-preserved
pieces-preserved g c =
    let was = c.pieces.invariant in
    let next = c.in_ok-items.ensures in
    record {
      same = λ m h. next.same m (was.same m h);
      trust = λ sure. was.trust (next.trust sure);
      held = λ n h. was.held n (next.held n h);
      signs = λ sign h. was.signs sign (next.signs sign h);
      faults = next.cause ∙ was.faults;
      going = sym c.is_over.ensures ∙ c.if-is_over.false;
      read = λ m stands sure start.
          let seen = was.read m stands (next.trust sure) start in
          let piece = map entry_of c.in_ok-items.items.items in
          let items = next.items m (was.same m stands) sure in (
            seen.0 ++ piece,
            append_assoc seen.0 piece (rest_of c.next.new.self m) ∙ ap (λ es. seen.0 ++ es) items ∙ seen.1,
            c.in_ok-take_in.ensures seen.0 seen.2 c.if-not-branch.false,
          );
    }

-- nothing is left, so all is read
pub returns-then-is_over-clause-read : goal.returns-then-is_over-clause-read
returns-then-is_over-clause-read g c m stands sure start =
    let was = c.pieces.invariant in
    let next = c.in_ok-items.ensures in
    let seen = was.read m stands (next.trust sure) start in
    let piece = map entry_of c.in_ok-items.items.items in
    let over : c.next.new.self.is_over ≡ true = sym c.is_over.ensures ∙ c.if-is_over.true in
    let none : rest_of c.next.new.self m ≡ [] = rw over refl in
    let whole = ap (λ es. seen.0 ++ es) (sym (append-nil piece) ∙ ap (λ es. piece ++ es) (sym none) ∙ next.items m (was.same m stands) sure) ∙ seen.1 in
    subst (λ es. AreRead c.args.base es c.take_in.new.read.rows.items c.take_in.new.read.later) whole (c.in_ok-take_in.ensures seen.0 seen.2 c.if-not-branch.false)
