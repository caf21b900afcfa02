use Rattle.std.proofs.Common.{Bool, sym, subst, arith}
use Rattle.sqlite.specs.Held.{Held, state}
use Rattle.sqlite.specs.State.{State}
use Rattle.item_maps.specs.Items.{Items, listed}
use Rattle.item_store.specs.Stands.{StandsFor}
use Rattle.keeper_sqlite.proofs.RangeLemmas.{whole_range}
use Rattle.keeper_sqlite.proofs.HoldingLemmas.{read_held, signs_by}
use Rattle.keeper_sqlite.specs.Trust.{MayHold, Sign, shown_by}
use Rattle.keeper_sqlite.proofs.ranges.all_of.Given.{Over}
use Rattle.keeper_sqlite.proofs.ranges.all_of.Goals.{After-range}
use Rattle.keeper_sqlite.proofs.ranges.all_of.Goals as goal

pub returns-then-len-ge-MOST-clause-same : goal.returns-then-len-ge-MOST-clause-same
returns-then-len-ge-MOST-clause-same g c m h =
    subst (λ (x : Held g.row.S.Denot). StandsFor (state g.S.Store x) m) (sym c.refuse_items.ensures.same)
    (c.range.ensures.same m h)

pub returns-clause-items : goal.returns-clause-items
returns-clause-items g c m h sure =
    whole_range 1000000000000000 c.in_ok-items.items.items (listed c.args.area c.args.from.now c.args.to.now m)
    (c.in_ok-items.ensures.items m h sure.0) (omega arith)

-- a read changes nothing of what is held
module _ (g : Over) (c : After-range g) where
  abbrev old : State
  old = state g.S.Store c.args.store.now.connection

  abbrev new : State
  new = state g.S.Store c.range.new.self.connection

  held : (lost : Bool) (n : Items) → MayHold new lost n → MayHold old lost n
  held =
      let range = c.range.ensures in
      read_held old new range.honest (λ sure. (range.honest sure.0, range.was_open sure.0 sure.1)) range.same
      range.found (λ n find down. (range.shut n find down).1)

  signs : (sign : Sign) → shown_by new sign → shown_by old sign
  signs = signs_by old new c.range.ensures.honest c.range.ensures.lasts

pub returns-in_err-items-clause-held : goal.returns-in_err-items-clause-held
returns-in_err-items-clause-held g c = held g (goal.at.returns-in_err-items-clause-held g c).After-range

pub returns-clause-held : goal.returns-clause-held
returns-clause-held g c = held g (goal.at.returns-clause-held g c).After-range

pub returns-in_err-items-clause-signs : goal.returns-in_err-items-clause-signs
returns-in_err-items-clause-signs g c = signs g (goal.at.returns-in_err-items-clause-signs g c).After-range

pub returns-clause-signs : goal.returns-clause-signs
returns-clause-signs g c = signs g (goal.at.returns-clause-signs g c).After-range

pub returns-clause-live : goal.returns-clause-live
returns-clause-live g c clean = (clean, c.in_ok-items.ensures.live clean)

pub returns-then-len-ge-MOST-clause-held : goal.returns-then-len-ge-MOST-clause-held
returns-then-len-ge-MOST-clause-held g c lost n may =
    held g (goal.at.returns-then-len-ge-MOST-clause-held g c).After-range lost n
    (subst (λ (x : Held g.row.S.Denot). MayHold (state g.S.Store x) lost n) c.refuse_items.ensures.same may)

pub returns-then-len-ge-MOST-clause-signs : goal.returns-then-len-ge-MOST-clause-signs
returns-then-len-ge-MOST-clause-signs g c sign shown =
    signs g (goal.at.returns-then-len-ge-MOST-clause-signs g c).After-range sign
    (subst (λ (x : Held g.row.S.Denot). shown_by (state g.S.Store x) sign) c.refuse_items.ensures.same shown)
