use Rattle.std.proofs.Common.{refl, sym, subst}
use Rattle.sqlite.specs.Held.{Held, state}
use Rattle.item_store.specs.Stands.{StandsFor}
use Rattle.sqlite.specs.State.{HasCleanDisk}
use Rattle.item_store.proofs.EditLemmas.{caused}
use Rattle.item_store.specs.Causes.{IsCaused}
use Rattle.std.proofs.Common.{[], ◌∷◌}
use Rattle.item_store.specs.Left.{Lasts, MayFind, MayHold, WasOpen}
use Rattle.item_store.proofs.LeftLemmas.{held_by, held_open}
use Rattle.item_store.proofs.OneMap.{found_one}
use Rattle.item_store.proofs.store.ItemStore.range.Goals as goal

pub returns-in-Err-clause-same : goal.returns-in-Err-clause-same
returns-in-Err-clause-same g c m h = subst (λ (x : Held g.row.S.Denot). StandsFor (state g.S.Store x) m) (sym c.refuse.ensures.same) (c.read_items.ensures.same m h)

pub returns-in-Err-clause-refused : goal.returns-in-Err-clause-refused
returns-in-Err-clause-refused g c m h clean live =
    let view = state g.S.Store in
    let old = c.args.self.now.connection in
    let was = subst (λ (x : Held g.row.S.Denot). HasCleanDisk (view x)) c.refuse.ensures.same clean in
    subst (λ (x : Held g.row.S.Denot). IsCaused view old x c.refuse.result) (sym c.refuse.ensures.same)
    (caused view old c.read_items.new.conn c.refuse.result c.in-Err.error c.refuse.ensures.failed (c.in-Err.ensures.asks m h was live))

pub returns-in-Ok-clause-left : goal.returns-in-Ok-clause-left
returns-in-Ok-clause-left g c m h clean live =
    let old = c.args.self.now.connection in
    held_by (state g.S.Store old) (state g.S.Store c.read_items.new.conn) m (c.read_items.ensures.left m h clean live)
    (held_open g.S.Store old m (λ db may. g.met.S.Store.settled old.store db live may) c.schema.ensures.live (c.read_items.ensures.honest clean) live h)

pub returns-in-Err-clause-left : goal.returns-in-Err-clause-left
returns-in-Err-clause-left g c m h clean live =
    let view = state g.S.Store in
    let old = c.args.self.now.connection in
    let was = subst (λ (x : Held g.row.S.Denot). HasCleanDisk (view x)) c.refuse.ensures.same clean in
    subst (λ (x : Held g.row.S.Denot). MayHold (view x) (m ∷ [])) (sym c.refuse.ensures.same)
    (held_by (view old) (view c.read_items.new.conn) m (c.read_items.ensures.left m h was live)
    (held_open g.S.Store old m (λ db may. g.met.S.Store.settled old.store db live may) c.schema.ensures.live (c.read_items.ensures.honest was) live h))

pub returns-in-Err-clause-was_open : goal.returns-in-Err-clause-was_open
returns-in-Err-clause-was_open g c = subst (λ (x : Held g.row.S.Denot). WasOpen (state g.S.Store c.args.self.now.connection) (state g.S.Store x)) (sym c.refuse.ensures.same) c.read_items.ensures.was_open

pub returns-in-Ok-clause-found : goal.returns-in-Ok-clause-found
returns-in-Ok-clause-found g c m n h live may = found_one (state g.S.Store c.read_items.new.conn) m n (returns-in-Ok-clause-left g c m h may.clean live) may

pub returns-in-Err-clause-found : goal.returns-in-Err-clause-found
returns-in-Err-clause-found g c m n h live may = found_one (state g.S.Store c.refuse.new.self.connection) m n (returns-in-Err-clause-left g c m h may.clean live) may

pub returns-in-Ok-clause-shut : goal.returns-in-Ok-clause-shut
returns-in-Ok-clause-shut g c n may shut = absurd (let none = (c.in-Ok.ensures.shut may.clean shut).0 in cc)

pub returns-in-Err-clause-shut : goal.returns-in-Err-clause-shut
returns-in-Err-clause-shut g c n may shut =
    let was = subst (λ (x : Held g.row.S.Denot). MayFind (state g.S.Store x) n) c.refuse.ensures.same may in
    (refl, record { clean = c.read_items.ensures.honest was.clean; shut = shut; db = was.db; may = (c.in-Err.ensures.shut was.clean shut).1 was.db was.may; is = was.is })

pub returns-in-Err-clause-lasts : goal.returns-in-Err-clause-lasts
returns-in-Err-clause-lasts g c = subst (λ (x : Held g.row.S.Denot). Lasts (state g.S.Store c.args.self.now.connection) (state g.S.Store x)) (sym c.refuse.ensures.same) c.read_items.ensures.lasts
