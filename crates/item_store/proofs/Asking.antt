-- Statements asked one after another.
use Rattle.std.proofs.Common.{◌≢◌, ℕ, pos, inl, inr, List, [], ◌∷◌, ◌++◌, Result, Ok, Err, Vec, IfOk, IfErr, refl, sym}
use Rattle.std.proofs.Common.{subst}
use Rattle.std.specs.declared.alloc.Global.{Global}
use Rattle.sqlite.specs.declared.error.Error.{Error}
use Rattle.sqlite.specs.declared.error.Error.TheVariants.{SqliteFailure}
use Rattle.sqlite.specs.declared.error.ErrorCode.TheVariants.{OutOfMemory}
use Rattle.sqlite.specs.declared.types.Value.TheVariants.{Int}
use Rattle.sqlite.specs.Order.{Row}
use Rattle.sqlite.specs.State.{State, Shown, FailsToQuery}
use Rattle.item_store.specs.Asked.{Asks, Ran, Refused, Leads, IsRefused, AsksInTurn}
use Rattle.item_store.specs.Items.{params_of}
use Rattle.item_store.specs.Stands.{Earlier}
use Rattle.item_store.specs.Table.{select_text}

pub asks_select : (area : ℕ) (from to : List ℕ) (limit : ℕ) (old new : State) (r : Result (Vec Row Global) Error)
    → IfOk r (λ rows. Shown select_text (params_of area from to (Int (pos limit) ∷ [])) old new rows.items)
    → IfErr r (FailsToQuery select_text (params_of area from to (Int (pos limit) ∷ [])) old new) → Asks old new r
asks_select area from to limit old new (Ok rows) ok err = (select_text, inr (inr (inr (inr (inr (inl refl))))), _, inr (rows.items, ok))
asks_select area from to limit old new (Err e) ok err = (select_text, inr (inr (inr (inr (inr (inl refl))))), _, inr err)

module _ {H : Type 0} (view : H → State) where
  leads_on : (ms ns : List H) (first mid last : H) → Leads view ms first mid → Leads view ns mid last → Leads view (ms ++ ns) first last
  leads_on [] ns first mid last here on = subst (λ (x : H). Leads view ns x last) (sym here) on
  leads_on (m ∷ ms) ns first mid last here on = (here.0, leads_on ms ns m mid last here.1 on)

  -- statements that ran after others
  pub joined : {first mid last : H} → (ms : List H) × Leads view ms first mid → (ns : List H) × Leads view ns mid last → (between : List H) × Leads view between first last
  joined {first} {mid} {last} before on = (before.0 ++ on.0, leads_on before.0 on.0 first mid last before.1 on.1)

  pub one : {first last : H} → Ran (view first) (view last) → (between : List H) × Leads view between first last
  one {first} {last} ran = (last ∷ [], (ran, refl))

  -- a refusal after statements that ran
  pub late : {first mid last : H} (e : Error) → (ms : List H) × Leads view ms first mid → IsRefused view mid last e → IsRefused view first last e
  late {first} {mid} {last} e before it = record {
    between = before.0 ++ it.between;
    before = it.before;
    after = it.after;
    leads = leads_on before.0 it.between first mid it.before before.1 it.leads;
    refused = it.refused;
    later = it.later;
  }

  pub at_once : {first last : H} (e : Error) → Refused (view first) (view last) e → IsRefused view first last e
  at_once {first} {last} e refused = record { between = []; before = first; after = last; leads = refl; refused = refused; later = λ clean. clean }

  -- a call of one statement
  pub once : {T : Type 0} (first last : H) (r : Result T Error) → Asks (view first) (view last) r → AsksInTurn view first last r
  once first last (Ok x) ran = one ran
  once first last (Err e) refused = λ _. at_once e refused

  -- a call after others that ran
  pub in_turn : {T : Type 0} (first mid last : H) (r : Result T Error) → (between : List H) × Leads view between first mid → AsksInTurn view mid last r → AsksInTurn view first last r
  in_turn first mid last (Ok x) before ran = joined before ran
  in_turn first mid last (Err e) before refused = λ cause. late e before (refused cause)

  -- a rollback after a refusal changes nothing of it
  pub rolled : {T : Type 0} (first mid last : H) (r : Result T Error) → Earlier (view mid) (view last) → AsksInTurn view first mid r → IfErr r (λ e. e ≢ SqliteFailure OutOfMemory → IsRefused view first last e)
  rolled first mid last (Ok x) later h = tt
  rolled first mid last (Err e) later h = λ cause.
      let it = h cause in
      record { between = it.between; before = it.before; after = it.after; leads = it.leads; refused = it.refused; later = λ clean. it.later (later clean) }
