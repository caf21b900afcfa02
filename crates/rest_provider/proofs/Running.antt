-- Runs of a hub, one behind another.
use Rattle.std.proofs.Common.{◌≡◌, ℕ, ◌+◌, ◌≤◌, inl, inr, List, [], ◌∷◌, ◌++◌, refl, arith}
use Rattle.hub_spec.specs.rules.Runs.{Runs, Step, end_of}
use Rattle.rest_provider.specs.Exchanges.{CountsFailures}
use Rattle.rest_provider.specs.Steps.{CountsFailed}
use Rattle.version_core.specs.HubStates.{HubState}

runs_weaker : (before : HubState) (steps : List Step) (f g : ℕ) → f ≤ g → Runs before steps f → Runs before steps g
runs_weaker before [] f g few run = tt
runs_weaker before (step ∷ steps) f g few (failed, rest, does, fits, run) = (failed, rest, does, omega (arith, few, fits), run)

pub runs_behind : (before : HubState) (steps : List Step) (f : ℕ) (more : List Step) (g : ℕ) → Runs before steps f → Runs (end_of before steps) more g → Runs before (steps ++ more) (f + g)
runs_behind before [] f more g run behind = runs_weaker before more g (f + g) (omega arith) behind
runs_behind before (step ∷ steps) f more g (failed, rest, does, fits, run) behind =
    (failed, rest + g, does, omega (arith, fits), runs_behind step.after steps rest more g run behind)

pub end_behind : (before : HubState) (steps more : List Step) → end_of before (steps ++ more) ≡ end_of (end_of before steps) more
end_behind before [] more = refl
end_behind before (step ∷ steps) more = end_behind step.after steps more

-- ---- counts of failures

pub counts_one : (before now failed : ℕ) → CountsFailed before now failed → CountsFailures before now failed
counts_one before now failed (inl same) = inl same
counts_one before now failed (inr (one, rose)) = inr (omega (arith, one, rose))

pub counts_behind : (before mid now f g : ℕ) → CountsFailures before mid f → CountsFailures mid now g → CountsFailures before now (f + g)
counts_behind before mid now f g (inl (none, same)) (inl (none', same')) = inl (omega arith, omega arith)
counts_behind before mid now f g (inl (none, same)) (inr rose') = inr (omega arith)
counts_behind before mid now f g (inr rose) (inl (none', same')) = inr (omega arith)
counts_behind before mid now f g (inr rose) (inr rose') = inr (omega arith)

pub counts_stay : (count : ℕ) → count ≤ count
counts_stay count = omega arith

pub counts_rise : (one two three : ℕ) → one ≤ two → two ≤ three → one ≤ three
counts_rise one two three a b = omega (arith, a, b)
