-- How the numbers of a run begin.
use Rattle.std.proofs.Common.{◌≡◌, ◌+◌, ◌<◌, ◌≤◌, inl, ⊎_elim, ℕ, List, [], ◌∷◌, arith}
use Rattle.exchange_link.specs.Agreement.{Differ, NoneAbove}
use Rattle.status_info.specs.declared.request.Request.{Request}
use Rattle.exchange_link.specs.Requests.{AllSpent, IsReady}

-- later runs stay above
pub above_more : (a b : ℕ) (sent : List Request) → a ≤ b → NoneAbove a sent → NoneAbove b sent
above_more a b [] le h = tt
above_more a b (q ∷ qs) le h = (λ n e. let x = h.0 n e in omega (arith, le, x), above_more a b qs le h.1)

spent_from : (r run : ℕ) (sent : List Request) → run ≡ r + 1 → NoneAbove r sent → AllSpent run 0 sent
spent_from r run [] e h = tt
spent_from r run (q ∷ qs) e h = (λ n f. let x = h.0 n f in inl (omega (arith, e, x)), spent_from r run qs e h.1)

-- no request is of a later run than this one
pub below_from : (run n : ℕ) (sent : List Request) → AllSpent run n sent → NoneAbove run sent
below_from run n [] h = tt
below_from run n (q ∷ qs) h = (λ k f. ⊎_elim (λ (x : k.run < run). omega (arith, x)) (λ (x : (k.run ≡ run) × (k.count ≤ n)). omega (arith, x.0)) (h.0 k f), below_from run n qs h.1)

-- before the first exchange of a run each number of it is new
pub ready_from : (r run : ℕ) (sent : List Request) → run ≡ r + 1 → Differ sent → NoneAbove r sent → IsReady run 0 sent
ready_from r run sent e d h = record { differ = d; spent = spent_from r run sent e h }
