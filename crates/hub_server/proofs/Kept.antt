-- What the keeper stands for that a server hands back.
use Rattle.std.proofs.Common.{◌≡◌, ℕ, false, true, [], inl, inr, subst, ap, ◌∙◌}
use Rattle.hub_core.specs.Standing.{HeldHub, IsStanding, KeeperFits}
use Rattle.hub_history.specs.Published.{Published, history}
use Rattle.hub_server.specs.Serving.{ComesBy}
use Rattle.hub_shared.specs.Standings.{Standing}
use Rattle.keeper_memory.specs.Commits.{with_commit}
use Rattle.keeper_memory.specs.Kept.{KeptState}

module _ (opening : KeptState) (stood stands : KeptState → Type 0) (hub : HeldHub) where
  -- after a history
  pub stands_by : (base : ℕ) (log : Published) (count : ℕ) → Standing opening base stood log hub stands count → (now : KeptState) → stands now → stood opening × ComesBy opening now
  stands_by base log count s now is = (s.told now is, comes (s.fits now is))
    where
      comes : IsStanding hub now → ComesBy opening now
      comes (inl same) = (history log, s.legal, inl (same ∙ s.replays))
      comes (inr last) = (history log, s.legal, inr (last.commit, last.made ∙ ap (λ kept. with_commit kept last.commit) s.replays))

  -- before one
  pub stands_still : KeeperFits stands hub → hub.commit_open ≡ false → hub.kept ≡ opening → ((kept : KeptState) → stands kept → stood kept) → (now : KeptState) → stands now → stood opening × ComesBy opening now
  stands_still fits settled kept told now is = still (fits now is)
    where
      still : IsStanding hub now → stood opening × ComesBy opening now
      still (inl same) = (subst stood (same ∙ kept) (told now is), ([], tt, inl (same ∙ kept)))
      still (inr last) = let left : false ≡ true = rw settled at last.left_open in cc
