-- The last of some ids.
use Rattle.std.proofs.Common.{◌≡◌, ◌-◌, ℕ, suc, List, [], ◌∷◌, length, None, refl, ◌∙◌, ap, arith}
use Rattle.std.specs.Prelude.{slice_get}
use Rattle.consumer_deltas.specs.DeltaJudging.{last_id}

-- the last of some ids is their last
pub last_id-get : (ids : List (List ℕ)) → last_id None ids ≡ slice_get ids (length ids - 1)
last_id-get [] = refl
last_id-get (x ∷ []) = refl
last_id-get (x ∷ y ∷ ids) =
    let next : suc (length (y ∷ ids) - 1) ≡ length (x ∷ y ∷ ids) - 1 = omega arith in
    last_id-get (y ∷ ids) ∙ ap (slice_get (x ∷ y ∷ ids)) next
