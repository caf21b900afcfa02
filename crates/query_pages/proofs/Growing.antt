-- Texts that grow piece by piece.
use Rattle.std.proofs.Common.{◌≡◌, List, ◌++◌, Ok, Err, Result, ap, ◌∙◌, append_assoc, OnOk}

-- two pieces, one after the other
pub grown : {A : Type 0} (old step new one other : List A) → step ≡ old ++ one → new ≡ step ++ other → new ≡ old ++ (one ++ other)
grown old step new one other e f = f ∙ ap (λ xs. xs ++ other) e ∙ append_assoc old one other

-- and where the second may have failed
pub grown_on : {A V F : Type 0} (result : Result V F) (old step new one other : List A) → step ≡ old ++ one → OnOk result (new ≡ step ++ other) → OnOk result (new ≡ old ++ (one ++ other))
grown_on (Ok v) old step new one other e f = grown old step new one other e f
grown_on (Err failed) old step new one other e f = tt
