-- A stage that goes on under a token.
use Rattle.std.proofs.Common.{◌≡◌, ◌∙◌, ℕ, Bool, true, false, List, Option, Some, None, refl}
use Rattle.std.specs.Prelude.{bytes_eq, if◌then◌else◌}
use Rattle.std.proofs.lemmas.Slice.Eq.{bytes_eq-Decides}
use Rattle.exchange_link.specs.Synchronised.{StageOn, own_stage}
use Rattle.keeper_memory.specs.copy.Copies.{Stage}

own_token_if : (b : Bool) (f s : Stage) (token : List ℕ) → (b ≡ true → f.token ≡ token) → StageOn token (if b then Some f else None) (Some s) → s.token ≡ token
own_token_if true f s token e x = x.token ∙ e refl
own_token_if false f s token e x = x

-- it has this token
pub on_token : (token : List ℕ) (o : Option Stage) (s : Stage) → StageOn token (own_stage token o) (Some s) → s.token ≡ token
on_token token None s x = x
on_token token (Some f) s x = own_token_if (bytes_eq f.token token) f s token (λ h. (bytes_eq-Decides f.token token).0 h) x
