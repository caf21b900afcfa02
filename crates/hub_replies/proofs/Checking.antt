-- Replies of checks one behind another, of which each has some property.
use Rattle.std.proofs.Common.{◌≡◌, Bool, true, false, Option, None, Some, Result, Ok, Err, refl}
use Rattle.std.specs.Prelude.{⊤}
use Rattle.hub_spec.specs.rules.Answers.{either}
use Rattle.hub_spec.specs.rules.Checks.{check}
use Rattle.roster_base.specs.Reading.{◌>>=◌}
use Rattle.roster_texts.specs.Results.{found_or}
use Rattle.status_info.specs.declared.reply.Reply.{Reply}

module _ (Is : Reply → Type 0) where
  -- the reply of a refusal has it
  abbrev pub IfRefused : {A : Type 0} → Result A Reply → Type 0
  IfRefused (Ok a) = ⊤
  IfRefused (Err r) = Is r

  -- either reply has it
  abbrev pub EitherIs : Result Reply Reply → Type 0
  EitherIs (Ok r) = Is r
  EitherIs (Err r) = Is r

  pub found_is : {A : Type 0} (r : Reply) (o : Option A) → Is r → IfRefused (found_or r o)
  found_is r None is = is
  found_is r (Some x) is = tt

  pub check_is : (b : Bool) (r : Reply) → Is r → IfRefused (check b r)
  check_is true r is = tt
  check_is false r is = is

  pub then_is : {A B : Type 0} (r : Result A Reply) (f : A → Result B Reply) → IfRefused r → ((a : A) → r ≡ Ok a → IfRefused (f a)) → IfRefused (r >>= f)
  then_is (Ok a) f is rest = rest a refl
  then_is (Err x) f is rest = is

  pub then_either : {A : Type 0} (r : Result A Reply) (f : A → Result Reply Reply) → IfRefused r → ((a : A) → r ≡ Ok a → EitherIs (f a)) → EitherIs (r >>= f)
  then_either (Ok a) f is rest = rest a refl
  then_either (Err x) f is rest = is

  pub either_is : (r : Result Reply Reply) → EitherIs r → Is (either r)
  either_is (Ok r) is = is
  either_is (Err r) is = is
