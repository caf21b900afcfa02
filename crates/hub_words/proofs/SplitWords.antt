-- Options first, and then what is read behind them.
use Rattle.std.proofs.Common.{◌≡◌, ℕ, List, Result, Ok, Err, String, Global, drop, map, string_bytes, refl}
use Rattle.std.proofs.lemmas.List.{drop-map}
use Rattle.roster_base.specs.Reading.{Gives}
use Rattle.roster_base.specs.declared.refusal.Refusal.{Refusal}
use Rattle.roster_base.specs.declared.refusal.Refusal.TheVariants as refusal
use Rattle.hub_words.specs.Words.{no_options, option_words, with_command}
use Rattle.hub_words.specs.declared.words.Options.{Options}

module _ {A B : Type 0} (make : Options → A → B) (command : ℕ → List (List ℕ) → Result A ℕ) (words : List (String Global)) (options : Options) (place : ℕ) (behind : List (String Global)) (is : behind ≡ drop place words) where
  pub split-read : (x : A) → option_words 0 no_options (map string_bytes words) ≡ Ok (options, place) → command place (map string_bytes behind) ≡ Ok x
      → with_command make command (map string_bytes words) ≡ Ok (make options x)
  split-read x begun read = rw begun (rw (drop-map string_bytes place words) (rw (← is) (rw read refl)))

  pub split-bad : (r : Refusal ℕ) → option_words 0 no_options (map string_bytes words) ≡ Ok (options, place) → Gives {X = A} {Y = A} (λ c. c) (Err r) (command place (map string_bytes behind))
      → Gives {X = B} {Y = B} (λ b. b) (Err r) (with_command make command (map string_bytes words))
  split-bad (refusal.Fault p) begun read = rw begun (rw (drop-map string_bytes place words) (rw (← is) (rw read refl)))
  split-bad refusal.NoMemory begun read = tt
