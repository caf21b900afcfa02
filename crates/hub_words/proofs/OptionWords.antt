-- The options of words, one after another.
use Rattle.std.proofs.Common.{◌≡◌, ◌+◌, ℕ, List, [], ◌∷◌, None, Some, Err, Ok, String, Global, length, map}
use Rattle.std.proofs.Common.{string_bytes, refl, sym, subst, arith}
use Rattle.roster_base.specs.Reading.{◌>>=◌}
use Rattle.hub_words.specs.Words.{option_of, option_words, set_option}
use Rattle.hub_words.specs.declared.words.OptionWord.{OptionWord}
use Rattle.hub_words.specs.declared.words.Options.{Options}

module _ (place : ℕ) (options : Options) where
  abbrev Words : Type 0
  Words = List (String Global)

  -- no word is left
  pub options-none : (words : Words) → length words ≡ 0 → option_words place options (map string_bytes words) ≡ Ok (options, place)
  unfolding option_words
  options-none [] e = refl
  options-none (word ∷ words) e = absurd (omega arith)

  -- a word that is no option begins the command
  pub options-command : (words : Words) (word : String Global) (behind : Words) → words ≡ word ∷ behind → option_of options (string_bytes word) ≡ None → option_words place options (map string_bytes words) ≡ Ok (options, place)
  unfolding option_words
  options-command words word behind is none = subst (λ ws. option_words place options (map string_bytes ws) ≡ Ok (options, place)) (sym is) (begun behind)
    where
      begun : (behind : Words) → option_words place options (map string_bytes (word ∷ behind)) ≡ Ok (options, place)
      begun [] = rw none refl
      begun (value ∷ rest) = rw none refl

  -- an option without its value
  pub options-missing : (words : Words) (word : String Global) (behind : Words) (option : OptionWord) → words ≡ word ∷ behind → length behind ≡ 0 → option_of options (string_bytes word) ≡ Some option → option_words place options (map string_bytes words) ≡ Err (place + 1)
  unfolding option_words
  options-missing words word behind option is none names = subst (λ ws. option_words place options (map string_bytes ws) ≡ Err (place + 1)) (sym is) (alone behind none)
    where
      alone : (behind : Words) → length behind ≡ 0 → option_words place options (map string_bytes (word ∷ behind)) ≡ Err (place + 1)
      alone [] e = rw names refl
      alone (value ∷ rest) e = absurd (omega arith)

  -- an option with its value
  pub options-next : (words : Words) (word value : String Global) (behind rest : Words) (option : OptionWord) → words ≡ word ∷ behind → behind ≡ value ∷ rest → option_of options (string_bytes word) ≡ Some option
      → option_words place options (map string_bytes words) ≡ (set_option (place + 1) options option (string_bytes value) >>= (λ more. option_words (place + 2) more (map string_bytes rest)))
  unfolding option_words
  options-next words word value behind rest option is follows names =
      subst (λ ws. option_words place options (map string_bytes ws) ≡ (set_option (place + 1) options option (string_bytes value) >>= (λ more. option_words (place + 2) more (map string_bytes rest)))) (sym is)
      (subst (λ ws. option_words place options (map string_bytes (word ∷ ws)) ≡ (set_option (place + 1) options option (string_bytes value) >>= (λ more. option_words (place + 2) more (map string_bytes rest)))) (sym follows) here)
    where
      here : option_words place options (map string_bytes (word ∷ value ∷ rest)) ≡ (set_option (place + 1) options option (string_bytes value) >>= (λ more. option_words (place + 2) more (map string_bytes rest)))
      here = rw names refl
