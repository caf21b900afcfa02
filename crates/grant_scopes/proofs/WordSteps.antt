-- The words of a text that names scopes.
use Rattle.std.proofs.Common.{◌≡◌, ◌&&◌, ◌||◌, ℕ, Bool, true, false, List, [], ◌∷◌, Option, None, Some, MatchOption}
use Rattle.std.proofs.Common.{bytes_eq, drop, length, map, not, refl, sym, subst, ap, ◌∙◌}
use Rattle.std.specs.Borrow.{Bor}
use Rattle.std.specs.List.{filter, list_all, list_any, starts_with}
use Rattle.std.specs.Prelude.{nat_eq, option_copied, if◌then◌else◌}
use Rattle.std.specs.Str.{IsCharBoundary}
use Rattle.std.specs.Str.Pattern.{FindsTextPrefix, StripsPrefix}
use Rattle.std.proofs.lemmas.Bool.{cond-false, cond-true}
use Rattle.std.proofs.lemmas.Str.Pattern.{starts_text}
use Rattle.roster_values.specs.Lists.{is_filled}
use Rattle.grant_scopes.specs.Words.{behind, is_scope, last_word}

-- what `strip_prefix` of std gives
pub behind_front : (front text : List ℕ) (r : Option (Bor (List ℕ))) → MatchOption r (FindsTextPrefix front text None) (λ x. StripsPrefix (FindsTextPrefix front) text x.now) → option_copied r ≡ behind front text
unfolding behind
behind_front front text None lacks = sym (cond-false (starts_with nat_eq text front) (Some (drop (length front) text)) None (sym (starts_text false front text lacks)))
behind_front front text (Some x) strips =
    let n = strips.0 in
    let found = strips.1 in
    let starts : starts_with nat_eq text front ≡ true = sym (starts_text true front text (n, found, subst (IsCharBoundary text) (sym found.0) found.2)) in
    sym (cond-true (starts_with nat_eq text front) (Some (drop (length front) text)) None starts ∙ ap (λ k. Some (drop k text)) (sym found.0) ∙ ap Some (sym strips.2))

kept_all : (word : List ℕ) (words : List (List ℕ)) (filled : Bool) (rest : Bool) → rest ≡ list_all is_scope (map last_word words)
    → ((not filled || is_scope (last_word word)) && rest) ≡ list_all is_scope (map last_word (if filled then word ∷ words else words))
kept_all word words true rest e = ap (λ b. is_scope (last_word word) && b) e
kept_all word words false rest e = e

-- each piece between spaces is empty or a scope where each word is a scope
pub all_words : (pieces : List (List ℕ)) → list_all (λ p. not (is_filled p) || is_scope (last_word p)) pieces ≡ list_all is_scope (map last_word (filter is_filled pieces))
all_words [] = refl
all_words (p ∷ pieces) = kept_all p (filter is_filled pieces) (is_filled p) _ (all_words pieces)

kept_any : (word piece : List ℕ) (pieces : List (List ℕ)) (filled : Bool) (rest : Bool) → rest ≡ list_any (bytes_eq word) (map last_word pieces)
    → ((filled && bytes_eq word (last_word piece)) || rest) ≡ list_any (bytes_eq word) (map last_word (if filled then piece ∷ pieces else pieces))
kept_any word piece pieces true rest e = ap (λ b. bytes_eq word (last_word piece) || b) e
kept_any word piece pieces false rest e = e

-- a word stands among the pieces between spaces where it stands among the words
pub some_word : (word : List ℕ) (pieces : List (List ℕ)) → list_any (λ p. is_filled p && bytes_eq word (last_word p)) pieces ≡ list_any (bytes_eq word) (map last_word (filter is_filled pieces))
some_word word [] = refl
some_word word (p ∷ pieces) = kept_any word p (filter is_filled pieces) (is_filled p) _ (some_word word pieces)
