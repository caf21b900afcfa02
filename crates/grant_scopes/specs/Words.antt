-- Texts of scopes: words between spaces.
use Rattle.std.specs.Prelude.{ℕ, ◌+◌, ◌*◌, Bool, List, [], ◌∷◌, Option, None, Some, bytes_eq, codes, drop, length, map}
use Rattle.std.specs.Prelude.{nat_eq, unwrap_or, if◌then◌else◌}
use Rattle.std.specs.List.{filter, list_all, list_any, slice_split, starts_with}
use Rattle.roster_texts.specs.Trim.{is_space}
use Rattle.roster_values.specs.Lists.{is_filled}
use Rattle.grant_scopes.specs.Opens.{Scope, scopes}

-- what stands in front of the last word in the URI of a scope
abbrev pub scope_base : List ℕ
scope_base = codes "https://purl.imsglobal.org/spec/or/v1p1/scope/"

-- what stands behind a text at the front of another
unfoldable pub behind : List ℕ → List ℕ → Option (List ℕ)
behind front text = if starts_with nat_eq text front then Some (drop (length front) text) else None

-- the last word of a scope, where the whole URI stands or that word alone
abbrev pub last_word : List ℕ → List ℕ
last_word text = unwrap_or (behind scope_base text) text

-- the words between spaces
unfoldable pub words_of : List ℕ → List (List ℕ)
words_of text = map last_word (filter is_filled (slice_split is_space text))

-- the word of a scope stands among words
abbrev pub is_named : List (List ℕ) → Scope → Bool
is_named words s = list_any (bytes_eq s.word) words

-- a word is that of a scope
unfoldable pub is_scope : List ℕ → Bool
is_scope word = list_any (λ s. bytes_eq s.word word) scopes

-- the bits of the scopes that stand among the words, from bit 0 on
abbrev pub bits_among : List Scope → List (List ℕ) → ℕ
bits_among [] words = 0
bits_among (s ∷ ss) words = (if is_named words s then 1 else 0) + 2 * bits_among ss words

-- the set of the scopes that a text names, where each of its words is a scope
unfoldable pub scopes_in : List ℕ → Option ℕ
scopes_in text = if list_all is_scope (words_of text) then Some (bits_among scopes (words_of text)) else None
