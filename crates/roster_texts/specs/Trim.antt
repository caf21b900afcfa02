-- Spaces round a text.
use Rattle.std.specs.Prelude.{ℕ, ◌==◌, Bool, List, [], ◌∷◌, reverse, if◌then◌else◌}
use Rattle.roster_texts.specs.Signs.{space}

abbrev pub is_space : ℕ → Bool
is_space b = b == space

-- a text without the spaces in front
abbrev pub without_front : List ℕ → List ℕ
without_front [] = []
without_front (b ∷ t) = if is_space b then without_front t else b ∷ t

-- a text without the spaces at its end
abbrev pub without_end : List ℕ → List ℕ
without_end t = reverse (without_front (reverse t))

-- a text without the spaces at either end
unfoldable pub trimmed : List ℕ → List ℕ
trimmed t = without_end (without_front t)
