-- The feeds of words, one after another.
use Rattle.std.proofs.Common.{◌≡◌, ◌+◌, ℕ, List, [], ◌∷◌, ◌++◌, None, Some, Ok, Err, String, Global, drop, length, map}
use Rattle.std.proofs.Common.{string_bytes, refl, ap, ◌∙◌, append_assoc, arith}
use Rattle.std.proofs.lemmas.List.{append-nil, drop_all}
use Rattle.hub_words.specs.Words.{feed_of, feed_words}
use Rattle.hub_words.specs.declared.task.Feed.{Feed}

words-on : (place : ℕ) (word : List ℕ) (rest : List (List ℕ)) (feed : Feed) (feeds : List Feed) → feed_of word ≡ Some feed → feed_words (place + 1) rest ≡ Ok feeds → feed_words place (word ∷ rest) ≡ Ok (feed ∷ feeds)
words-on place word rest feed feeds one more = rw (one, more) refl

words-bad : (place : ℕ) (word : List ℕ) (rest : List (List ℕ)) (feed : Feed) (bad : ℕ) → feed_of word ≡ Some feed → feed_words (place + 1) rest ≡ Err bad → feed_words place (word ∷ rest) ≡ Err bad
words-bad place word rest feed bad one more = rw (one, more) refl

-- how far the words are read: those that are left lead to the whole
pub record Left (place : ℕ) (words : List (String Global)) (i : ℕ) (feeds : List Feed) : Type 0 where
  pub at : ℕ
  pub at_is : at ≡ place + i
  pub given : (more : List Feed) → feed_words at (map string_bytes (drop i words)) ≡ Ok more → feed_words place (map string_bytes words) ≡ Ok (feeds ++ more)
  pub bad : (p : ℕ) → feed_words at (map string_bytes (drop i words)) ≡ Err p → feed_words place (map string_bytes words) ≡ Err p

pub left-start : (place : ℕ) (words : List (String Global)) → Left place words 0 []
left-start place words = record { at = place; at_is = omega arith; given = λ more e. e; bad = λ p e. e }

pub left-on : (place : ℕ) (words : List (String Global)) (i : ℕ) (feeds : List Feed) (word : String Global) (feed : Feed) → Left place words i feeds → drop i words ≡ word ∷ drop (i + 1) words → feed_of (string_bytes word) ≡ Some feed → Left place words (i + 1) (feeds ++ feed ∷ [])
left-on place words i feeds word feed l next one = record {
  at = l.at + 1;
  at_is = omega (arith, l.at_is);
  given = λ more e. rw (append_assoc feeds (feed ∷ []) more) (l.given (feed ∷ more) (rw next (words-on l.at (string_bytes word) _ feed more one e)));
  bad = λ p e. l.bad p (rw next (words-bad l.at (string_bytes word) _ feed p one e));
}

-- a word that names no feed
pub left-bad : (place : ℕ) (words : List (String Global)) (i : ℕ) (feeds : List Feed) (word : String Global) → Left place words i feeds → drop i words ≡ word ∷ drop (i + 1) words → feed_of (string_bytes word) ≡ None → feed_words place (map string_bytes words) ≡ Err (place + i)
left-bad place words i feeds word l next none = l.bad (place + i) (rw next (rw none (ap Err l.at_is)))

pub left-end : (place : ℕ) (words : List (String Global)) (i : ℕ) (feeds : List Feed) → Left place words i feeds → i ≡ length words → feed_words place (map string_bytes words) ≡ Ok feeds
left-end place words i feeds l e = l.given [] (rw (drop_all i words (omega (arith, e))) refl) ∙ ap Ok (append-nil feeds)
