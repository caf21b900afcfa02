-- The texts that stood in earlier records.
use Rattle.std.proofs.Common.{◌≡◌, ◌||◌, ℕ, Bool, true, false, List, [], ◌∷◌, ◌++◌, BTreeSet, Global, String, bytes_eq}
use Rattle.std.proofs.Common.{cond, map, string_bytes, string_cmp, refl, ◌∙◌}
use Rattle.std.proofs.lemmas.Cmp.{nat_list_eq_equiv}
use Rattle.std.proofs.lemmas.List.{map_push}
use Rattle.std.proofs.lemmas.List.Folds.{list_any-append}
use Rattle.std.proofs.lemmas.Map.Text.{btree_set_updates_text}
use Rattle.std.specs.BTreeSet as sorted
use Rattle.std.specs.BTreeSet.{contains_text}
use Rattle.std.specs.Cmp.Lexicographic.{slice_cmp}
use Rattle.std.specs.Ordering.{nat_cmp}
use Rattle.grant_files.specs.declared.known.Known.{Known}
use Rattle.grant_files.specs.Grants.{stands_in}
use Rattle.grant_files.specs.Known.{HoldsTexts, Knows, Notes}
use Rattle.grant_scopes.specs.declared.entry.GrantEntry.{GrantEntry}
use Rattle.grant_scopes.specs.Entries.{entry_caller, entry_token}

chosen : (a b : Bool) → cond a true b ≡ (a || b)
chosen true b = refl
chosen false b = refl

-- a text that was put into a set is noted
pub noted : (old new : BTreeSet (String Global)) (key : String Global) (text : List ℕ) → string_bytes key ≡ text
    → sorted.UpdatesBy string_cmp (λ k. slice_cmp nat_cmp (string_bytes key) (string_bytes k)) old new true → Notes old new text
noted old new key text same updates q = btree_set_updates_text (string_bytes key) old new true updates q ∙ rw same (chosen (bytes_eq text q) (contains_text old q))

behind : (a b : Bool) → (a || b) ≡ (b || (a || false))
behind true true = refl
behind true false = refl
behind false true = refl
behind false false = refl

holds_more : (old new : BTreeSet (String Global)) (texts : List (List ℕ)) (text : List ℕ) → HoldsTexts old texts → Notes old new text → HoldsTexts new (texts ++ text ∷ [])
holds_more old new texts text h n q = n q ∙ rw (h q, list_any-append (bytes_eq q) texts (text ∷ []), nat_list_eq_equiv.symm text q) (behind (bytes_eq q text) (stands_in q texts))

-- the caller and the token of one more grant are known
pub knows_more : (old new : Known) (front : List GrantEntry) (entry : GrantEntry) → Knows old front → Notes old.callers new.callers entry.caller → Notes old.tokens new.tokens entry.token
    → Knows new (front ++ entry ∷ [])
knows_more old new front entry k c t = record {
  callers = rw (map_push entry_caller front entry) (holds_more old.callers new.callers (map entry_caller front) entry.caller k.callers c);
  tokens = rw (map_push entry_token front entry) (holds_more old.tokens new.tokens (map entry_token front) entry.token k.tokens t);
}
