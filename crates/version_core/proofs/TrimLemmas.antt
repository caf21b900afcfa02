-- Rows that no version shows let go.
use Rattle.std.proofs.Common.{◌≡◌, ℕ, zero, suc, ◌<◌, ◌≤◌, if◌then◌else◌, List, [], ◌∷◌, ◌++◌, true, false, ◌&&◌, leb}
use Rattle.std.proofs.Common.{length, get_or, set, refl, sym, ap, subst, ◌∙◌, arith}
use Rattle.std.proofs.lemmas.Bool.{and_from}
use Rattle.std.specs.FinMap.Entries as entries
use Rattle.std.specs.List.{AllByRecursion}
use Rattle.std.specs.Option.{option_to_list}
use Rattle.std.specs.Ordering.{is_lt}
use Rattle.reference_rules.proofs.KeyOrder.{and_first, and_second}
use Rattle.roster_types.specs.Keys.{Key, key_cmp, keyed}
use Rattle.version_core.specs.Changes.{change_key}
use Rattle.version_core.specs.History.{IsPast, Past, StandsFrom, history_key, past_key, past_of, pasts_of, rows_at}
use Rattle.version_core.specs.Since.{standing, trimmed}
use Rattle.version_core.specs.declared.history.History.{History}
use Rattle.version_core.specs.declared.row_change.RowChange.{RowChange}
use Rattle.version_core.specs.declared.since.Since.{Since}
use Rattle.version_core.proofs.SinceLemmas.{standing-trimmed}

-- without its first entry a past of more than one is one
without_first : (x y : Since RowChange) (past : Past) → IsPast (x ∷ y ∷ past) → IsPast (y ∷ past)
without_first x y past is = record { some = omega arith; same = subst (λ k. AllByRecursion (λ (e : Since RowChange). change_key e.value ≡ k) (y ∷ past)) (sym is.same.1.0) is.same.1 }

pub trimmed_key : (version : ℕ) (past : Past) → IsPast past → past_key (trimmed version past) ≡ past_key past
trimmed_key version [] is = refl
trimmed_key version (x ∷ []) is = refl
trimmed_key version (x ∷ y ∷ past) is = elim (leb y.version version) as (λ b. past_key (if b then trimmed version (y ∷ past) else x ∷ y ∷ past) ≡ change_key x.value) [ true ↦ trimmed_key version (y ∷ past) (without_first x y past is) ∙ is.same.1.0 | false ↦ refl ]

pub trimmed_past : (version : ℕ) (past : Past) → IsPast past → IsPast (trimmed version past)
trimmed_past version [] is = is
trimmed_past version (x ∷ []) is = is
trimmed_past version (x ∷ y ∷ past) is =
    elim (leb y.version version) as (λ b. IsPast (if b then trimmed version (y ∷ past) else x ∷ y ∷ past)) [
      | true ↦ trimmed_past version (y ∷ past) (without_first x y past is)
      | false ↦ is
    ]

pub trimmed_all : {A : Type 0} (P : Since A → Type 0) (version : ℕ) (entries : List (Since A)) → AllByRecursion P entries → AllByRecursion P (trimmed version entries)
trimmed_all P version [] all = all
trimmed_all P version (x ∷ []) all = all
trimmed_all P version (x ∷ y ∷ entries) all = elim (leb y.version version) as (λ b. AllByRecursion P (if b then trimmed version (y ∷ entries) else x ∷ y ∷ entries)) [ true ↦ trimmed_all P version (y ∷ entries) all.1 | false ↦ all ]

below_set : (k : Key) (histories : List History) (n : ℕ) (new : History) → ((d : History) → history_key new ≡ history_key (get_or histories n d)) → n < length histories → entries.below_all key_cmp k (keyed past_key (pasts_of (set histories n new))) ≡ entries.below_all key_cmp k (keyed past_key (pasts_of histories))
below_set k [] n new same lt = absurd (omega arith)
below_set k (h ∷ histories) zero new same lt = ap (λ (j : Key). is_lt (key_cmp k j) && entries.below_all key_cmp k (keyed past_key (pasts_of histories))) (same h)
below_set k (h ∷ histories) (suc n) new same lt = ap (λ b. is_lt (key_cmp k (history_key h)) && b) (below_set k histories n new same (omega arith))

key_at : (version : ℕ) (histories : List History) (n : ℕ) (new : History) → ((d : History) → past_of new ≡ trimmed version (past_of (get_or histories n d))) → n < length histories → AllByRecursion IsPast (pasts_of histories) → (d : History) → history_key new ≡ history_key (get_or histories n d)
key_at version [] n new is lt all d = absurd (omega arith)
key_at version (h ∷ histories) zero new is lt all d = ap past_key (is h) ∙ trimmed_key version (past_of h) all.0
key_at version (h ∷ histories) (suc n) new is lt all d = key_at version histories n new is (omega arith) all.1 d

pub trims_at : (version : ℕ) (histories : List History) (n : ℕ) (new : History) → ((d : History) → past_of new ≡ trimmed version (past_of (get_or histories n d))) → n < length histories → StandsFrom version (pasts_of histories) (pasts_of (set histories n new))
trims_at version [] n new is lt = absurd (omega arith)
trims_at version (h ∷ histories) zero new is lt = record {
  rows = λ v le. ap (λ o. option_to_list o ++ rows_at v (pasts_of histories)) (ap (standing v) (is h) ∙ standing-trimmed v version (past_of h) le);
  pasts = λ are. record {
    all = (subst IsPast (sym (is h)) (trimmed_past version (past_of h) are.all.0), are.all.1);
    ascend = subst (λ (k : Key). (entries.below_all key_cmp k (keyed past_key (pasts_of histories)) && entries.is_sorted key_cmp (keyed past_key (pasts_of histories))) ≡ true) (sym (ap past_key (is h) ∙ trimmed_key version (past_of h) are.all.0)) are.ascend;
  };
  up_to = λ v to. (subst (AllByRecursion (λ (e : Since RowChange). e.version ≤ v)) (sym (is h)) (trimmed_all (λ (e : Since RowChange). e.version ≤ v) version (past_of h) to.0), to.1);
}
trims_at version (h ∷ histories) (suc n) new is lt =
    let rest = trims_at version histories n new is (omega arith) in
    record {
      rows = λ v le. ap (λ rows. option_to_list (standing v (past_of h)) ++ rows) (rest.rows v le);
      pasts = λ are.
          let later = rest.pasts (record { all = are.all.1; ascend = and_second _ _ are.ascend }) in
          record {
            all = (are.all.0, later.all);
            ascend = and_from _ _ (below_set (history_key h) histories n new (key_at version histories n new is (omega arith) are.all.1) (omega arith) ∙ and_first _ _ are.ascend) later.ascend;
          };
      up_to = λ v to. (to.0, rest.up_to v to.1);
    }

pub stands_same : (version : ℕ) (pasts : List Past) → StandsFrom version pasts pasts
stands_same version pasts = record { rows = λ v le. refl; pasts = λ are. are; up_to = λ v to. to }

pub stands_next : (version : ℕ) (a b c : List Past) → StandsFrom version a b → StandsFrom version b c → StandsFrom version a c
stands_next version a b c first second = record { rows = λ v le. second.rows v le ∙ first.rows v le; pasts = λ are. second.pasts (first.pasts are); up_to = λ v to. second.up_to v (first.up_to v to) }
