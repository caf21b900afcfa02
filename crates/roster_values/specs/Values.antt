-- The value that a text has in a field, or what is wrong with it.
use Rattle.std.specs.Prelude.{bytes_eq, ℕ, ◌==◌, Bool, true, false, List, [], ◌∷◌, Option, Some, None, Result, Ok, Err}
use Rattle.std.specs.Prelude.{length, if◌then◌else◌}
use Rattle.std.specs.List.{list_any}
use Rattle.roster_texts.specs.declared.fault.ValueFault.{ValueFault}
use Rattle.roster_texts.specs.declared.fault.ValueFault.TheVariants.{BadDay, BadMoment, Empty, NotInList}
use Rattle.roster_values.specs.declared.value.Value.{Value}
use Rattle.roster_values.specs.declared.value.Value.TheVariants.{Text, Id, Day, Moment, Number, Year, Flag, Word, Texts}
use Rattle.roster_values.specs.declared.value.Value.TheVariants.{UserIds, Ref, Refs}
use Rattle.roster_values.specs.Table.{Form, Info, TextForm, IdForm, DayForm, MomentForm, NumberForm, YearForm, FlagForm}
use Rattle.roster_values.specs.Table.{WordForm, TextsForm, UserIdsForm, RefForm, RefsForm}
use Rattle.roster_values.specs.Lists.{id_of, ids_of, items_of, user_ids_of}
use Rattle.roster_texts.specs.Moments.{moment_of, written_day_of}
use Rattle.roster_texts.specs.Numbers.{flag_of, number_of, year_of}
use Rattle.roster_texts.specs.Results.{found_or}
use Rattle.roster_texts.specs.Trim.{trimmed}

-- a blank field: Empty where it is required, else absent
abbrev pub blank_of : Bool → Result (Option Value) ValueFault
blank_of true = Err Empty
blank_of false = Ok None

-- the word that a text is, of a list of words
unfoldable pub word_of : List (List ℕ) → List ℕ → Result (List ℕ) ValueFault
word_of words t = if list_any (λ word. bytes_eq word t) words then Ok t else Err NotInList

-- a value of a variant, from what its text reads as
abbrev pub one : {A : Type 0} → (A → Value) → Result A ValueFault → Result (Option Value) ValueFault
one variant (Ok x) = Ok (Some (variant x))
one variant (Err e) = Err e

-- the same of a list, where one without items is blank
abbrev pub many : {A : Type 0} → Bool → (List A → Value) → Result (List A) ValueFault → Result (Option Value) ValueFault
many required variant (Ok []) = blank_of required
many required variant (Ok (x ∷ xs)) = Ok (Some (variant (x ∷ xs)))
many required variant (Err e) = Err e

-- the value of a text that is not blank
unfoldable pub form_value : Form → Bool → List ℕ → Result (Option Value) ValueFault
form_value TextForm required t = Ok (Some (Text t))
form_value IdForm required t = one (λ x. Id x) (id_of t)
form_value DayForm required t = one (λ x. Day x) (found_or BadDay (written_day_of t))
form_value MomentForm required t = one (λ x. Moment x) (found_or BadMoment (moment_of t))
form_value NumberForm required t = one (λ x. Number x) (number_of t)
form_value YearForm required t = one (λ x. Year x) (year_of t)
form_value FlagForm required t = one (λ x. Flag x) (flag_of t)
form_value (WordForm words) required t = one (λ x. Word x) (word_of words t)
form_value TextsForm required t = many required (λ x. Texts x) (Ok (items_of t))
form_value UserIdsForm required t = many required (λ x. UserIds x) (user_ids_of t)
form_value (RefForm kind) required t = one (λ x. Ref x) (id_of t)
form_value (RefsForm kind) required t = many required (λ x. Refs x) (ids_of t)

-- the value of a text in a field, once the spaces at its ends are dropped
unfoldable pub value_of : Info → List ℕ → Result (Option Value) ValueFault
value_of info t =
    if length (trimmed t) == 0 then blank_of info.required
    else form_value info.form info.required (trimmed t)
