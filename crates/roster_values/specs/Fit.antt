-- Which values a field may have.
use Rattle.std.specs.Prelude.{bytes_eq, ℕ, Bool, true, false, ◌&&◌, not, List, [], ◌∷◌, Option, None, Some, nat_le}
use Rattle.std.specs.List.{list_all, list_any}
use Rattle.roster_values.specs.declared.value.Value.{Value}
use Rattle.roster_values.specs.declared.value.Value.TheVariants.{Text, Id, Day, Moment, Number, Year, Word, Texts}
use Rattle.roster_values.specs.declared.value.Value.TheVariants.{UserIds, Ref, Refs}
use Rattle.roster_values.specs.Lists.{is_comma, is_filled}
use Rattle.roster_texts.specs.Days.{is_day}
use Rattle.roster_texts.specs.Moments.{is_moment}
use Rattle.roster_texts.specs.Numbers.{is_number}
use Rattle.roster_values.specs.Shape.{has_shape, shape_of}
use Rattle.roster_values.specs.Table.{Form, Info, TextForm, IdForm, DayForm, MomentForm, NumberForm, YearForm, WordForm}
use Rattle.roster_values.specs.Table.{TextsForm, UserIdsForm, RefForm, RefsForm}
use Rattle.roster_texts.specs.Texts.{has_plain_ends, is_id}
use Rattle.roster_values.specs.UserIds.{is_user_id, UserIdParts}

-- a text that is not blank, without spaces at its ends
abbrev pub is_plain_text : List ℕ → Bool
is_plain_text t = is_filled t && has_plain_ends t

-- any byte but a comma
abbrev pub is_no_comma : ℕ → Bool
is_no_comma b = not (is_comma b)

-- what an item of a list may be
abbrev pub is_item : List ℕ → Bool
is_item t = is_plain_text t && list_all is_no_comma t

-- not the empty list
abbrev pub has_items : {A : Type 0} → List A → Bool
has_items [] = false
has_items (x ∷ xs) = true

-- parts that may be a user id
abbrev pub is_user_id_of : UserIdParts → Bool
is_user_id_of u = is_user_id u.form u.identifier

-- what a value of the form's variant may hold
abbrev pub is_good : Form → Value → Bool
is_good TextForm (Text t) = is_plain_text t
is_good IdForm (Id t) = is_id t
is_good DayForm (Day day) = is_day day
is_good MomentForm (Moment moment) = is_moment moment
is_good NumberForm (Number n) = is_number n
is_good YearForm (Year y) = nat_le y 9999
is_good (WordForm words) (Word w) = is_plain_text w && list_any (λ word. bytes_eq word w) words
is_good TextsForm (Texts ts) = has_items ts && list_all is_item ts
is_good UserIdsForm (UserIds us) = has_items us && list_all is_user_id_of us
is_good (RefForm kind) (Ref t) = is_id t
is_good (RefsForm kind) (Refs ts) = has_items ts && list_all is_id ts
is_good _ _ = true

-- a value of the form's variant, with what it may hold
abbrev pub fits_form : Form → Value → Bool
fits_form form v = has_shape (shape_of form) v && is_good form v

-- the same of a field: nothing fits where it is not required
abbrev pub fits_parts : Form → Bool → Option Value → Bool
fits_parts form required None = not required
fits_parts form required (Some v) = fits_form form v

-- what may stand in a field
abbrev pub fits : Info → Option Value → Bool
fits info o = fits_parts info.form info.required o
