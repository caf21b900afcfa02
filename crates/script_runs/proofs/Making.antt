-- The lines of `make`.
use Rattle.std.proofs.Common.{◌≡◌, ◌<◌, ◌+◌, ◌++◌, ◌∷◌, [], ℕ, List, Result, Ok, Err, Some, add-one, ap, append-nil}
use Rattle.std.proofs.Common.{append_assoc, get_or, inr, length, refl, subst, sym, take, ◌∙◌}
use Rattle.std.proofs.Math.Seq.{take-suc}
use Rattle.std.proofs.lemmas.Grind.{flat_map-append}
use Rattle.std.specs.List.{flat_map}
use Rattle.std.specs.Prelude.{IfOk, OnOk}
use Rattle.exchange_link.specs.declared.answer.SyncAnswer.TheVariants as sync
use Rattle.hub_commands.specs.Answers.{status_of}
use Rattle.hub_commands.specs.declared.answer.Answer.{Answer}
use Rattle.hub_commands.specs.declared.answer.End.{End}
use Rattle.hub_commands.specs.declared.answer.End.TheVariants.{NoMemory, Synced}
use Rattle.hub_words.specs.Words.{usual_keep}
use Rattle.made_districts.specs.Districts.{made_files}
use Rattle.outside_ports.specs.Files.{Stored}
use Rattle.script_runs.specs.Makings.{CopiesEnd, IsMakeAnswer, MakesDistrict, MakesIn, Publishes, grant_line, set_line}
use Rattle.script_runs.specs.Plays.{HubStep}
use Rattle.script_runs.specs.Runs.{Opens}
use Rattle.script_runs.specs.declared.play.Play.{Play}
use Rattle.world_scripts.specs.declared.script.HubLine.{HubLine}

abbrev Does : List Stored → HubLine → Play → Play → Type 0
Does files l old new = (text : List ℕ) × HubStep (Some files) l old new text

does-as : (files made : List Stored) (l line : HubLine) (old new : Play) → files ≡ made → l ≡ line → Does files l old new → Does made line old new
does-as files made l line old new same is does = subst (λ (x : HubLine). Does made x old new) is (subst (λ (fs : List Stored). Does fs l old new) same does)

pub publishes : {E : Type 0} (r : Result (Unit {0}) E) (count : ℕ) (begin mid new : Play) (files later : List Stored) (first second : HubLine) → files ≡ made_files count → later ≡ files → first ≡ set_line → second ≡ grant_line
    → Does files first begin mid → OnOk r (Does later second mid new) → OnOk r (Publishes count begin new)
publishes (Ok x) count begin mid new files later first second are same set grant done more =
    let one = does-as files (made_files count) first set_line begin mid are set done in
    let two = does-as later (made_files count) second grant_line mid new (same ∙ are) grant more in
    record { published = mid; set_text = one.0; set = one.1; grant_text = two.0; grant = two.1 }
publishes (Err e) count begin mid new files later first second are same set grant done more = tt

-- a text of some items, with that of the next
pub item_on : {X : Type 0} (f : X → List ℕ) (xs : List X) (i : ℕ) (d : X) (head text line new : List ℕ) → i < length xs → new ≡ text ++ line → text ≡ head ++ flat_map f (take i xs) → line ≡ f (get_or xs i d)
    → new ≡ head ++ flat_map f (take (i + 1) xs)
item_on f xs i d head text line new within is was one =
    is ∙ ap (λ (t : List ℕ). t ++ line) was ∙ append_assoc head (flat_map f (take i xs)) line
    ∙ ap (λ (t : List ℕ). head ++ t)
    (ap (λ (t : List ℕ). flat_map f (take i xs) ++ t) (one ∙ sym (append-nil (f (get_or xs i d)))) ∙ sym (flat_map-append f (take i xs) (get_or xs i d ∷ [])) ∙ ap (λ ys. flat_map f ys) (sym next))
  where
    next : take (i + 1) xs ≡ take i xs ++ get_or xs i d ∷ []
    next = rw add-one (take-suc xs i d within)

-- memory may run out for the line of an end
pub make_wants : (count : ℕ) (done : List ℕ) (end : End) → IsMakeAnswer count done end → IsMakeAnswer count done NoMemory
make_wants count done (Synced a) is = inr (a, is)
make_wants count done NoMemory is = is
make_wants count done end is = absurd is

-- what is so of an end with status 0: the district was copied whole
pub make_done : (count : ℕ) (done : List ℕ) (end : End) → IsMakeAnswer count done end → status_of end ≡ 0 → (version : ℕ) × (end ≡ Synced (sync.Complete version)) × MakesDistrict count (sync.Complete version) done
make_done count done (Synced (sync.Complete version)) is zero = (version, refl, is)
make_done count done (Synced a) is zero = absurd (cc zero)
make_done count done NoMemory is zero = absurd (cc zero)
make_done count done end is zero = absurd is

-- the three steps, one behind another
made_end : (count : ℕ) (begin granted : Play) (done : List ℕ) (end : End) → Opens usual_keep begin → Publishes count begin granted → CopiesEnd count granted done end → IsMakeAnswer count done end
made_end count begin granted done (Synced a) opens publishes copied = record { begin = begin; opens = opens; granted = granted; publishes = publishes; copied = copied }
made_end count begin granted done end opens publishes copied = absurd copied

pub made_in : {E : Type 0} (r : Result Answer E) (count : ℕ) (begin : Play) → Opens usual_keep begin → IfOk r (MakesIn count begin) → IfOk r (λ a. IsMakeAnswer count a.done a.end)
made_in (Ok a) count begin opens makes = made_end count begin makes.0 a.done a.end opens makes.1 makes.2
made_in (Err e) count begin opens makes = tt
