-- Writes to the hub of a small district.
use Rattle.std.proofs.Common.{◌≡◌, ℕ, pos, List, [], ◌∷◌, true, false, Option, None, Some, refl, map, codes}
use Rattle.hub_spec.specs.examples.Hubs.{east, hub, second}
use Rattle.hub_spec.specs.examples.Lake.{noon}
use Rattle.hub_spec.specs.rules.Answers.{cause_of}
use Rattle.hub_spec.specs.rules.Checks.{first_open, may_read}
use Rattle.version_changes.specs.grants.Granting.{grants_from}
use Rattle.hub_spec.specs.rules.Refusals.{delete_refusal, put_refusal}
use Rattle.hub_spec.specs.rules.Verdicts.{repeated, Refused, Repeat}
use Rattle.hub_spec.specs.views.Seen.{sees_row, is_at_school, sees_user, sees_class_of}
use Rattle.grant_scopes.specs.declared.entry.GrantEntry.{GrantEntry}
use Rattle.grant_scopes.specs.declared.schools.Schools.TheVariants.{All, Listed}
use Rattle.roster_base.specs.Order.{placed}
use Rattle.roster_types.specs.Keys.{key_cmp}
use Rattle.roster_types.specs.Records.{Record}
use Rattle.roster_types.specs.declared.status.Status.TheVariants.{Active}
use Rattle.roster_values.specs.declared.kind.Kind.{Kind}
use Rattle.roster_values.specs.declared.kind.Kind.TheVariants.{Categories, LineItems, Results}
use Rattle.roster_values.specs.declared.value.Value.{Value}
use Rattle.roster_values.specs.declared.value.Value.TheVariants.{Text, Day, Word, Ref}
use Rattle.status_info.specs.declared.cause.Cause.TheVariants as cause
use Rattle.version_core.specs.Outcomes.{mark_taken_outcome, stored_outcome}
use Rattle.version_core.specs.declared.grant_row.GrantRow.{GrantRow}
use Rattle.version_core.specs.declared.mark.MarkRow.{MarkRow}
use Rattle.version_core.specs.declared.mark.Write.{Write}

abbrev delete : Kind → List ℕ → Write
delete kind id = record { delete = true; kind = kind; id = id; body = [] }

abbrev put : Kind → List ℕ → List ℕ → Write
put kind id body = record { delete = false; kind = kind; id = id; body = body }

-- a row of the feed isn't the caller's, and a row that isn't there isn't found
deletes : delete_refusal second east (delete Categories (codes "hw")) ∷ delete_refusal second east (delete Categories (codes "zzz")) ∷ [] ≡ Some 4 ∷ Some 3 ∷ []
unfolding sees_row key_cmp
deletes = refl

abbrev line_item : List ℕ → Option Value → Record
line_item id period = record {
  kind = LineItems;
  id = id;
  status = Active;
  modified = pos noon;
  values = Some (Text (codes "Set 2")) ∷ None ∷ Some (Day (pos 19967)) ∷ Some (Day (pos 19974)) ∷ Some (Ref (codes "k1")) ∷ Some (Ref (codes "hw")) ∷ period ∷ None ∷ None ∷ [];
  metadata = [];
}

abbrev result : List ℕ → List ℕ → List ℕ → Record
result id item student = record {
  kind = Results;
  id = id;
  status = Active;
  modified = pos noon;
  values = Some (Ref item) ∷ Some (Ref student) ∷ Some (Word (codes "submitted")) ∷ None ∷ Some (Day (pos 19968)) ∷ None ∷ [];
  metadata = [];
}

-- a term is no grading period; a student of another school and a line item that isn't there lie outside the grant
puts : put_refusal second east (put LineItems (codes "li3") []) (line_item (codes "li3") (Some (Ref (codes "t1"))))
    ∷ put_refusal second east (put LineItems (codes "li3") []) (line_item (codes "li3") (Some (Ref (codes "g1"))))
    ∷ put_refusal second east (put LineItems (codes "li2") []) (line_item (codes "li2") None)
    ∷ put_refusal second east (put Results (codes "r2") []) (result (codes "r2") (codes "li1") (codes "u3"))
    ∷ put_refusal second east (put Results (codes "r9") []) (result (codes "r9") (codes "li9") (codes "u1"))
    ∷ put_refusal second east (put LineItems (codes "li1") []) (line_item (codes "li1") None)
    ∷ [] ≡ Some 6 ∷ None ∷ None ∷ Some 5 ∷ Some 5 ∷ Some 4 ∷ []
unfolding sees_row is_at_school sees_user sees_class_of key_cmp
puts = refl

-- the same write repeats what was kept, another is refused
abbrev held : MarkRow
held = record { caller = codes "east"; number = 7; write = put LineItems (codes "li2") (codes "Set 2"); kept = record { outcome = stored_outcome; version = 3 } }

again : repeated held (put LineItems (codes "li2") (codes "Set 2")) ∷ repeated held (put LineItems (codes "li2") (codes "Set 3")) ∷ [] ≡ Repeat (record { outcome = stored_outcome; version = 3 }) ∷ Refused mark_taken_outcome ∷ []
again = refl

causes : map cause_of (0 ∷ 1 ∷ 2 ∷ 3 ∷ 4 ∷ 5 ∷ 6 ∷ 7 ∷ 8 ∷ 9 ∷ [])
    ≡ cause.Stored ∷ cause.MarkOfAnotherWrite ∷ cause.BadBody ∷ cause.NoSuchObject ∷ cause.OwnedByAnother ∷ cause.ReferenceOutsideGrant
    ∷ cause.ReferenceOfWrongType ∷ cause.TooManyRows ∷ cause.LastVersion ∷ cause.Deleted ∷ []
causes = refl

-- which versions the caller may ask for
pins : map (may_read hub east) (0 ∷ 1 ∷ 2 ∷ 3 ∷ 9 ∷ []) ≡ false ∷ false ∷ true ∷ false ∷ false ∷ []
pins = refl

first_pin : first_open hub east ≡ 2
first_pin = refl

-- a caller keeps its `since` where nothing changes for it
abbrev entry : List ℕ → List ℕ → ℕ → GrantEntry
entry caller token scopes = record { caller = caller; token = token; scopes = scopes; schools = Listed (codes "s1" ∷ codes "s2" ∷ []) }

sinces : map (λ (row : GrantRow). row.grant.since) (grants_from second (entry (codes "east") (codes "tok-e") 57 ∷ (record { caller = codes "all"; token = codes "tok-a"; scopes = 9; schools = All }) ∷ [])) ≡ 2 ∷ 3 ∷ []
unfolding placed
sinces = refl
