-- The checks of a read, put together.
use Rattle.std.proofs.Common.{◌≡◌, ◌≤◌, ◌-◌, get_or, slice_get, sym, ℕ, zero, suc, ℤ, Bool, true, false, List, [], ◌∷◌}
use Rattle.std.proofs.Common.{Option, Some, None, Result, Ok, Err, option_map, refl, ap, ◌∙◌, subst}
use Rattle.filter_grammar.specs.declared.query.Query.{Query}
use Rattle.grant_scopes.specs.Opens.{opens}
use Rattle.grant_scopes.specs.declared.grant.Grant.{Grant}
use Rattle.rest_paths.specs.Paths.{PathParts as Path}
use Rattle.hub_spec.specs.rules.Answers.{Answered, Answers, Entered, either, sent}
use Rattle.hub_spec.specs.rules.Checks.{Entry, check, entry_of, grant_in, method_refused, query_or, refused, refused_at}
use Rattle.hub_spec.specs.rules.Checks.{version_at}
use Rattle.hub_spec.specs.rules.Reads.{contents_of, object_shown, read_at, read_result}
use Rattle.hub_spec.specs.rules.Wanted.{Wanted, access_of, allows, is_write}
use Rattle.hub_spec.specs.views.Lists.{is_single, kind_of_path, object_of}
use Rattle.rest_provider.specs.Replies.{IsReadOf, entry, path_allowed, path_checked, query_read, read_in_turn}
use Rattle.rest_provider.specs.Shown.{contents_shown}
use Rattle.rest_provider.specs.declared.contents.Contents.{Contents}
use Rattle.roster_base.specs.Reading.{◌>>=◌}
use Rattle.roster_texts.specs.Results.{found_or}
use Rattle.roster_types.specs.Records.{Record}
use Rattle.status_info.specs.declared.cause.Cause.TheVariants as cause
use Rattle.status_info.specs.declared.reply.Reply.{Reply}
use Rattle.version_core.specs.HubStates.{HubState}
use Rattle.version_core.specs.declared.change.BaseVersion.{BaseVersion}
use Rattle.version_core.specs.Version.{Versions, empty_version, newest_of, oldest_of}
use Rattle.version_core.specs.declared.grant_row.GrantRow.{GrantRow}

-- an object that is found is what its path shows
pub object_found : (rows : List Record) (version : ℕ) (path : Path) (query : Query) (row : Record) (contents : Contents)
    → is_single path.route ≡ true → Some row ≡ object_of rows path → contents_shown contents ≡ object_shown (kind_of_path path) query row
    → Some (contents_shown contents) ≡ contents_of rows version path query
object_found rows version path query row contents single is shown =
    ap Some shown ∙ ap (option_map (object_shown (kind_of_path path) query)) is ∙ rw single refl

-- where the scopes and the query pass, a read is what is behind them
pub behind_query : (state : HubState) (wanted : Wanted) (path : Path) (by : GrantRow) (version : ℕ) (grant : Grant) (query : Query)
    → by.grant ≡ grant
    → check (opens grant.scopes (kind_of_path path) (access_of wanted.verb)) (refused_at wanted version cause.ScopeMissing) ≡ Ok true
    → query_or wanted version wanted.query ≡ Ok query
    → read_at state wanted (entry path by) version ≡ query_read state wanted (entry path by) version query
unfolding read_at
behind_query state wanted path by version grant query is opened asked = rw (is, opened, asked) refl

-- the checks of the entry and those behind it, path first
pub in_turn : {X : Type 0} (state : HubState) (wanted : Wanted) (rest : Entry → Result X Reply)
    → entry_of state wanted >>= rest ≡ path_checked wanted >>= (λ path. found_or (refused wanted cause.NoKnownToken) (grant_in state wanted.token) >>= (λ by. rest (entry path by)))
in_turn state wanted rest = from wanted.path
  where
    told : (path : Path) (g : Option GrantRow)
        → (found_or (refused wanted cause.NoKnownToken) g >>= (λ by. Ok (entry path by))) >>= rest
        ≡ found_or (refused wanted cause.NoKnownToken) g >>= (λ by. rest (entry path by))
    told path None = refl
    told path (Some by) = refl

    allowed : (path : Path) (b : Bool)
        → (check b (method_refused wanted path) >>= (λ _. found_or (refused wanted cause.NoKnownToken) (grant_in state wanted.token) >>= (λ by. Ok (entry path by)))) >>= rest
        ≡ (check b (method_refused wanted path) >>= (λ _. Ok path)) >>= (λ path. found_or (refused wanted cause.NoKnownToken) (grant_in state wanted.token) >>= (λ by. rest (entry path by)))
    allowed path true = told path (grant_in state wanted.token)
    allowed path false = refl

    from : (p : Option Path)
        → (found_or (refused wanted cause.NoSuchPath) p
        >>= (λ path. check (allows path wanted.verb) (method_refused wanted path)
        >>= (λ _. found_or (refused wanted cause.NoKnownToken) (grant_in state wanted.token) >>= (λ by. Ok (entry path by))))) >>= rest
        ≡ (found_or (refused wanted cause.NoSuchPath) p >>= path_allowed wanted) >>= (λ path. found_or (refused wanted cause.NoKnownToken) (grant_in state wanted.token) >>= (λ by. rest (entry path by)))
    from None = refl
    from (Some path) = allowed path (allows path wanted.verb)

-- the reply of these checks, sent, is the hub's answer to what writes nothing
pub read_answers : (state : HubState) (wanted : Wanted) → is_write wanted.verb ≡ false → (at : ℤ)
    → Answers state wanted at (sent wanted (either (read_in_turn state wanted))) state
unfolding Answers
read_answers state wanted reads at =
    subst (λ read. Answered state wanted at (entry_of state wanted) (sent wanted (either read)) state) (in_turn state wanted (read_result state wanted)) (by (entry_of state wanted))
  where
    entered : (e : Entry) (b : Bool) → b ≡ false → Entered b state wanted at e (sent wanted (either (read_result state wanted e))) state
    entered e true is = absurd (cc is)
    entered e false is = (refl, refl)

    by : (e : Result Entry Reply) → Answered state wanted at e (sent wanted (either (e >>= read_result state wanted))) state
    by (Ok e) = entered e (is_write wanted.verb) reads
    by (Err refusal) = (refl, refl)

-- the item at a place is the one that is got there
got : {X : Type 0} (xs : List X) (n : ℕ) (x d : X) → slice_get xs n ≡ Some x → get_or xs n d ≡ x
got [] n x d e = cc
got (y ∷ xs) zero x d e = cc
got (y ∷ xs) (suc n) x d e = got xs n x d e

-- a version of the state is the table's view of that number
pub view_read : (state : HubState) (table : Versions) → IsReadOf table state → (n : ℕ) (view : BaseVersion) → (oldest_of table).number ≤ n → n ≤ (newest_of table).number
    → slice_get table.versions (n - (oldest_of table).number) ≡ Some view → version_at state n ≡ view
view_read state table is n view low high at =
    is.reads.at n (subst (λ m. m ≤ n) (sym is.oldest) low) (subst (λ m. n ≤ m) (sym is.newest) high) ∙ (λ i. get_or table.versions (n - is.oldest i) empty_version) ∙ got table.versions (n - (oldest_of table).number) view empty_version at
