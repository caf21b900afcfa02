-- A read's reply says no more than what the reader can tell of a state.
use Rattle.std.proofs.Common.{◌≡◌, ℕ, ℤ, Bool, true, false, ◌&&◌, not, cond, List, Option, None, Some, Result, Ok, Err}
use Rattle.std.proofs.Common.{max, nat_lt, refl, sym, ap, subst, ◌∙◌}
use Rattle.hub_spec.proofs.Growing.{Enters, enters}
use Rattle.hub_spec.specs.rules.Answers.{Answered, Answers, Entered, either, sent}
use Rattle.filter_grammar.specs.declared.query.Query.{Query}
use Rattle.rest_paths.specs.declared.route.Collection.TheVariants.{Of}
use Rattle.rest_paths.specs.declared.route.Route.{Route}
use Rattle.rest_paths.specs.declared.route.Route.TheVariants.{All}
use Rattle.hub_spec.specs.views.Deltas.{kind_delta, page_of_delta}
use Rattle.hub_spec.specs.views.Links.{base_for}
use Rattle.status_info.specs.declared.cause.Cause.{Cause}
use Rattle.hub_spec.specs.rules.Checks.{Entry, base_checked, check, entry_of, grant_in, method_refused, query_or}
use Rattle.hub_spec.specs.rules.Checks.{refused, refused_at, version_read}
use Rattle.hub_spec.specs.rules.Reads.{Contents, contents_at, contents_of, delta_shown, read_at, read_result, shown}
use Rattle.hub_spec.specs.rules.Reads.{rows_seen_by}
use Rattle.hub_spec.specs.rules.Views.{SameToReader}
use Rattle.hub_spec.specs.rules.Wanted.{Wanted, access_of, allows, is_good_mark, is_write}
use Rattle.hub_spec.specs.views.Lists.{kind_of_path}
use Rattle.grant_scopes.specs.Opens.{opens}
use Rattle.roster_base.specs.Reading.{◌>>=◌}
use Rattle.roster_texts.specs.Results.{found_or}
use Rattle.roster_types.specs.Records.{Record}
use Rattle.status_info.specs.declared.cause.Cause.TheVariants as cause
use Rattle.status_info.specs.declared.reply.Reply.{Reply}
use Rattle.version_core.specs.HubStates.{HubState, newest_number, oldest_number}
use Rattle.version_core.specs.declared.grant_row.GrantRow.{GrantRow}

module _ (wanted : Wanted) where
  -- the version that is read, by the numbers alone
  read_by : ℕ → ℕ → GrantRow → Option ℕ → Result ℕ Reply
  read_by oldest newest by None = Ok newest
  read_by oldest newest by (Some pin) =
      cond (not (nat_lt pin (max oldest by.grant.since)) && not (nat_lt newest pin)) (Ok pin) (Err (record (refused_at wanted newest cause.VersionNotKept) { oldest = Some (max oldest by.grant.since) }))

  reads_by : (state : HubState) (by : GrantRow) (pin : Option ℕ) → version_read state by wanted pin ≡ read_by (oldest_number state) (newest_number state) by pin
  unfolding read_by
  reads_by state by None = refl
  reads_by state by (Some pin) = refl

  -- what is read, by the number of the oldest version and the seen rows alone
  base_by : ℕ → Entry → ℕ → Option ℕ → Result Bool Reply
  base_by oldest entry version None = Ok true
  base_by oldest entry version (Some base) =
      check (not (nat_lt base (max oldest entry.by.grant.since)) && not (nat_lt version base)) (record (refused_at wanted version cause.VersionNotKept) { oldest = Some (max oldest entry.by.grant.since) })

  contents_by : (ℕ → List Record) → List Record → Entry → ℕ → Query → Option ℕ → Option Contents
  contents_by befores rows entry version query None = contents_of rows version entry.path query
  contents_by befores rows entry version query (Some base) =
      Some (delta_shown (kind_of_path entry.path) (page_of_delta entry.path query version (kind_delta (kind_of_path entry.path) (befores base) rows)))

  -- behind the query
  from_query : ℕ → (ℕ → List Record) → List Record → Entry → ℕ → Query → Option ℕ → Result Reply Reply
  from_query oldest befores rows entry version query base =
      base_by oldest entry version base >>= λ _.
      check (is_good_mark wanted.mark) (refused_at wanted version cause.BadMark) >>= λ _.
      found_or (refused_at wanted version cause.NoSuchObject) (contents_by befores rows entry version query base) >>= λ contents.
      Ok (shown wanted version query contents)

  from_rows : ℕ → (ℕ → List Record) → List Record → Entry → ℕ → Result Reply Reply
  from_rows oldest befores rows entry version =
      check (opens entry.by.grant.scopes (kind_of_path entry.path) (access_of wanted.verb)) (refused_at wanted version cause.ScopeMissing) >>= λ _.
      query_or wanted version wanted.query >>= λ query.
      from_query oldest befores rows entry version query (base_for entry.path.route query.since)

  seen_at : HubState → Entry → ℕ → List Record
  seen_at state entry version = rows_seen_by state entry.by version

  same_check : (state : HubState) (entry : Entry) (version : ℕ) (base : Option ℕ) → base_checked state entry.by wanted version base ≡ base_by (oldest_number state) entry version base
  unfolding base_by
  same_check state entry version None = refl
  same_check state entry version (Some base) = refl

  same_contents : (state : HubState) (entry : Entry) (version : ℕ) (query : Query) (base : Option ℕ) → contents_at state entry version query base ≡ contents_by (seen_at state entry) (seen_at state entry version) entry version query base
  unfolding contents_by seen_at
  same_contents state entry version query None = refl
  same_contents state entry version query (Some base) = refl

  reads_rows : (state : HubState) (entry : Entry) (version : ℕ) → read_at state wanted entry version ≡ from_rows (oldest_number state) (seen_at state entry) (seen_at state entry version) entry version
  unfolding read_at from_rows from_query
  reads_rows state entry version = λ i.
      check (opens entry.by.grant.scopes (kind_of_path entry.path) (access_of wanted.verb)) (refused_at wanted version cause.ScopeMissing) >>= λ _.
      query_or wanted version wanted.query >>= λ query.
      same_check state entry version (base_for entry.path.route query.since) i >>= λ _.
      check (is_good_mark wanted.mark) (refused_at wanted version cause.BadMark) >>= λ _.
      found_or (refused_at wanted version cause.NoSuchObject) (same_contents state entry version query (base_for entry.path.route query.since) i) >>= λ contents.
      Ok (shown wanted version query contents)

  -- a base that is asked for is the query's
  asked_base : (route : Route) (since : Option ℕ) (base : ℕ) → base_for route since ≡ Some base → since ≡ Some base
  asked_base (All (Of kind)) since base e = e
  asked_base _ since base e = cc

  -- the rows of a base count where it may be read
  module _ (oldest : ℕ) (befores befores' : ℕ → List Record) (rows : List Record) (entry : Entry) (version : ℕ) (same : (query : Query) (base : ℕ) → wanted.query ≡ Ok query → query.since ≡ Some base → (not (nat_lt base (max oldest entry.by.grant.since)) && not (nat_lt version base)) ≡ true → befores base ≡ befores' base) where
    same_query : (query : Query) → wanted.query ≡ Ok query → (base : Option ℕ) → base_for entry.path.route query.since ≡ base
        → from_query oldest befores rows entry version query base ≡ from_query oldest befores' rows entry version query base
    unfolding from_query base_by contents_by
    same_query query is None asks = refl
    same_query query is (Some base) asks =
        let rest : (ℕ → List Record) → Bool → Result Reply Reply = λ olds b.
        check b (record (refused_at wanted version cause.VersionNotKept) { oldest = Some (max oldest entry.by.grant.since) }) >>= λ _.
        check (is_good_mark wanted.mark) (refused_at wanted version cause.BadMark) >>= λ _.
        found_or (refused_at wanted version cause.NoSuchObject) (Some (delta_shown (kind_of_path entry.path) (page_of_delta entry.path query version (kind_delta (kind_of_path entry.path) (olds base) rows)))) >>= λ contents.
        Ok (shown wanted version query contents) in
        elim (not (nat_lt base (max oldest entry.by.grant.since)) && not (nat_lt version base)) as (λ b. (not (nat_lt base (max oldest entry.by.grant.since)) && not (nat_lt version base)) ≡ b → rest befores b ≡ rest befores' b) [
          | true ↦ λ e. ap (λ olds.
              check (is_good_mark wanted.mark) (refused_at wanted version cause.BadMark) >>= λ _.
              Ok (shown wanted version query (delta_shown (kind_of_path entry.path) (page_of_delta entry.path query version (kind_delta (kind_of_path entry.path) olds rows))))) (same query base is (asked_base entry.path.route query.since base asks) e)
          | false ↦ λ _. refl
        ] refl

    same_from : from_rows oldest befores rows entry version ≡ from_rows oldest befores' rows entry version
    unfolding from_rows
    same_from =
        ap (λ r. check (opens entry.by.grant.scopes (kind_of_path entry.path) (access_of wanted.verb)) (refused_at wanted version cause.ScopeMissing) >>= λ _. r) (by wanted.query refl)
      where
        by : (q : Result Query Cause) → wanted.query ≡ q
            → (query_or wanted version q >>= λ query. from_query oldest befores rows entry version query (base_for entry.path.route query.since))
            ≡ (query_or wanted version q >>= λ query. from_query oldest befores' rows entry version query (base_for entry.path.route query.since))
        by (Ok query) is = same_query query is (base_for entry.path.route query.since) refl
        by (Err why) is = refl

  module _ (one other : HubState) (same : SameToReader wanted one other) where
    same_entry : entry_of one wanted ≡ entry_of other wanted
    same_entry = ap (λ g. found_or (refused wanted cause.NoSuchPath) wanted.path >>= λ path. check (allows path wanted.verb) (method_refused wanted path) >>= λ _. found_or (refused wanted cause.NoKnownToken) g >>= λ by. Ok (record { path = path; by = by })) same.grant

    same_version : (by : GrantRow) (pin : Option ℕ) → version_read one by wanted pin ≡ version_read other by wanted pin
    same_version by pin = reads_by one by pin ∙ (λ i. read_by (same.oldest i) (same.newest i) by pin) ∙ sym (reads_by other by pin)

    module _ (entry : Entry) (known : grant_in one wanted.token ≡ Some entry.by) (version : ℕ) (reads : version_read one entry.by wanted wanted.pin ≡ Ok version) where
      same_rows : seen_at one entry version ≡ seen_at other entry version
      unfolding seen_at
      same_rows = same.rows entry.by version known reads

      same_bases : (query : Query) (base : ℕ) → wanted.query ≡ Ok query → query.since ≡ Some base
          → (not (nat_lt base (max (oldest_number one) entry.by.grant.since)) && not (nat_lt version base)) ≡ true → seen_at one entry base ≡ seen_at other entry base
      unfolding seen_at
      same_bases query base is asks passes = same.base entry.by version base query known reads is asks passes

    same_result : (entry : Entry) → grant_in one wanted.token ≡ Some entry.by → read_result one wanted entry ≡ read_result other wanted entry
    same_result entry known =
        by_version (version_read one entry.by wanted wanted.pin) refl ∙ ap (λ r. r >>= read_at other wanted entry) (same_version entry.by wanted.pin)
      where
        by_version : (r : Result ℕ Reply) → version_read one entry.by wanted wanted.pin ≡ r → (r >>= read_at one wanted entry) ≡ (r >>= read_at other wanted entry)
        by_version (Err reply) e = refl
        by_version (Ok version) e =
            reads_rows one entry version
            ∙ same_from (oldest_number one) (seen_at one entry) (seen_at other entry) (seen_at one entry version) entry version (same_bases entry known version e)
            ∙ (λ i. from_rows (same.oldest i) (seen_at other entry) (same_rows entry known version e i) entry version)
            ∙ sym (reads_rows other entry version)

    module _ (at at' : ℤ) (reply reply' : Reply) (after after' : HubState) where
      same_entered : (b : Bool) (entry : Entry) → b ≡ false → Enters one wanted entry → Entered b one wanted at entry reply after → Entered b other wanted at' entry reply' after' → reply ≡ reply'
      same_entered true entry e enters a b = cc
      same_entered false entry e enters a b = a.0 ∙ ap (λ r. sent wanted (either r)) (same_result entry enters.by) ∙ sym b.0

      same_answered : (r : Result Entry Reply) → is_write wanted.verb ≡ false → entry_of one wanted ≡ r → Answered one wanted at r reply after → Answered other wanted at' r reply' after' → reply ≡ reply'
      same_answered (Err refusal) read e a b = a.0 ∙ sym b.0
      same_answered (Ok entry) read e a b = same_entered (is_write wanted.verb) entry read (enters one wanted entry e) a b

-- equal replies, where the states are one to the reader
pub same_reply : (wanted : Wanted) (one other : HubState) → SameToReader wanted one other → is_write wanted.verb ≡ false
    → (at at' : ℤ) (reply reply' : Reply) (after after' : HubState) → Answers one wanted at reply after → Answers other wanted at' reply' after' → reply ≡ reply'
unfolding Answers
same_reply wanted one other same read at at' reply reply' after after' a b =
    same_answered wanted one other same at at' reply reply' after after' (entry_of one wanted) read refl a
    (subst (λ r. Answered other wanted at' r reply' after') (sym (same_entry wanted one other same)) b)
