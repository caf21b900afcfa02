use Rattle.std.proofs.Common.{◌≡◌, ◌+◌, ◌-◌, ◌≤◌, ◌∷◌, ℕ, ℤ, Some, length, slice_get, ap, ◌∙◌, arith}
use Rattle.std.proofs.lemmas.Bool.Decides.{nat_tests}
use Rattle.version_core.specs.History.{pasts_of}
use Rattle.version_core.specs.VersionLog.{IsVersionIndexed, kept_of, last_number, version_at}
use Rattle.version_core.specs.Version.{IsVersion, empty_version, last_or}
use Rattle.version_core.specs.declared.change.BaseVersion.{BaseVersion}
use Rattle.version_core.specs.declared.version_log.VersionLog.TheInside.{Inside}
use Rattle.version_core.proofs.ViewLemmas.{held_at, last_version_at, version_at_place}
use Rattle.version_core.proofs.version_log.VersionLog.rows_at.Goals as goal

module _ (table : Inside) (version : ℕ) (oldest : table.number ≤ version) (newest : version ≤ (last_or empty_version (kept_of table)).number) where
  pub in_range : version - table.number ≤ length table.moments.items
  in_range =
      let number = ap (λ (v : BaseVersion). v.number) (last_version_at (pasts_of table.histories.items) table.grants.items empty_version table.number table.moment table.moments.items) in
      omega (arith, number, newest, oldest)

  pub stands : (moment : ℤ) → slice_get (table.moment ∷ table.moments.items) (version - table.number) ≡ Some moment → slice_get (kept_of table) (version - table.number) ≡ Some (version_at version moment (pasts_of table.histories.items) table.grants.items)
  stands moment at =
      let number : table.number + (version - table.number) ≡ version = omega (arith, oldest) in
      version_at_place (pasts_of table.histories.items) table.grants.items table.number (table.moment ∷ table.moments.items) (version - table.number) moment at
      ∙ ap (λ n. Some (version_at n moment (pasts_of table.histories.items) table.grants.items)) number

pub moment_at-moment-requires : goal.moment_at-moment-requires
moment_at-moment-requires c =
    let le = in_range c.self.inside c.args.version (rw (← c.self.view_is) at c.requires.oldest) (rw (← c.self.view_is) at c.requires.newest) in
    rw c.deref.ensures.value le

pub invariant_of-result : goal.invariant_of-result
invariant_of-result c =
    let table = c.self.inside in
    let at = stands table c.args.version (rw (← c.self.view_is) at c.requires.oldest) (rw (← c.self.view_is) at c.requires.newest) c.moment_at-moment.result (rw c.deref.ensures.value at c.moment_at-moment.ensures) in
    record {
      pasts = rw c.deref-3.ensures.value c.self.invariant.pasts;
      newest = λ on.
          let last : c.args.version ≡ last_number table = grind (arith, nat_tests, on) in
          rw (c.deref-3.ensures.value, last) c.self.invariant.up_to;
      version = rw (c.grants_at-grants.ensures, c.deref-2.ensures.value, c.deref-3.ensures.value) (held_at IsVersion (kept_of table) (c.args.version - table.number) _ c.self.invariant.versions at);
      index = λ on. rw (c.deref-3.ensures.value, c.deref-4.ensures.value) (held_at (IsVersionIndexed table.refs.items) (kept_of table) (c.args.version - table.number) _ (c.self.invariant.index on) at);
    }

pub returns-clause-version : goal.returns-clause-version
returns-clause-version c = (invariant_of-result c).version

pub returns-clause-at : goal.returns-clause-at
returns-clause-at c =
    let table = c.self.inside in
    let at = stands table c.args.version (rw (← c.self.view_is) at c.requires.oldest) (rw (← c.self.view_is) at c.requires.newest) c.moment_at-moment.result (rw c.deref.ensures.value at c.moment_at-moment.ensures) in
    rw (← c.self.view_is, c.grants_at-grants.ensures, c.deref-2.ensures.value, c.deref-3.ensures.value) at
