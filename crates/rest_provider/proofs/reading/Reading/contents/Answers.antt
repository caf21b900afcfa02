use Rattle.std.proofs.Common.{◌≡◌, ◌≤◌, ◌∙◌, Option, Some, ap, option_map, sym, subst, arith}
use Rattle.std.specs.Prelude.{IfOk, IfSome}
use Rattle.hub_spec.specs.rules.Checks.{version_at}
use Rattle.hub_spec.specs.rules.Reads.{Contents, contents_at, contents_of, delta_shown}
use Rattle.hub_spec.specs.views.Deltas.{kind_delta, page_of_delta}
use Rattle.hub_spec.specs.views.Lists.{kind_of_path}
use Rattle.hub_spec.specs.views.Seen.{seen}
use Rattle.rest_provider.specs.Replies.{entry}
use Rattle.rest_provider.specs.Shown.{contents_shown}
use Rattle.version_core.specs.Changes.{rows_of}
use Rattle.version_core.specs.Version.{newest_of, oldest_of}
use Rattle.rest_provider.proofs.ReadLemmas.{view_read}
use Rattle.rest_provider.proofs.reading.Reading.contents.Goals as goal

pub returns-in-None : goal.returns-in-None
returns-in-None c = λ state by is same.
    let path = c.args.self.path.now in
    let version = c.args.self.version in
    let read : version_at state version ≡ c.rows_at.result = view_read state c.args.table.now is version c.rows_at.result c.requires.oldest c.requires.newest c.rows_at.ensures.at in
    let shown : contents_of (seen c.args.self.grant.now.schools (rows_of c.rows_at.result.rows)) version path c.args.query.now ≡ contents_at state (entry path by) version c.args.query.now c.args.base =
    (λ i. contents_of (seen (sym same i).schools (rows_of (sym read i).rows)) version path c.args.query.now) ∙ sym (ap (contents_at state (entry path by) version c.args.query.now) c.in-None.is) in
    subst (λ (o : Option Contents). IfOk c.whole_contents.result (λ x. option_map contents_shown x ≡ o)) shown c.whole_contents.ensures

pub returns-in_ok-difference-in-Some : goal.returns-in_ok-difference-in-Some
returns-in_ok-difference-in-Some c = λ state by is same.
    let path = c.args.self.path.now in
    let kind = kind_of_path path in
    let table = c.args.table.now in
    let bounds = subst (λ o. IfSome o (λ b. ((oldest_of table).number ≤ b) × (b ≤ c.args.self.version))) c.in-Some.is c.requires.base in
    let low : (oldest_of table).number ≤ c.in-Some.base = bounds.0 in
    let high : c.in-Some.base ≤ (newest_of table).number = omega (arith, bounds.1, c.requires.newest) in
    let before : version_at state c.in-Some.base ≡ c.span-span.result.before = view_read state table is c.in-Some.base c.span-span.result.before low high c.span-span.ensures.before in
    let after : version_at state c.args.self.version ≡ c.span-span.result.after = view_read state table is c.args.self.version c.span-span.result.after c.requires.oldest c.requires.newest c.span-span.ensures.after in
    ap Some c.in_ok-difference-in-Some.ensures
    ∙ (λ i. Some (delta_shown kind (page_of_delta path c.args.query.now c.args.self.version (kind_delta kind (seen (sym same i).schools (rows_of (sym before i).rows)) (seen (sym same i).schools (rows_of (sym after i).rows))))))
    ∙ sym (ap (contents_at state (entry path by) c.args.self.version c.args.query.now) c.in-Some.is)
