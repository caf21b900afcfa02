use Rattle.std.proofs.Common.{◌≡◌, ◌++◌, codes, decimal, ap, ◌∙◌, string_bytes}
use Rattle.hub_spec.specs.views.Links.{base_for, path_text}
use Rattle.query_pages.specs.Targets.{base_text, manner_text, paging_text}
use Rattle.query_pages.proofs.TargetLemmas.{target_is}
use Rattle.query_pages.proofs.target.target.Goals as goal

pub returns : goal.returns
returns c =
    let path = path_text c.args.path.now in
    let paging = paging_text c.args.query.now.limit c.args.offset in
    let manner = manner_text c.args.query.now in
    let base = base_text (base_for c.args.path.now.route c.args.query.now.since) in
    let one : string_bytes c.push_path.new.text ≡ path = c.in_ok-push_path.ensures ∙ ap (λ text. text ++ path) c.new-text.ensures.bytes in
    let two : string_bytes c.push_paging.new.text ≡ path ++ paging = c.in_ok-push_paging.ensures ∙ ap (λ text. text ++ paging) one in
    let three : string_bytes c.push_manner.new.text ≡ path ++ paging ++ manner = c.in_ok-push_manner.ensures ∙ ap (λ text. text ++ manner) two in
    let four : string_bytes c.push_base.new.text ≡ path ++ paging ++ manner ++ base = c.in_ok-push_base.ensures ∙ (λ i. three i ++ base_text (c.base_of.ensures i)) in
    c.from_string.ensures ∙ c.in_ok-push_number.ensures ∙ ap (λ text. text ++ (codes "&hubVersion=" ++ decimal c.args.version)) four
    ∙ target_is c.args.path.now c.args.query.now c.args.version c.args.offset
