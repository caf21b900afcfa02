use Rattle.std.proofs.Common.{◌≡◌, ◌++◌, OnOk, append_assoc, codes, ap, ◌∙◌, refl, sym, string_bytes, subst}
use Rattle.rest_paths.specs.Routes.{objects_in}
use Rattle.query_pages.specs.Targets.{listed_text, objects_text}
use Rattle.query_pages.proofs.Growing.{grown, grown_on}
use Rattle.query_pages.proofs.PathLemmas.{path_written}
use Rattle.query_pages.proofs.target.push_path.Goals as goal

pub returns : goal.returns
returns c =
    let path = c.args.path.now in
    let front = codes "/ims/oneroster/v1p1" in
    let objects = objects_text (objects_in path.route) path.ids in
    let same : objects_text c.objects.result.now c.ids.result.now ≡ objects = rw (c.objects.ensures, c.ids.ensures.ids, c.route-route.ensures.route) refl in
    let added : string_bytes c.push_objects.new.text ≡ string_bytes c.push_str.new.self ++ objects =
    c.in_ok-push_objects.ensures ∙ ap (λ text. string_bytes c.push_str.new.self ++ text) same in
    subst (λ text. OnOk c.push_listed.result (string_bytes c.push_listed.new.text ≡ string_bytes c.args.text.now ++ text))
    (append_assoc front objects (listed_text path.route) ∙ sym (path_written path c.route-route.ensures.path))
    (grown_on c.push_listed.result (string_bytes c.args.text.now) (string_bytes c.push_objects.new.text) (string_bytes c.push_listed.new.text) (front ++ objects) (listed_text path.route)
    (grown (string_bytes c.args.text.now) (string_bytes c.push_str.new.self) (string_bytes c.push_objects.new.text) front objects c.in_ok-push_str.ensures.bytes added)
    (rw c.route-route.ensures.route at c.push_listed.ensures))
