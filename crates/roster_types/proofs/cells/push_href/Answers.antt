use Rattle.std.proofs.Common.{◌++◌, ◌∙◌, ap, append_assoc, codes, string_bytes}
use Rattle.std.specs.List.{flat_map}
use Rattle.roster_types.specs.Hrefs.{encoded_byte, href}
use Rattle.roster_types.proofs.HrefLaws.{percent_encode-escaped}
use Rattle.roster_values.specs.Kinds.{plural_of}
use Rattle.roster_types.proofs.cells.push_href.Goals as goal

pub returns : goal.returns
unfolding href lib.Utf8.encode
returns c =
    let old = string_bytes c.args.text.now in
    let front = codes "/ims/oneroster/v1p1/" in
    let plural = plural_of c.args.kind in
    let id = flat_map encoded_byte c.args.id.now in
    rw (
      c.in_ok-append_to.ensures.ok,
      c.utf8_percent_encode.ensures.text,
      c.as_str.ensures.text,
      percent_encode-escaped c.args.id.now,
      c.in_ok-push.ensures.bytes,
      c.in_ok-push_str-2.ensures.bytes,
      c.plural.ensures,
      c.in_ok-push_str.ensures.bytes,
    ) (
    ap (λ t. (t ++ codes "/") ++ id) (append_assoc old front plural)
    ∙ ap (λ t. t ++ id) (append_assoc old (front ++ plural) (codes "/"))
    ∙ append_assoc old ((front ++ plural) ++ codes "/") id
    )
