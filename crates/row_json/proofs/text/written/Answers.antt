use Rattle.std.proofs.Common.{◌++◌, List, ℕ, ap, subst, sym, ◌∙◌}
use Rattle.std.specs.Str.{IsUtf8}
use Rattle.json.specs.Print.{print}
use Rattle.row_json.proofs.text.written.Goals as goal

pub from_utf8_unchecked-requires : goal.from_utf8_unchecked-requires
from_utf8_unchecked-requires c = subst IsUtf8 (sym (c.into_inner-bytes.ensures.items ∙ ap (λ (b : List ℕ). b ++ print c.args.out.tokens) c.requires)) c.into_inner-bytes.ensures.utf8
