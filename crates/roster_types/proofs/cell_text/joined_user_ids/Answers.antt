use Rattle.std.proofs.Common.{◌∙◌, ap, string_bytes}
use Rattle.std.specs.List.{join_with_byte}
use Rattle.roster_types.proofs.Joins.{joined_text}
use Rattle.roster_types.proofs.cell_text.joined_user_ids.Goals as goal

pub returns : goal.returns
returns c = rw c.as_slice.ensures.value at c.in_ok-join.ensures.ok ∙ joined_text string_bytes c.in_ok-texts.texts.items ∙ ap (join_with_byte 44) c.in_ok-texts.ensures
