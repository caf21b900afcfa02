use Rattle.std.proofs.Common.{not, ap, sym, ◌∙◌}
use Rattle.version_changes.proofs.SoundCounts.{new_where, not_new, not_of_kind}
use Rattle.version_changes.specs.sound.Behind.{rows_behind}
use Rattle.version_changes.proofs.sound.counts.is_new.Goals as goal

pub returns-then-not-is_of_kind : goal.returns-then-not-is_of_kind
returns-then-not-is_of_kind c = not_of_kind c.args.kind (rows_behind c.args.base.now c.args.earlier.now) c.args.change.now (sym c.is_of_kind.ensures ∙ c.if-not-is_of_kind.true)

pub returns-then-has_row : goal.returns-then-has_row
returns-then-has_row c = not_new c.args.kind c.args.base.now c.args.earlier.now c.args.change.now (sym c.has_row.ensures ∙ c.if-has_row.true)

pub returns : goal.returns
returns c =
    ap not c.any_has.ensures
    ∙ new_where c.args.kind c.args.base.now c.args.earlier.now c.args.change.now (sym c.is_of_kind.ensures ∙ c.if-not-is_of_kind.false) (sym c.has_row.ensures ∙ c.if-has_row.false)
