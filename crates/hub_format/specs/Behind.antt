-- What an item says behind a version's number.
use Rattle.std.specs.Prelude.{drop}
use Rattle.item_maps.specs.declared.item.Item.{Item}
use Rattle.version_core.specs.declared.grant_row.GrantRow.{GrantRow}
use Rattle.hub_format.specs.Format.{Entry}
use Rattle.hub_format.specs.Pieces.{caller_label, grant_body, number_size}

abbrev pub entry_behind : Item → Entry
entry_behind item = (drop number_size item.label, item.body)

-- what stands there for a grant
abbrev pub own_entry : GrantRow → Entry
own_entry row = (caller_label row.caller, grant_body row.grant)
