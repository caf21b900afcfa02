use Rattle.std.proofs.Common.{subst}
use Rattle.std.proofs.lemmas.Str.{is_utf8-from_IsUtf8}
use Rattle.std.specs.Str.{IsUtf8}
use Rattle.sync_world.proofs.ExchangeLemmas.{if_ok_each}
use Rattle.sync_world.proofs.own_text.own_text.Goals as goal

pub returns : goal.returns
returns c = if_ok_each _ _ c.reply_bytes.result (λ text is. record { text_is = is; says = is_utf8-from_IsUtf8 _ (subst IsUtf8 c.body_of.ensures c.body_of.utf8) }) c.reply_bytes.ensures
