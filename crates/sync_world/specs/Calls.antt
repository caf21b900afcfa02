-- What a call over a world does to a copy in memory, and to the link.
use Rattle.std.specs.Prelude.{◌≡◌}
use Rattle.exchange_link.specs.Between.{CopyRun, LinkRun, copy_between, link_between}
use Rattle.exchange_link.specs.Exchanges.{LinkState}
use Rattle.keeper_memory.specs.copy.Copies.{Copy}
use Rattle.keeper_memory.specs.copy.HeldCopy.{HeldCopy}
use Rattle.sync_world.specs.Links.{HeldLink, link_state}

-- of the copy
abbrev pub copy_over : HeldCopy → HeldCopy → CopyRun
copy_over = copy_between (λ (held : HeldCopy) (c : Copy). c ≡ held.copy) (λ (held : HeldCopy). held.plan.faults)

-- of the link
abbrev pub link_over : HeldLink → HeldLink → LinkRun
link_over = link_between (λ (link : HeldLink) (t : LinkState). t ≡ link_state link)
    (λ (link : HeldLink). link.asked) (λ (link : HeldLink). link.missed) (λ (link : HeldLink). link.kept)
    (λ (link : HeldLink). link.faults)
