-- A synchronisation keeps the agreement on marks: it changes no entry, and sends no mark.
use Rattle.std.proofs.Common.{◌≡◌, ⊎_elim, ℕ, None, List, [], ◌∷◌, All, sym, subst}
use Rattle.std.specs.List.{AllByRecursion}
use Rattle.std.specs.Prelude.{Err, Ok}
use Rattle.std.proofs.lemmas.List.Elements.{All-head, All-tail}
use Rattle.keeper_memory.specs.copy.Changes.{copy_after}
use Rattle.keeper_memory.specs.copy.Copies.{Copy}
use Rattle.keeper_memory.specs.declared.copy.change.CopyChange.TheVariants.{Drop}
use Rattle.keeper_memory.specs.declared.copy.state.CopyState.{CopyState}
use Rattle.exchange_link.specs.Exchanges.{LinkState}
use Rattle.exchange_link.specs.Marks.{MarksAgree, MarksTold}
use Rattle.exchange_link.specs.Synchronised.{Leaves, own_stage}
use Rattle.exchange_link.specs.declared.answer.SyncAnswer.{SyncAnswer}
use Rattle.exchange_link.proofs.TellLemmas.{reads_keep}
use Rattle.status_info.specs.declared.request.Request.{Request}
use Rattle.exchange_link.specs.Beginning.{Enters}
use Rattle.exchange_link.specs.Requests.{Asks}
use Rattle.consumer_sync.specs.Requests.{IsUnmarked}
use Rattle.consumer_sync.specs.Starting.{Drops}

-- the entries and the last number are as before
pub marks_kept : (token : List ℕ) (a : SyncAnswer) (before after : Copy) (told : LinkState) → Leaves token a before after → MarksTold before told → MarksTold after told
marks_kept token a before after told leaves marks =
    subst (λ es. MarksAgree es after.last_number told.hub told.sent) (sym leaves.entries) (subst (λ n. MarksAgree before.entries n told.hub told.sent) (sym leaves.last_number) marks)

same_marks : (before after : Copy) (told : LinkState) → after ≡ before → MarksTold before told → MarksTold after told
same_marks before after told e marks = subst (λ c. MarksTold c told) (sym e) marks

pub marks_dropped : (token : List ℕ) (s : CopyState) (a : SyncAnswer) (before mid after : Copy) (told : LinkState) → Enters (Ok s) before mid → Drops token (Err a) mid after → MarksTold before told → MarksTold after told
marks_dropped token s a before mid after told x y marks =
    let begun = subst (λ c. MarksTold c told) (sym x.1) marks in
    ⊎_elim (λ (e : after ≡ mid). same_marks mid after told e begun)
    (λ (z : (own_stage token mid.stage ≡ None) × (after ≡ copy_after Drop mid)). subst (λ c. MarksTold c told) (sym z.1) begun) y

all_unmarked : (more : List Request) → All IsUnmarked more → AllByRecursion IsUnmarked more
all_unmarked [] h = tt
all_unmarked (q ∷ more) h = (All-head IsUnmarked q more h, all_unmarked more (All-tail IsUnmarked q more h))

pub marks_asked : (run n : ℕ) (c : Copy) (told tells : LinkState) → Asks run 0 n IsUnmarked told tells → MarksTold c told → MarksTold c tells
marks_asked run n c told tells asks marks =
    let more = asks.adds in
    subst (λ s. MarksAgree c.entries c.last_number tells.hub s) (sym more.1) (reads_keep c.entries c.last_number told.hub tells.hub more.0 told.sent asks.moved.grew (all_unmarked more.0 more.2) marks)
