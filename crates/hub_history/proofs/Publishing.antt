-- What the writer's calls need.
use Rattle.std.proofs.Common.{◌≡◌, ◌+◌, ◌<◌, Bool, true, false, List, [], ◌∷◌, ◌++◌, length, length-append, fold}
use Rattle.std.proofs.Common.{Option, Some, None, Result, Ok, Err, inl, refl, sym, ap, ◌∙◌, subst, ⊎_elim, arith}
use Rattle.std.specs.Prelude.{MatchResult, is_ok, if◌then◌else◌}
use Rattle.std.proofs.lemmas.List.{append-nil}
use Rattle.std.proofs.lemmas.Bool.Decides.{Decides-eqb}
use mathlib.Core.List.{IsPrefix}
use Rattle.keeper_memory.specs.Kept.{KeptState}
use Rattle.hub_history.specs.declared.entry.Entry.{Entry}
use Rattle.hub_history.specs.Histories.{CanEnter, IsLegal, state_after, waiting_list}
use Rattle.hub_history.specs.Keeping.{taken}
use Rattle.hub_history.specs.Published.{IsHanded, IsIdle, IsStage, NotedEntry, noted_list, waiting_of}
use Rattle.hub_history.proofs.Fronts.{prefix_self}
use Rattle.hub_history.proofs.Legal.{legal_more}

none_beside : (waits : Option Entry) → waiting_of waits [] ≡ None → waits ≡ None
none_beside None is = refl
none_beside (Some e) is = absurd (cc (is))

noted_none : (noted : Bool) (published : List Entry) (waits : Option Entry) → waits ≡ None → noted_list noted published waits ≡ published
noted_none true published waits is = ap (λ (w : Option Entry). published ++ waiting_list w) is ∙ append-nil published
noted_none false published waits is = refl

-- where nothing waits, all that was noted is published, and nothing is pending
pub idle_front : (published front : List Entry) (pending : List NotedEntry) (waits : Option Entry) (noted : Bool) → IsStage published pending waits noted front → waiting_of waits pending ≡ None
    → (pending ≡ []) × (front ≡ published)
idle_front published front pending waits noted stage none =
    ⊎_elim
    (λ (idle : IsIdle published pending waits noted front).
    let beside = none_beside waits (sym (ap (waiting_of waits) idle.none) ∙ none) in
    (idle.none, idle.is ∙ noted_none noted published waits beside))
    (λ (handed : IsHanded published pending waits front).
    let some : waiting_of waits pending ≡ Some handed.operation.entry = ap (λ (w : Option Entry). waiting_of w pending) handed.none ∙ ap (waiting_of None) handed.one in
    absurd (cc (sym some ∙ none)))
    stage

-- an entry is put beside the writer
pub put_keeps : (o : KeptState) (published front : List Entry) (pending : List NotedEntry) (waits waits' : Option Entry) (noted : Bool) (e : Entry) → waits' ≡ Some e → IsStage published pending waits noted front → waiting_of waits pending ≡ None
    → IsLegal o (published ++ waiting_list (waiting_of waits pending)) → CanEnter (state_after o published) e
    → IsStage published pending waits' false front × IsLegal o (published ++ waiting_list (waiting_of waits' pending))
put_keeps o published front pending waits waits' noted e is stage none legal can =
    let idle = idle_front published front pending waits noted stage none in
    let before : IsLegal o published = subst (IsLegal o) (append-nil published) (subst (λ (w : Option Entry). IsLegal o (published ++ waiting_list w)) none legal) in
    let now : waiting_of waits' pending ≡ Some e = ap (λ (w : Option Entry). waiting_of w pending) is in
    (inl (record { none = idle.0; is = idle.1 }), subst (λ (w : Option Entry). IsLegal o (published ++ waiting_list w)) (sym now) (legal_more o published e before can))

-- what the copies come to
taken_one : (published front : List Entry) (e : Entry) → front ≡ published ++ e ∷ [] → taken published front ≡ front
taken_one published front e is =
    let n : length published + 1 ≡ length front = omega (arith, ap length is ∙ length-append published (e ∷ [])) in
    ap (λ (b : Bool). if b then front else published) ((Decides-eqb (length published + 1) (length front)).1 n)

-- the history that is published next begins with the one that was
pub next_begins : (shown next published front : List Entry) (pending : List NotedEntry) (waits : Option Entry) (noted : Bool) → shown ≡ published → IsStage published pending waits noted front
    → next ≡ fold (λ log o. taken log o.front) shown pending → IsPrefix shown next
next_begins shown next published front pending waits noted same stage is =
    ⊎_elim
    (λ (idle : IsIdle published pending waits noted front).
    subst (IsPrefix shown) (sym (is ∙ ap (fold (λ log o. taken log o.front) shown) idle.none)) (prefix_self shown))
    (λ (handed : IsHanded published pending waits front).
    let e = handed.operation.entry in
    let f : handed.operation.front ≡ shown ++ e ∷ [] = handed.same ∙ handed.is ∙ ap (λ (l : List Entry). l ++ e ∷ []) (sym same) in
    let all = is ∙ ap (fold (λ log o. taken log o.front) shown) handed.one ∙ taken_one shown handed.operation.front e f ∙ f in
    subst (IsPrefix shown) (sym all) (e ∷ [], refl))
    stage

-- and is the whole, where something is pending
pub next_whole : (o : KeptState) (shown next published front all : List Entry) (pending pending' : List NotedEntry) (waits : Option Entry) (noted : Bool) → shown ≡ published → IsStage published pending waits noted front
    → 0 < length pending → next ≡ fold (λ log o. taken log o.front) shown pending → pending' ≡ [] → waits ≡ None → all ≡ front
    → IsLegal o (published ++ waiting_list (waiting_of waits pending))
    → (next ≡ all) × IsStage all pending' waits noted front × IsLegal o (all ++ waiting_list (waiting_of waits pending'))
next_whole o shown next published front all pending pending' waits noted same stage some is none beside all_is legal =
    ⊎_elim
    (λ (idle : IsIdle published pending waits noted front). absurd (let z : length pending ≡ 0 = ap length idle.none in omega (arith, z, some)))
    (λ (handed : IsHanded published pending waits front).
    let e = handed.operation.entry in
    let f : handed.operation.front ≡ shown ++ e ∷ [] = handed.same ∙ handed.is ∙ ap (λ (l : List Entry). l ++ e ∷ []) (sym same) in
    let whole : next ≡ front = is ∙ ap (fold (λ log o. taken log o.front) shown) handed.one ∙ taken_one shown handed.operation.front e f ∙ handed.same in
    let waiting : waiting_of waits pending ≡ Some e = ap (λ (w : Option Entry). waiting_of w pending) beside ∙ ap (waiting_of None) handed.one in
    let nothing : waiting_of waits pending' ≡ None = ap (λ (w : Option Entry). waiting_of w pending') beside ∙ ap (waiting_of None) none in
    let stands : IsLegal o front = subst (IsLegal o) (sym handed.is) (subst (λ (w : Option Entry). IsLegal o (published ++ waiting_list w)) waiting legal) in (
      whole ∙ sym all_is,
      inl (record { none = none; is = sym (noted_none noted all waits beside ∙ all_is) }),
      subst (λ (w : Option Entry). IsLegal o (all ++ waiting_list w)) (sym nothing) (subst (IsLegal o) (sym (append-nil all)) (subst (IsLegal o) (sym all_is) stands)),
    ))
    stage

-- what a publication of the writer did
abbrev Became : {T E : Type 0} → Result T E → List Entry → List Entry → List NotedEntry → List NotedEntry → Type 0
Became r shown next pending pending' = MatchResult r (λ _. (next ≡ fold (λ log o. taken log o.front) shown pending) × (pending' ≡ [])) (λ _. (next ≡ shown) × (pending' ≡ pending))

pub values_ok : {T E : Type 0} (r : Result T E) (shown next : List Entry) (pending pending' : List NotedEntry) → is_ok r ≡ true → Became r shown next pending pending' → (next ≡ fold (λ log o. taken log o.front) shown pending) × (pending' ≡ [])
values_ok (Ok x) shown next pending pending' none values = values
values_ok (Err e) shown next pending pending' none values = absurd (cc (none))

pub values_err : {T E : Type 0} (r : Result T E) (shown next : List Entry) (pending pending' : List NotedEntry) → is_ok r ≡ false → Became r shown next pending pending' → (next ≡ shown) × (pending' ≡ pending)
values_err (Ok x) shown next pending pending' some values = absurd (cc (some))
values_err (Err e) shown next pending pending' some values = values
