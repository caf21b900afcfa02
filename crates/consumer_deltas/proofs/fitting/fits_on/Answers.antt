use Rattle.std.proofs.Common.{◌≡◌, ◌∙◌, true, false, ℕ, List, None, refl, sym, subst}
use Rattle.roster_types.specs.Keys.{Ascends, row_key}
use Rattle.roster_types.specs.Records.{Record}
use Rattle.version_core.specs.Spans.{key_in}
use Rattle.consumer_deltas.proofs.DeltaFitLemmas.{fits_by_parts}
use Rattle.consumer_deltas.proofs.DeltaListLemmas.{ids_rise, rows_rise}
use Rattle.consumer_deltas.specs.DeltaFits.{apart, fits}
use Rattle.consumer_deltas.proofs.fitting.fits_on.Goals as goal

abbrev Rise : List Record → Type 0
Rise rows = Ascends row_key rows

pub fits-requires-clause-held : goal.fits-requires-clause-held
fits-requires-clause-held c = subst Rise (sym c.held.ensures) (rows_rise c.args.kind c.args.sofar.now.held c.requires.come.held)

pub fits-requires-clause-puts : goal.fits-requires-clause-puts
fits-requires-clause-puts c = subst Rise (sym c.as_slice-puts.ensures) (rows_rise c.args.kind c.args.page.now.puts c.requires.puts)

pub are_apart-requires : goal.are_apart-requires
are_apart-requires c = subst Rise (sym c.puts.ensures) (rows_rise c.args.kind c.args.sofar.now.puts c.requires.come.puts)

pub stand_apart-requires : goal.stand_apart-requires
stand_apart-requires c = subst (λ (ids : List (List ℕ)). Ascends (key_in c.args.kind) ids) (sym c.gone.ensures) (ids_rise c.args.kind None c.args.sofar.now.gone c.requires.come.gone)

-- what the three searches find

pub returns-then-not-fits : goal.returns-then-not-fits
returns-then-not-fits c =
    let k = c.args.kind in
    let sofar = c.args.sofar.now in
    let page = c.args.page.now in
    let alone : false ≡ fits k sofar.held page.puts page.gone = sym c.if-not-fits.true ∙ c.fits.ensures ∙ (λ i. fits k (c.held.ensures i) (c.as_slice-puts.ensures i) (c.as_slice-gone.ensures i)) in
    fits_by_parts k sofar.held sofar.puts page.puts sofar.gone page.gone c.requires.come.fits false (apart k sofar.puts page.gone) (apart k page.puts sofar.gone) alone refl refl

pub returns-then-not-are_apart : goal.returns-then-not-are_apart
returns-then-not-are_apart c =
    let k = c.args.kind in
    let sofar = c.args.sofar.now in
    let page = c.args.page.now in
    let alone : true ≡ fits k sofar.held page.puts page.gone = sym c.if-not-fits.false ∙ c.fits.ensures ∙ (λ i. fits k (c.held.ensures i) (c.as_slice-puts.ensures i) (c.as_slice-gone.ensures i)) in
    let earlier : false ≡ apart k sofar.puts page.gone = sym c.if-not-are_apart.true ∙ c.are_apart.ensures ∙ (λ i. apart k (c.puts.ensures i) (c.as_slice-gone.ensures i)) in
    fits_by_parts k sofar.held sofar.puts page.puts sofar.gone page.gone c.requires.come.fits true false (apart k page.puts sofar.gone) alone earlier refl

pub returns : goal.returns
returns c =
    let k = c.args.kind in
    let sofar = c.args.sofar.now in
    let page = c.args.page.now in
    let alone : true ≡ fits k sofar.held page.puts page.gone = sym c.if-not-fits.false ∙ c.fits.ensures ∙ (λ i. fits k (c.held.ensures i) (c.as_slice-puts.ensures i) (c.as_slice-gone.ensures i)) in
    let earlier : true ≡ apart k sofar.puts page.gone = sym c.if-not-are_apart.false ∙ c.are_apart.ensures ∙ (λ i. apart k (c.puts.ensures i) (c.as_slice-gone.ensures i)) in
    let later : c.stand_apart.result ≡ apart k page.puts sofar.gone = c.stand_apart.ensures ∙ (λ i. apart k (c.as_slice-puts.ensures i) (c.gone.ensures i)) in
    fits_by_parts k sofar.held sofar.puts page.puts sofar.gone page.gone c.requires.come.fits true true c.stand_apart.result alone earlier later
