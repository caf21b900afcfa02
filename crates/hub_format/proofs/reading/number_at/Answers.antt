use Rattle.std.proofs.Common.{◌++◌, drop, sym, ap, ◌∙◌, take-append-drop}
use Rattle.hub_format.specs.Pieces.{number, number_size}
use Rattle.hub_format.proofs.reading.number_at.Goals as goal

pub returns : goal.returns
returns c =
    let cases = c.in_ok-first.ensures.cases in
    let n = c.number_of.result in
    sym (take-append-drop number_size c.args.bytes.now) ∙ ap (λ xs. xs ++ drop number_size c.args.bytes.now) (sym cases.0 ∙ sym c.number_of.ensures) ∙ ap (λ xs. number n ++ xs) (sym cases.1)
