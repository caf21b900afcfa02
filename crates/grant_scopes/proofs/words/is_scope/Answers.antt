use Rattle.std.proofs.Common.{bytes_eq, sym, ap, ◌∙◌}
use Rattle.std.specs.List.{list_any}
use Rattle.grant_scopes.specs.Infos.{scope_of}
use Rattle.grant_scopes.specs.Opens.{Scope}
use Rattle.grant_scopes.specs.Words.{is_scope}
use Rattle.roster_base.proofs.ListSteps.{list_any-map}
use Rattle.grant_scopes.proofs.words.is_scope.Goals as goal

pub returns : goal.returns
unfolding is_scope
returns c =
    c.has_word.ensures
    ∙ sym (list_any-map (λ (s : Scope). bytes_eq s.word c.args.word.now) scope_of c.all.result.now)
    ∙ ap (list_any (λ (s : Scope). bytes_eq s.word c.args.word.now)) c.all.ensures
