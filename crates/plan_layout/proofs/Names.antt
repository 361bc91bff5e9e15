-- The names that statements give out, and those to which arguments refer, as the code finds them.
use Rattle.std.proofs.Common.{◌≡◌, [], ◌∷◌, ◌++◌, refl, sym, ap, ◌∙◌, List}
use Rattle.wdl_base.specs.declared.name.Key.{Key}
use Rattle.wdl_typed.specs.declared.expr.TExpr.{TExpr}
use Rattle.wdl_typed.specs.declared.expr.TField.{TField}
use Rattle.wdl_typed.specs.declared.flow.Statement.{Statement}
use Rattle.wdl_typed.specs.Scope.{names_of}
use Rattle.wdl_typed.specs.Bodies.{Library}
use Rattle.wdl_typed.specs.Flow.{Names, nothing}
use Rattle.references.specs.Names.{argument_names}
use Rattle.flow_laws.specs.Laws.{run_with}
use Rattle.wdl_flow.specs.Given.{all_names, both, none}
use Rattle.wdl_flow.proofs.GivenNames.{bodies_same}
use Rattle.net_laws.specs.Growing.{body_given}
use Rattle.net_laws.specs.Rules.{arg_keys}

pub given_is : (lib : Library) (ss : List Statement) (old new : Names) → old ≡ none → new ≡ both old (all_names lib.tasks lib.flows ss) → new ≡ body_given lib ss
given_is lib ss old new e h =
    h ∙ ap (λ (n : Names). both n (all_names lib.tasks lib.flows ss)) e ∙ sym (bodies_same (run_with lib [] []) (λ k given place. nothing) ss)

pub keys_are : (args : List (TField TExpr)) → argument_names args ≡ arg_keys args
keys_are [] = refl
keys_are (a ∷ more) = ap (λ (ks : List Key). names_of a.value ++ ks) (keys_are more)
