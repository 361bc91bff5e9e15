use Rattle.std.proofs.Common.{◌∙◌, ◌++◌, ap}
use Rattle.wdl_ast.specs.DocumentWords.{each, workflow_element_words}
use Rattle.wdl_ast.proofs.Framed.{framed}
use Rattle.wdl_ast.proofs.tokens.workflow.push_workflow.Goals as goal

pub returns : goal.returns
returns c =
    let elements = c.in_ok-push_elements.ensures ∙ ap (λ es. c.mark.new.self ++ each workflow_element_words es) c.as_slice.ensures in
    framed _ _ _ _ _ _ _ _ _ _ _ c.in_ok-keyword.ensures c.in_ok-ident.ensures c.in_ok-mark.ensures elements c.in_ok-mark-2.ensures
