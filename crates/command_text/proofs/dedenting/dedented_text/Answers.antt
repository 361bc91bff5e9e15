use Rattle.std.proofs.Common.{◌∙◌, ap, sym, subst, List, ℕ, Bor, map}
use Rattle.std.specs.List.{All}
use Rattle.std.proofs.lemmas.Result.{IfOk-weaker}
use Rattle.wdl_base.specs.Templates.{lines}
use Rattle.command_text.specs.Marks.{Fits, zeros}
use Rattle.command_text.proofs.Indents.{common_fits}
use Rattle.command_text.proofs.LineLaws.{dedented_is, zeros_dedented}
use Rattle.command_text.proofs.dedenting.dedented_text.Goals as goal

pub join_cut-requires : goal.join_cut-requires
join_cut-requires c =
    let all = map (λ (s : Bor (List ℕ)). s.now) c.without_last-lines.result.now in
    subst (λ (w : ℕ). All (Fits w) all) (sym c.common_indent.ensures) (common_fits all)

pub returns-clause-value : goal.returns-clause-value
returns-clause-value c =
    IfOk-weaker c.join_cut.result _ _ (λ t h. h ∙ dedented_is c.args.text.now c.as_slice.result.now c.without_first.result.now
    c.without_last-lines.result.now c.common_indent.result (ap (map (λ (s : Bor (List ℕ)). s.now)) c.as_slice.ensures.value ∙ (c.in_ok-all.ensures ∙ ap lines (c.as_str.ensures.value ∙ c.in_ok-own.ensures)))
    c.without_first.ensures c.without_last-lines.ensures c.common_indent.ensures) c.join_cut.ensures

pub returns-clause-holes : goal.returns-clause-holes
returns-clause-holes c =
    IfOk-weaker c.join_cut.result _ _ (λ t h. ap zeros h ∙ zeros_dedented c.args.text.now) (returns-clause-value c)
