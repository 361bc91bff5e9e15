-- The equations of `statement_words`.
use Rattle.std.proofs.Common.{◌≡◌, List, [], ◌∷◌, ◌++◌, refl, ap, sym, ◌∙◌, codes, append_assoc}
use Rattle.std.proofs.lemmas.List.{append-nil}
use Rattle.wdl_ast.specs.declared.token.Mark.TheVariants as mark
use Rattle.wdl_ast.specs.declared.section.Declaration.{Declaration}
use Rattle.wdl_ast.specs.declared.workflow.Call.{Call}
use Rattle.wdl_ast.specs.declared.workflow.Scatter.{Scatter}
use Rattle.wdl_ast.specs.declared.workflow.Conditional.{Conditional}
use Rattle.wdl_ast.specs.declared.workflow.Statement.{Statement, fold-roll-Statement}
use Rattle.wdl_ast.specs.declared.workflow.Statement.TheOpen as layer
use Rattle.wdl_ast.specs.declared.workflow.Statement.TheVariants as st
use Rattle.wdl_ast.specs.declared.workflow.Statement.TheShapes.{former-Statement-Scatter-0, former-Statement-Conditional-0}
use Rattle.wdl_ast.specs.Words.{Words, marked, keyword, ident, itself, words}
use Rattle.wdl_ast.specs.DocumentWords.{each, declaration_words, call_words, scatter_words, conditional_words, statement_step, statement_words}

scatter_body : (s : Scatter Statement) (xs : List Statement) → each itself ((former-Statement-Scatter-0).map _ _ statement_words (record { keyword = s.keyword; opening_paren = s.opening_paren; item = s.item; in_word = s.in_word; over = s.over; closing_paren = s.closing_paren; opening = s.opening; body = xs; closing = s.closing })).body ≡ each statement_words xs
scatter_body s [] = refl
scatter_body s (x ∷ xs) = ap (λ z. statement_words x ++ z) (scatter_body s xs)

conditional_body : (s : Conditional Statement) (xs : List Statement) → each itself ((former-Statement-Conditional-0).map _ _ statement_words (record { keyword = s.keyword; opening_paren = s.opening_paren; condition = s.condition; closing_paren = s.closing_paren; opening = s.opening; body = xs; closing = s.closing })).body ≡ each statement_words xs
conditional_body s [] = refl
conditional_body s (x ∷ xs) = ap (λ z. statement_words x ++ z) (conditional_body s xs)

pub words_declaration : (d : Declaration) → statement_words (st.Declaration d) ≡ declaration_words d
unfolding statement_words
words_declaration d = ap statement_words (sym (st.rolls-Declaration d)) ∙ fold-roll-Statement Words statement_step (layer.Declaration d)

pub words_call : (c : Call) → statement_words (st.Call c) ≡ call_words c
unfolding statement_words
words_call c = ap statement_words (sym (st.rolls-Call c)) ∙ fold-roll-Statement Words statement_step (layer.Call c)

pub words_scatter : (s : Scatter Statement) → statement_words (st.Scatter s) ≡ scatter_words statement_words s
unfolding statement_words
words_scatter s = ap statement_words (sym (st.rolls-Scatter s)) ∙ fold-roll-Statement Words statement_step (layer.Scatter s)
    ∙ ap (λ z. keyword (codes "scatter") s.keyword ∷ marked mark.OpenParen s.opening_paren ∷ ident s.item ∷ keyword (codes "in") s.in_word
    ∷ (words s.over ++ marked mark.CloseParen s.closing_paren ∷ marked mark.OpenBrace s.opening ∷ (z ++ marked mark.CloseBrace s.closing ∷ []))) (scatter_body s s.body)

pub words_conditional : (s : Conditional Statement) → statement_words (st.Conditional s) ≡ conditional_words statement_words s
unfolding statement_words
words_conditional s = ap statement_words (sym (st.rolls-Conditional s)) ∙ fold-roll-Statement Words statement_step (layer.Conditional s)
    ∙ ap (λ z. keyword (codes "if") s.keyword ∷ marked mark.OpenParen s.opening_paren
    ∷ (words s.condition ++ marked mark.CloseParen s.closing_paren ∷ marked mark.OpenBrace s.opening ∷ (z ++ marked mark.CloseBrace s.closing ∷ []))) (conditional_body s s.body)

pub ruleset statement_equations = (words_declaration, words_call, words_scatter, words_conditional, append_assoc, append-nil)
