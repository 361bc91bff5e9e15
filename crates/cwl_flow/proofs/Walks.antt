-- Walks over statements, one by one.
use Rattle.std.proofs.Common.{◌≡◌, ℕ, ◌+◌, ◌-◌, ◌<◌, List, [], ◌∷◌, ◌++◌, length, take, drop, get_or, append_assoc, sym, ap, ◌∙◌}
use Rattle.std.proofs.lemmas.List.{drop_more, take_rest}
use Rattle.std.proofs.Math.Seq.{drop-append_seam}
use Rattle.wdl_typed.specs.declared.flow.Statement.{Statement}
use Rattle.cwl_model.specs.declared.process.CwlStep.{CwlStep}
use Rattle.cwl_model.specs.declared.process.Process.{Process}
use Rattle.cwl_image.specs.Image.{Scope, body_steps, links_of, step_of}
use Rattle.cwl_flow.specs.declared.context.Context.{Context}
use Rattle.cwl_flow.specs.Drafts.{draft_of, drafts_of}

-- the first statement that is left, and the others
pub cut : (body : List Statement) (i : ℕ) (s : Statement) → i < length body → s ≡ get_or body i s → drop i body ≡ s ∷ drop (i + 1) body
cut body i s below is = drop_more body i s below ∙ ap (λ t. t ∷ drop (i + 1) body) (sym is)

-- what is made of the statements one by one, behind what was there
pub one_more : {A : Type 0} (g : List Statement → List A) (h : Statement → List A) → ((s : Statement) (ss : List Statement) → g (s ∷ ss) ≡ h s ++ g ss)
    → (body : List Statement) (i : ℕ) (s : Statement) (xs ys all : List A) → i < length body → s ≡ get_or body i s → ys ≡ xs ++ h s
    → xs ++ g (drop i body) ≡ all → ys ++ g (drop (i + 1) body) ≡ all
one_more g h first body i s xs ys all below is more before =
    ap (λ zs. zs ++ g (drop (i + 1) body)) more
    ∙ append_assoc xs (h s) (g (drop (i + 1) body))
    ∙ ap (λ zs. xs ++ zs) (sym (first s (drop (i + 1) body)))
    ∙ ap (λ ss. xs ++ g ss) (sym (cut body i s below is))
    ∙ before

-- one more step, and what is seen behind it
pub step_more : (c : Context) (body : List Statement) (i : ℕ) (s : Statement) (t : CwlStep Process) (steps steps' all : List (CwlStep Process)) (scope scope' : Scope)
    → i < length body → s ≡ get_or body i s → t ≡ step_of (draft_of c s) scope → steps' ≡ steps ++ t ∷ [] → scope' ≡ scope ++ links_of (draft_of c s)
    → steps ++ body_steps (drafts_of c (drop i body)) scope ≡ all → steps' ++ body_steps (drafts_of c (drop (i + 1) body)) scope' ≡ all
step_more c body i s t steps steps' all scope scope' below is made more seen before =
    ap (λ zs. zs ++ body_steps (drafts_of c (drop (i + 1) body)) scope') (more ∙ ap (λ u. steps ++ u ∷ []) made)
    ∙ append_assoc steps (step_of (draft_of c s) scope ∷ []) (body_steps (drafts_of c (drop (i + 1) body)) scope')
    ∙ ap (λ v. steps ++ step_of (draft_of c s) scope ∷ body_steps (drafts_of c (drop (i + 1) body)) v) seen
    ∙ ap (λ ss. steps ++ body_steps (drafts_of c ss) scope) (sym (cut body i s below is))
    ∙ before

-- what stands behind the first so many
pub behind : {A : Type 0} (xs ys all : List A) (n : ℕ) → n ≡ length xs → all ≡ xs ++ ys → take (length all - n) (drop n all) ≡ ys
behind xs ys all n first both = take_rest all n ∙ ap (λ k. drop k all) first ∙ ap (drop (length xs)) both ∙ drop-append_seam xs ys
