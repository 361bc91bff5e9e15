-- The main workflow.
use Rattle.std.proofs.Common.{◌≡◌, ◌≢◌, ℕ, List, [], ◌∷◌, Some, length, map, slice_get, refl, sym, ap, ◌∙◌}
use Rattle.wdl_ast.specs.declared.workflow.Workflow.{Workflow}
use Rattle.wdl_check_doc.specs.declared.numbered_doc.Part.{Part as Held}
use Rattle.wdl_check_doc.specs.Checked.{first_among, main_of}
use Rattle.wdl_check_doc.specs.Parts.{part_of}
use Rattle.wdl_check_doc.specs.Runnables.{workflows_in}

some_first : (fs : List Workflow) (n : ℕ) → n ≡ length fs → n ≢ 0 → Some 0 ≡ first_among fs
some_first [] n e h = absurd (h e)
some_first (f ∷ fs) n e h = refl

pub main_some : (ps : List Held) (first : Held) → slice_get ps 0 ≡ Some first → (n : ℕ) → n ≡ length (workflows_in first.doc.now.document.sections) → n ≢ 0
    → Some 0 ≡ main_of (map part_of ps)
main_some [] first e n m h = cc
main_some (p ∷ ps) first e n m h =
    let same : p ≡ first = cc in
    some_first (workflows_in p.doc.now.document.sections) n (m ∙ ap (λ (q : Held). length (workflows_in q.doc.now.document.sections)) (sym same)) h
