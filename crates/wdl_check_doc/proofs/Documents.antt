-- The documents of a library as code has them.
use Rattle.std.proofs.Common.{◌≡◌, ℕ, ◌+◌, List, [], ◌∷◌, Result, map, refl, sym, ap, subst, ◌∙◌}
use Rattle.wdl_value.specs.Fits.{Structs}
use Rattle.wdl_typed.specs.declared.checked.CheckedParts.{CheckedParts}
use Rattle.wdl_library.specs.declared.doc.Doc.{Doc}
use Rattle.wdl_check_rules.specs.declared.fault.CheckFault.{CheckFault}
use Rattle.wdl_check_types.specs.Outcome.{Answers, Outcome}
use Rattle.wdl_check_doc.specs.Checked.{parts_typed, typed}
use Rattle.struct_names.specs.Known.{Known, known}
use Rattle.wdl_check_doc.specs.Known as held
use Rattle.wdl_check_doc.specs.Parts.{Part, parts_from}

known_parts : (k : ℕ) (ds : List Doc) → held.parts_from k (map known ds) ≡ parts_from k ds
known_parts k [] = refl
known_parts k (d ∷ ds) = ap (λ (ps : List Part). held.part k (known d) ∷ ps) (known_parts (k + 1) ds)

typed_is : (docs : List Doc) (structs : Structs) → typed docs structs ≡ parts_typed structs (parts_from 0 docs)
unfolding typed
typed_is docs structs = refl

-- what answers for the parts of the documents answers for the documents
pub answers_typed : (docs : List Doc) (structs given : Structs) (ks : List Known) (ps : List Part) (r : Result CheckedParts CheckFault)
    → given ≡ structs → ks ≡ map known docs → ps ≡ held.parts_from 0 ks → Answers (parts_typed given ps) r → Answers (typed docs structs) r
answers_typed docs structs given ks ps r same names are h =
    let is : ps ≡ parts_from 0 docs = are ∙ ap (held.parts_from 0) names ∙ known_parts 0 docs in
    let both : parts_typed given ps ≡ typed docs structs =
    ap (λ (s : Structs). parts_typed s ps) same ∙ ap (parts_typed structs) is ∙ sym (typed_is docs structs) in
    subst (λ (o : Outcome CheckedParts). Answers o r) both h
