-- The struct sections of a document, one section after the other.
use Rattle.std.proofs.Common.{◌≡◌, ℕ, ◌+◌, ◌<◌, ◌≤◌, List, [], ◌∷◌, drop, get_or, length, refl, ap, ◌∙◌, subst}
use Rattle.wdl_ast.specs.declared.document.Section.{Section}
use Rattle.wdl_ast.specs.declared.document.Section.TheVariants as section
use Rattle.wdl_ast.specs.declared.document.StructSection.{StructSection}
use Rattle.wdl_library.specs.Sections.{structs_in}
use Rattle.wdl_check_types.specs.Outcome.{Outcome}
use Rattle.wdl_check_decls.proofs.ListLaws.{Leads}
use Rattle.wdl_check_doc.specs.Outcomes.{all}
use Rattle.wdl_check_doc.proofs.Lists.{drop_end}
use Rattle.wdl_check_rules.proofs.MemberLaws.{at_front as drop_at}

pub structs_next : (xs : List Section) (i : ℕ) (x : Section) (d : StructSection) → i < length xs → x ≡ get_or xs i x → x ≡ section.Struct d
    → structs_in (drop i xs) ≡ d ∷ structs_in (drop (i + 1) xs)
structs_next xs i x d within is named = ap structs_in (drop_at xs i x within is) ∙ ap (λ (s : Section). structs_in (s ∷ drop (i + 1) xs)) named

no_struct : (x : Section) (rest : List Section) → ((d : StructSection) → x ≡ section.Struct d → ⊥) → structs_in (x ∷ rest) ≡ structs_in rest
no_struct (section.Import i) rest h = refl
no_struct (section.Struct d) rest h = absurd (h d refl)
no_struct (section.Task t) rest h = refl
no_struct (section.Workflow f) rest h = refl

pub structs_same : (f : StructSection → Outcome (Unit {0})) (xs : List Section) (i : ℕ) (x : Section) (w : Outcome (Unit {0})) → i < length xs → x ≡ get_or xs i x
    → ((d : StructSection) → x ≡ section.Struct d → ⊥) → Leads (all f (structs_in (drop i xs))) w → Leads (all f (structs_in (drop (i + 1) xs))) w
structs_same f xs i x w within is other l =
    subst (λ (ds : List StructSection). Leads (all f ds) w) (ap structs_in (drop_at xs i x within is) ∙ no_struct x (drop (i + 1) xs) other) l

pub structs_end : (xs : List Section) (i : ℕ) → length xs ≤ i → structs_in (drop i xs) ≡ []
structs_end xs i h = ap structs_in (drop_end xs i h)
