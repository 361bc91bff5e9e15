-- The condition of a checked form holds of what is typed.
use Rattle.std.proofs.Common.{◌≡◌, Bool, true, false, List, Some, refl, sym, ◌∙◌}
use Rattle.std.proofs.lemmas.Bool.{false≢true}
use Rattle.std.proofs.Math.Logic.{∥∥₁_elim}
use Rattle.wdl_value.specs.Fits.{Structs}
use Rattle.wdl_typed.specs.declared.checked.CheckedParts.{CheckedParts}
use Rattle.wdl_typed.specs.Bodies.{library}
use Rattle.wdl_typed.specs.Kept.{is_checked}
use Rattle.wdl_library.specs.declared.doc.Doc.{Doc}
use Rattle.wdl_library.specs.Links.{is_linked}
use Rattle.wdl_library.specs.Structs.{HasStructs}
use Rattle.wdl_check_doc.specs.Checked.{typed}
use Rattle.wdl_check_doc.specs.Laws.{LibrariesChecked}
use Rattle.wdl_check_doc.proofs.Below.{flow_types, flows_counted, flows_named, heads_fit, task_types, tasks_counted, written_types}
use Rattle.wdl_check_doc.proofs.Whole.{checked_is}

pub libraries_checked : LibrariesChecked
libraries_checked = checked_is written_types task_types tasks_counted flow_types heads_fit flows_named flows_counted

pub parts_kept : (docs : List Doc) (structs : Structs) (c : CheckedParts) → is_linked docs ≡ true → ∥ HasStructs docs structs ∥₁ → (typed docs structs).typed ≡ Some c
    → is_checked (library c.structs c.tasks c.flows) c.main ≡ true
parts_kept docs structs c linked named h = by_test (is_checked (library c.structs c.tasks c.flows) c.main) refl
  where
    by_test : (b : Bool) → is_checked (library c.structs c.tasks c.flows) c.main ≡ b → b ≡ true
    by_test true e = refl
    by_test false e = absurd (∥∥₁_elim named (λ x y. absurd x) (λ has. false≢true (sym e ∙ libraries_checked docs structs c linked has h)))
