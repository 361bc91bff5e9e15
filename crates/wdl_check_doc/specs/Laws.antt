-- What is true of every library that is typed.
use Rattle.std.specs.Prelude.{◌≡◌, true, List, Some}
use Rattle.wdl_value.specs.Fits.{Structs}
use Rattle.wdl_typed.specs.declared.checked.CheckedParts.{CheckedParts}
use Rattle.wdl_typed.specs.Bodies.{library}
use Rattle.wdl_typed.specs.Kept.{is_checked}
use Rattle.wdl_library.specs.declared.doc.Doc.{Doc}
use Rattle.wdl_library.specs.Links.{is_linked}
use Rattle.wdl_library.specs.Structs.{HasStructs}
use Rattle.wdl_check_doc.specs.Checked.{typed}

-- a typed library is all that a checked form keeps
abbrev pub LibrariesChecked : Type 0
LibrariesChecked = (docs : List Doc) (structs : Structs) (c : CheckedParts) → is_linked docs ≡ true → HasStructs docs structs
    → (typed docs structs).typed ≡ Some c → is_checked (library c.structs c.tasks c.flows) c.main ≡ true
