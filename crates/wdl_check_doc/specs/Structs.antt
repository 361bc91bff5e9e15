-- The structs of a library (OpenWDL 1.1, "Struct Definition").
use Rattle.std.specs.Prelude.{ℕ, List, [], Option, Some, None, map, if◌then◌else◌}
use Rattle.wdl_value.specs.Fits.{Structs}
use Rattle.wdl_ast.specs.declared.document.StructMember.{StructMember}
use Rattle.wdl_ast.specs.declared.document.StructSection.{StructSection}
use Rattle.wdl_typed.specs.KnownTypes.{is_shallow}
use Rattle.wdl_library.specs.Sections.{structs_in}
use Rattle.wdl_check_rules.specs.Locals.{Naming}
use Rattle.wdl_check_types.specs.Outcome.{Outcome, done, refused, then_}
use Rattle.wdl_check_types.specs.Written.{written}
use Rattle.wdl_check_decls.specs.Names.{first_repeated}
use Rattle.wdl_check_task.specs.Tasks.{unless_repeated}
use Rattle.wdl_check_doc.specs.Outcomes.{all, placed}
use Rattle.wdl_check_doc.specs.Parts.{Part}

-- 329: a type that cannot be written
abbrev pub member_typed : Naming → StructMember → Outcome (Unit {0})
member_typed locals m = then_ (written locals m.ty) (λ t. done tt)

-- 321: a member whose name stands before
abbrev pub section_typed : Naming → StructSection → Outcome (Unit {0})
section_typed locals s = unless_repeated (first_repeated [] (map (λ (m : StructMember). m.name) s.members)) (all (member_typed locals) s.members)

-- ---- depths

abbrev pub or_itself : List ℕ → Option (List ℕ) → List ℕ
or_itself name None = name
or_itself name (Some other) = other

-- the name of the library for the struct of a section
abbrev pub struct_name : Naming → StructSection → List ℕ
struct_name locals s = or_itself s.name.name (locals s.name.name)

-- 330: members that form a circle, or lead through more than 32 structs
abbrev pub section_nests : Structs → Naming → StructSection → Outcome (Unit {0})
section_nests structs locals s = if is_shallow 32 structs (struct_name locals s) then done tt else refused 330 s.name.span

-- ---- all of them

abbrev pub sections_typed : Part → Outcome (Unit {0})
sections_typed p = placed p.number (all (section_typed p.locals) (structs_in p.sections))

abbrev pub sections_nest : Structs → Part → Outcome (Unit {0})
sections_nest structs p = placed p.number (all (section_nests structs p.locals) (structs_in p.sections))

abbrev pub structs_typed : Structs → List Part → Outcome (Unit {0})
structs_typed structs ps = then_ (all sections_typed ps) (λ u. all (sections_nest structs) ps)
