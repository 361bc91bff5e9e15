use Rattle.std.proofs.Common.{◌+◌, ◌∷◌, List, ap, sym, ◌∙◌, drop, refl}
use Rattle.std.proofs.lemmas.List.{drop_all}
use Rattle.wdl_ast.specs.declared.document.Import.{Import}
use Rattle.wdl_ast.specs.declared.document.Section.{Section}
use Rattle.wdl_library.specs.declared.doc.Link.{Link}
use Rattle.wdl_library.specs.Names.{given}
use Rattle.wdl_library.specs.Sections.{imports_in}
use Rattle.wdl_links.proofs.WantLemmas.{next_section}
use Rattle.wdl_structs.specs.Classes.{Marks}
use Rattle.wdl_structs.specs.Tables.{names_of, imported_by}
use Rattle.wdl_structs.specs.Nodes.{label_by, import_by, along_by, all_among}
use Rattle.wdl_structs.proofs.NodeLaws.{joining_more, joining_done, along_none, all_both}
use Rattle.wdl_structs.proofs.StepLaws.{first_rest}
use Rattle.wdl_structs.proofs.identity.join_imports.Goals as goal

pub returns-in_default : goal.returns-in_default
returns-in_default c =
    let l = c.loop-section in
    let tables = c.args.tables.now in
    let k = c.args.number in
    let ss = c.args.sections.now in
    joining_done c.args.parents.now l.parents (λ (g : Marks). along_by (label_by tables g) (names_of tables) k (imports_in ss) c.args.links.now)
    (λ (g : Marks). along_by (label_by tables g) (names_of tables) k (imports_in (drop l.section-index ss)) l.left.now) l.invariant.0
    (λ (g : Marks). along_none (label_by tables g) (names_of tables) k (imports_in (drop l.section-index ss)) l.left.now c.in_default.len_below)

pub loop-section-preserved : goal.loop-section-preserved
loop-section-preserved c =
    let l = c.loop-section in
    let tables = c.args.tables.now in
    let k = c.args.number in
    let ss = c.args.sections.now in
    let i = c.in-Import.import in
    let link = c.link-item.result in
    let rest = imports_in (drop (l.section-index + 1) ss) in
    let next = next_section ss l.section-index c.section-item.result i c.loop-section-test.true c.section-item.is c.in-Import.is in
    let split = first_rest l.left.now _ link c.in-len1-up.len_at_least c.link-item.is refl in (
      joining_more c.args.parents.now l.parents c.join_import.new.parents (λ (g : Marks). along_by (label_by tables g) (names_of tables) k (imports_in ss) c.args.links.now)
          (λ (g : Marks). along_by (label_by tables g) (names_of tables) k (imports_in (drop l.section-index ss)) l.left.now)
          (λ (g : Marks). import_by (label_by tables g) (names_of tables) k i link) (λ (g : Marks). along_by (label_by tables g) (names_of tables) k rest _) l.invariant.0
          c.in_ok-join_import.ensures
          (λ (g : Marks). ap (λ (is : List Import). along_by (label_by tables g) (names_of tables) k is l.left.now) next ∙ ap (λ (ls : List Link). along_by (label_by tables g) (names_of tables) k (i ∷ rest) ls) split),
      (all_both (names_of tables k) (given i.aliases (names_of tables link.doc)) (imported_by (names_of tables) rest _)
          (sym (ap (λ (is : List Import). all_among (names_of tables k) (imported_by (names_of tables) is l.left.now)) next ∙ ap (λ (ls : List Link). all_among (names_of tables k) (imported_by (names_of tables) (i ∷ rest) ls)) split) ∙ l.invariant.1)).1,
    )

pub returns : goal.returns
returns c =
    let l = c.loop-section in
    let tables = c.args.tables.now in
    let k = c.args.number in
    let ss = c.args.sections.now in
    joining_done c.args.parents.now l.parents (λ (g : Marks). along_by (label_by tables g) (names_of tables) k (imports_in ss) c.args.links.now)
    (λ (g : Marks). along_by (label_by tables g) (names_of tables) k (imports_in (drop l.section-index ss)) l.left.now) l.invariant.0
    (λ (g : Marks). ap (λ (xs : List Section). along_by (label_by tables g) (names_of tables) k (imports_in xs) l.left.now) (drop_all l.section-index ss c.loop-section-test.false))
