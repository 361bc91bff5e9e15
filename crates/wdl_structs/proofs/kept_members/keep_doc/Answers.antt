use Rattle.std.proofs.Common.{◌≡◌, List, true, map, sym, subst}
use Rattle.wdl_ast.specs.declared.document.Section.{Section}
use Rattle.wdl_library.specs.declared.doc.StructName.{StructName}
use Rattle.wdl_library.specs.Names.{names_in}
use Rattle.wdl_library.specs.Sections.{structs_in}
use Rattle.wdl_structs.specs.declared.table.Entry.{Entry}
use Rattle.wdl_structs.specs.Tables.{named}
use Rattle.wdl_structs.specs.Nodes.{all_among}
use Rattle.wdl_structs.specs.Kept.{IsHere}
use Rattle.wdl_structs.proofs.KeepSteps.{keeps_sections}
use Rattle.wdl_structs.proofs.kept_members.keep_doc.Goals as goal

pub keep_sections-requires : goal.keep_sections-requires
keep_sections-requires c =
    let names = c.as_slice-names.result.now in
    let kept = c.args.kept.now in
    let parents = c.args.parents.now in
    record {
      here = subst (λ (es : List Entry). IsHere kept (named es) names parents c.args.start) (sym c.in_ok-index.ensures)
          (subst (λ (ns : List StructName). IsHere kept (named c.args.entries.now) ns parents c.args.start) (sym c.as_slice-names.ensures) c.requires.here);
      known = subst (λ (ss : List Section). all_among (names_in names) (map (λ s. s.name.name) (structs_in ss)) ≡ true) (sym c.as_slice-sections.ensures)
          (subst (λ (ns : List StructName). all_among (names_in ns) (map (λ s. s.name.name) (structs_in c.args.doc.now.document.sections)) ≡ true) (sym c.as_slice-names.ensures) c.requires.known);
    }

pub returns : goal.returns
returns c =
    keeps_sections c.args.parents.now c.args.start c.args.kept.now c.keep_sections.new.kept c.as_slice-names.result.now c.args.doc.now.structs c.as_slice-sections.result.now c.args.doc.now.document.sections
    c.keep_sections.result c.as_slice-names.ensures c.as_slice-sections.ensures c.keep_sections.ensures
