use Rattle.std.proofs.Common.{List, ap, ◌∙◌}
use Rattle.wdl_ast.specs.declared.document.Section.{Section}
use Rattle.wdl_library.specs.declared.doc.Link.{Link}
use Rattle.wdl_library.specs.Sections.{imports_in, imports_of}
use Rattle.wdl_structs.specs.Classes.{Marks}
use Rattle.wdl_structs.specs.Tables.{names_of, imported_by}
use Rattle.wdl_structs.specs.Nodes.{label_by, along_by, all_among}
use Rattle.wdl_structs.proofs.NodeLaws.{joined_ok}
use Rattle.wdl_structs.proofs.StandLaws.{seen_imported}
use Rattle.wdl_structs.proofs.identity.join_doc.Goals as goal

pub join_imports-requires-clause-known : goal.join_imports-requires-clause-known
join_imports-requires-clause-known c =
    let names = names_of c.args.tables.now in
    let k = c.args.number in
    let d = c.args.doc.now in
    ap (λ (ss : List Section). all_among (names k) (imported_by names (imports_in ss) c.as_slice-links.result.now)) c.as_slice-sections.ensures
    ∙ ap (λ (ls : List Link). all_among (names k) (imported_by names (imports_of d.document) ls)) c.as_slice-links.ensures
    ∙ ap (λ ns. all_among ns (imported_by names (imports_of d.document) d.imports)) c.requires.seen ∙ seen_imported names d

pub returns : goal.returns
returns c =
    let names = names_of c.args.tables.now in
    let k = c.args.number in
    joined_ok c.join_imports.result c.args.parents.now c.join_imports.new.parents
    (λ (g : Marks). along_by (label_by c.args.tables.now g) names k (imports_in c.as_slice-sections.result.now) c.as_slice-links.result.now)
    (λ (g : Marks). along_by (label_by c.args.tables.now g) names k (imports_of c.args.doc.now.document) c.args.doc.now.imports)
    (λ (g : Marks). ap (λ (ss : List Section). along_by (label_by c.args.tables.now g) names k (imports_in ss) c.as_slice-links.result.now) c.as_slice-sections.ensures
    ∙ ap (λ (ls : List Link). along_by (label_by c.args.tables.now g) names k (imports_of c.args.doc.now.document) ls) c.as_slice-links.ensures) c.join_imports.ensures
