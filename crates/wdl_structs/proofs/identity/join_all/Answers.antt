use Rattle.std.proofs.Common.{◌+◌, ◌∙◌, drop, ap, subst, ℕ, ◌<◌, sym}
use Rattle.std.proofs.lemmas.List.{drop_all}
use Rattle.wdl_links.proofs.CircleLemmas.{at_index}
use Rattle.wdl_library.specs.Sections.{imports_of}
use Rattle.wdl_structs.specs.Classes.{Marks}
use Rattle.wdl_structs.specs.Tables.{names_of}
use Rattle.wdl_structs.specs.Nodes.{label_by, along_by, from_by}
use Rattle.wdl_structs.proofs.NodeLaws.{joining_more, joining_done, from_next}
use Rattle.wdl_structs.proofs.StepLaws.{next_item}
use Rattle.wdl_structs.proofs.IdentityLaws.{tables_distinct}
use Rattle.wdl_structs.proofs.identity.join_all.Goals as goal

pub join_doc-requires : goal.join_doc-requires
join_doc-requires c =
    let l = c.loop-number in
    let s = c.requires.seen in
    record {
      here = record {
        starts_are = c.requires.starts;
        len = l.invariant.len ∙ c.requires.len;
        low = l.invariant.low;
        within = subst (λ (n : ℕ). l.number < n) (sym s.0) c.loop-number-test.true;
        names = λ i. names_of c.args.tables.now l.number;
        distinct = tables_distinct c.args.docs.now c.args.tables.now s l.number;
      };
      seen = s.1 l.number c.index-docs-number.result (at_index c.args.docs.now l.number c.index-docs-number.result c.loop-number-test.true c.index-docs-number.is);
    }

pub loop-number-preserved : goal.loop-number-preserved
loop-number-preserved c =
    let l = c.loop-number in
    let tables = c.args.tables.now in
    let docs = c.args.docs.now in
    let d = c.index-docs-number.result in
    let next = next_item docs l.number d c.loop-number-test.true c.index-docs-number.is in
    joining_more c.args.parents.now l.parents c.join_doc.new.parents (λ (g : Marks). from_by (label_by tables g) (names_of tables) 0 docs) (λ (g : Marks). from_by (label_by tables g) (names_of tables) l.number (drop l.number docs))
    (λ (g : Marks). along_by (label_by tables g) (names_of tables) l.number (imports_of d.document) d.imports)
    (λ (g : Marks). from_by (label_by tables g) (names_of tables) (l.number + 1) (drop (l.number + 1) docs)) l.invariant c.in_ok-join_doc.ensures
    (λ (g : Marks). from_next (λ (h : Marks). label_by tables h) (names_of tables) g l.number (drop l.number docs) (drop (l.number + 1) docs) d next)

pub returns : goal.returns
returns c =
    let l = c.loop-number in
    let tables = c.args.tables.now in
    let docs = c.args.docs.now in
    joining_done c.args.parents.now l.parents (λ (g : Marks). from_by (label_by tables g) (names_of tables) 0 docs) (λ (g : Marks). from_by (label_by tables g) (names_of tables) l.number (drop l.number docs)) l.invariant
    (λ (g : Marks). ap (from_by (label_by tables g) (names_of tables) l.number) (drop_all l.number docs c.loop-number-test.false))
