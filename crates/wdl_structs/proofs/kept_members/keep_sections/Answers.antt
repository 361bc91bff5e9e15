use Rattle.std.proofs.Common.{◌≡◌, ◌+◌, ◌∷◌, List, ℕ, Err, ap, arith, subst, drop}
use Rattle.std.proofs.lemmas.List.{drop_all}
use Rattle.wdl_value.specs.declared.ty.Member.{Member}
use Rattle.wdl_ast.specs.declared.document.Section.{Section}
use Rattle.wdl_library.specs.Names.{names_in}
use Rattle.wdl_library.specs.Sections.{structs_in}
use Rattle.wdl_library.specs.Structs.{stand_in}
use Rattle.wdl_structs.specs.Kept.{Keeps, DiffersIn}
use Rattle.wdl_structs.proofs.KeptLaws.{keeping_done}
use Rattle.wdl_structs.proofs.KeepSteps.{sections_more, sections_fault, own_next, skip_section, skipped}
use Rattle.wdl_structs.proofs.kept_members.keep_sections.Goals as goal

pub returns-in_err-keep_section : goal.returns-in_err-keep_section
returns-in_err-keep_section c =
    let l = c.loop-section in
    let names = c.args.names.now in
    let ss = c.args.sections.now in
    let e = c.in_err-keep_section.field-0.0 in
    let gone : c.from_residual.result ≡ Err e = grind arith in
    rw gone (sections_fault c.args.parents.now c.args.start (names_in names) (stand_in names) c.args.kept.now l.kept c.keep_section.new.kept c.keep_section.new.kept (structs_in ss) ss l.section-index c.section-item.result
    c.in-Struct.section e c.loop-section-test.true c.section-item.is c.in-Struct.is l.invariant.0 c.in_err-keep_section.ensures)

pub loop-section-preserved : goal.loop-section-preserved
loop-section-preserved c =
    let l = c.loop-section in
    let names = c.args.names.now in
    let ss = c.args.sections.now in (
      sections_more c.args.parents.now c.args.start (names_in names) (stand_in names) c.args.kept.now l.kept c.keep_section.new.kept (structs_in ss) ss l.section-index c.section-item.result
          c.in-Struct.section c.loop-section-test.true c.section-item.is c.in-Struct.is l.invariant.0 c.in_ok-keep_section.ensures,
      (own_next (names_in names) ss l.section-index c.section-item.result c.in-Struct.section c.loop-section-test.true c.section-item.is c.in-Struct.is l.invariant.1).1,
    )

pub returns : goal.returns
returns c =
    let l = c.loop-section in
    let names = c.args.names.now in
    let parents = c.args.parents.now in
    let x = c.args.start in
    let ss = c.args.sections.now in
    keeping_done c.args.kept.now l.kept (λ j ms. Keeps parents x (names_in names) (stand_in names) (structs_in ss) j ms)
    (λ j ms. Keeps parents x (names_in names) (stand_in names) (structs_in (drop l.section-index ss)) j ms)
    (λ s j ms. DiffersIn parents x (names_in names) (stand_in names) (structs_in ss) s j ms)
    (λ s j ms. DiffersIn parents x (names_in names) (stand_in names) (structs_in (drop l.section-index ss)) s j ms) l.invariant.0
    (λ (j : ℕ) (ms : List Member) z. subst (λ (zs : List Section). Keeps parents x (names_in names) (stand_in names) (structs_in zs) j ms) (drop_all l.section-index ss c.loop-section-test.false) z)

pub loop-section-preserved-in-Import : goal.loop-section-preserved-in-Import
loop-section-preserved-in-Import c =
    let l = c.loop-section in
    let names = c.args.names.now in
    let ss = c.args.sections.now in
    skipped c.args.parents.now c.args.start (names_in names) (stand_in names) c.args.kept.now l.kept (structs_in ss) (structs_in (drop (l.section-index + 1) ss)) (structs_in (drop l.section-index ss))
    (skip_section ss l.section-index c.section-item.result c.loop-section-test.true c.section-item.is (ap (λ (x : Section). structs_in (x ∷ drop (l.section-index + 1) ss)) c.in-Import.is)) l.invariant

pub loop-section-preserved-in-Task : goal.loop-section-preserved-in-Task
loop-section-preserved-in-Task c =
    let l = c.loop-section in
    let names = c.args.names.now in
    let ss = c.args.sections.now in
    skipped c.args.parents.now c.args.start (names_in names) (stand_in names) c.args.kept.now l.kept (structs_in ss) (structs_in (drop (l.section-index + 1) ss)) (structs_in (drop l.section-index ss))
    (skip_section ss l.section-index c.section-item.result c.loop-section-test.true c.section-item.is (ap (λ (x : Section). structs_in (x ∷ drop (l.section-index + 1) ss)) c.in-Task.is)) l.invariant

pub loop-section-preserved-in-Workflow : goal.loop-section-preserved-in-Workflow
loop-section-preserved-in-Workflow c =
    let l = c.loop-section in
    let names = c.args.names.now in
    let ss = c.args.sections.now in
    skipped c.args.parents.now c.args.start (names_in names) (stand_in names) c.args.kept.now l.kept (structs_in ss) (structs_in (drop (l.section-index + 1) ss)) (structs_in (drop l.section-index ss))
    (skip_section ss l.section-index c.section-item.result c.loop-section-test.true c.section-item.is (ap (λ (x : Section). structs_in (x ∷ drop (l.section-index + 1) ss)) c.in-Workflow.is)) l.invariant
