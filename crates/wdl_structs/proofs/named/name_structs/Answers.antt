use Rattle.std.proofs.Common.{List, Option, sym, subst}
use Rattle.wdl_base.specs.declared.span.Span.{Span}
use Rattle.wdl_library.specs.declared.doc.Doc.{Doc}
use Rattle.wdl_structs.specs.Tables.{Names, names_of, AreSeen, TellsAlias}
use Rattle.wdl_structs.specs.Ready.{IsReady}
use Rattle.wdl_structs.proofs.FinalLaws.{unknown_named}
use Rattle.wdl_structs.proofs.named.name_structs.Goals as goal

pub returns-in-Some : goal.returns-in-Some
returns-in-Some c =
    let docs = c.args.docs in
    let tables = c.in_ok-tables.tables in
    let span = c.in-Some.span in
    let seen = subst (λ (ds : List Doc). AreSeen ds tables) c.as_slice.ensures c.in_ok-tables.ensures in
    let tells = subst (λ (o : Option Span). TellsAlias (names_of tables) docs o) c.in-Some.is
    (subst (λ (ts : List Names). TellsAlias (names_of ts) docs c.in_ok-span.field-0) c.as_slice-2.ensures
    (subst (λ (ds : List Doc). TellsAlias (names_of c.as_slice-2.result.now) ds c.in_ok-span.field-0) c.as_slice-3.ensures c.in_ok-span.ensures)) in
    unknown_named docs tables span c.requires.linked c.requires.ends seen tells

pub identified-requires : goal.identified-requires
identified-requires c =
    let docs = c.args.docs in
    let tables = c.in_ok-tables.tables in
    let seen = subst (λ (ds : List Doc). AreSeen ds tables) c.as_slice.ensures c.in_ok-tables.ensures in
    let tells = subst (λ (o : Option Span). TellsAlias (names_of tables) docs o) c.in-None.is
    (subst (λ (ts : List Names). TellsAlias (names_of ts) docs c.in_ok-span.field-0) c.as_slice-2.ensures
    (subst (λ (ds : List Doc). TellsAlias (names_of c.as_slice-2.result.now) ds c.in_ok-span.field-0) c.as_slice-3.ensures c.in_ok-span.ensures)) in
    subst (λ (ts : List Names). IsReady docs ts) (sym c.as_slice-in-None.ensures)
    (record { linked = c.requires.linked; ends = c.requires.ends; reached = c.requires.reached; seen = seen; known = tells })
