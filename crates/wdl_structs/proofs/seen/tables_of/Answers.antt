use Rattle.std.proofs.Common.{◌≡◌, ◌<◌, Bool, List, true, sym, subst, ap, ◌∙◌, set, length, arith}
use Rattle.std.proofs.lemmas.Bool.{and_parts, not-true}
use Rattle.std.specs.Prelude.{not}
use Rattle.wdl_library.specs.Links.{links_at}
use Rattle.wdl_links.specs.Circles.{is_next, is_marked, all_marked, unmarked, NoneIsNext}
use Rattle.wdl_links.proofs.CircleLemmas.{unmarked-set, at_index}
use Rattle.wdl_structs.specs.Tables.{Names, names_of, seen_by}
use Rattle.wdl_structs.proofs.SeenLaws.{AreFound, found_more, all_found}
use Rattle.wdl_structs.proofs.seen.tables_of.Goals as goal

pub loop-k-smaller : goal.loop-k-smaller
loop-k-smaller c =
    let l = c.loop-k in
    let docs = c.args.docs.now in
    let k = c.in-Some.k in
    let next : is_next docs l.marks k ≡ true = subst (λ (m : List Bool). is_next docs m k ≡ true) c.as_slice.ensures c.in-Some.ensures.some.1 in
    let below : k < length l.marks = omega (arith, c.in-Some.ensures.some.0, l.invariant.marks_len) in
    subst (λ (m : List Bool). unmarked m < unmarked l.marks) (sym c.set-in-Some.ensures)
    (unmarked-set l.marks k below (not-true (is_marked l.marks k) (and_parts (not (is_marked l.marks k)) (all_marked l.marks (links_at docs k)) next).0))

pub loop-k-preserved : goal.loop-k-preserved
loop-k-preserved c =
    let l = c.loop-k in
    let docs = c.args.docs.now in
    let k = c.in-Some.k in
    let d = c.index-docs-k.result in
    let next : is_next docs l.marks k ≡ true = subst (λ (m : List Bool). is_next docs m k ≡ true) c.as_slice.ensures c.in-Some.ensures.some.1 in
    let below : k < length docs = c.in-Some.ensures.some.0 in
    subst (λ (m : List Bool). AreFound docs c.set.new.self m) (sym c.set-in-Some.ensures)
    (subst (λ (t : List Names). AreFound docs t (set l.marks k true)) (sym c.set.ensures)
    (found_more docs l.tables l.marks k d c.in_ok-table.table l.invariant (at_index docs k d below c.index-docs-k.is) below next (c.in_ok-table.ensures ∙ ap (λ (ts : List Names). seen_by (names_of ts) d) c.as_slice-in-Some.ensures)))

pub returns : goal.returns
returns c =
    let l = c.loop-k in
    all_found c.args.docs.now l.tables l.marks c.requires.linked c.requires.ends (subst (λ (m : List Bool). NoneIsNext c.args.docs.now m) c.as_slice.ensures c.in_default.ensures.none) l.invariant
