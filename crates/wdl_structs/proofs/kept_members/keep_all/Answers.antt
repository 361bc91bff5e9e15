use Rattle.std.proofs.Common.{◌≡◌, ℕ, ◌<◌, List, Err, Ok, ap, sym, subst, ◌∙◌, length, drop, arith}
use Rattle.std.proofs.lemmas.List.{drop_all}
use Rattle.wdl_value.specs.declared.ty.Member.{Member}
use Rattle.wdl_library.specs.declared.doc.Doc.{Doc}
use Rattle.wdl_library.specs.Names.{names_in, own_names}
use Rattle.wdl_typed.specs.Lists.{are_distinct}
use Rattle.wdl_links.proofs.CircleLemmas.{at_index}
use Rattle.wdl_structs.specs.Classes.{root}
use Rattle.wdl_structs.specs.Tables.{names_of}
use Rattle.wdl_structs.specs.Nodes.{start, all_among}
use Rattle.wdl_structs.specs.Kept.{KeepsFrom, DiffersFrom}
use Rattle.wdl_structs.proofs.KeptLaws.{keeping_none, keeping_done}
use Rattle.wdl_structs.proofs.KeepSteps.{docs_more, docs_fault, keeps_doc, start_next, all_done, all_fault, names_doc, names_length}
use Rattle.wdl_structs.proofs.NodeLaws.{room_at}
use Rattle.wdl_structs.proofs.TableLaws.{named_length}
use Rattle.wdl_structs.proofs.kept_members.keep_all.Goals as goal
use Rattle.wdl_structs.proofs.IdentityLaws.{start_zero as start_none}

pub loop-number-init : goal.loop-number-init
loop-number-init c =
    let p = c.args.parents.now in let t = c.args.tables.now in let ds = c.args.docs.now in
    (keeping_none c.in_ok-kept.kept (λ j x. KeepsFrom p t 0 ds j x) (λ s j x. DiffersFrom p t 0 ds s j x), sym (start_none t))

pub keep_doc-requires : goal.keep_doc-requires
keep_doc-requires c =
    let l = c.loop-number in
    let t = c.args.tables.now in
    let k = l.number in
    let d = c.index-docs-number.result in
    let at = at_index c.args.docs.now k d c.loop-number-test.true c.index-docs-number.is in
    let names : names_in d.structs ≡ names_of t k = names_doc c.args.docs.now (names_of t) k d c.requires.names at in
    let within : k < length t = subst (λ (n : ℕ). k < n) (sym c.requires.tables_len) c.loop-number-test.true in
    let room = room_at t k within in
    let len = c.requires.len in
    let count : length d.structs ≡ length (names_of t k) = sym (names_length d.structs) ∙ ap length names in
    let here = l.invariant.1 in
    let kept : length l.kept ≡ length (names_of t 0) = l.invariant.0.len ∙ c.in_ok-kept.ensures.len ∙ sym (named_length c.entries_at.result.now) ∙ ap length c.entries_at.ensures.names in
    record {
      here = record {
        named = c.entries_at-entries.ensures.names ∙ sym names;
        distinct = ap are_distinct names ∙ c.requires.distinct k;
        low = c.requires.low;
        lead = λ i h. subst (λ (n : ℕ). root c.args.parents.now i < n) (sym kept) (c.requires.lead i h);
        within = omega (arith, room, len, count, here);
      };
      known = ap (λ ns. all_among ns (own_names d)) names ∙ c.requires.own k d at;
    }

pub returns-in_err-keep_doc : goal.returns-in_err-keep_doc
returns-in_err-keep_doc c =
    let l = c.loop-number in
    let p = c.args.parents.now in let t = c.args.tables.now in let ds = c.args.docs.now in
    let d = c.index-docs-number.result in
    let at = at_index ds l.number d c.loop-number-test.true c.index-docs-number.is in
    let e = c.in_err-keep_doc.field-0.0 in
    let gone : c.from_residual-in_err-keep_doc.result ≡ Err e = grind arith in
    let names : names_in d.structs ≡ names_of t l.number = names_doc ds (names_of t) l.number d c.requires.names at in
    rw gone (all_fault c.in_ok-kept.kept c.keep_doc.new.kept (λ j x. KeepsFrom p t 0 ds j x) (λ s j x. DiffersFrom p t 0 ds s j x) e c.in_ok-kept.ensures.none
    (docs_fault p t c.in_ok-kept.kept l.kept c.keep_doc.new.kept c.keep_doc.new.kept ds l.number d e c.loop-number-test.true c.index-docs-number.is l.invariant.0
    (keeps_doc p l.start (start t l.number) l.kept c.keep_doc.new.kept (names_in d.structs) (names_of t l.number) d (Err e) l.invariant.1 names c.in_err-keep_doc.ensures)))

pub behind-start-requires : goal.behind-start-requires
behind-start-requires c =
    let l = c.loop-number in
    let t = c.args.tables.now in
    let k = l.number in
    let within : k < length t = subst (λ (n : ℕ). k < n) (sym c.requires.tables_len) c.loop-number-test.true in
    let room = room_at t k within in
    let len = c.requires.len in
    let count : length c.entries_at-entries.result.now ≡ length (names_of t k) = sym (named_length c.entries_at-entries.result.now) ∙ ap length c.entries_at-entries.ensures.names in
    let here = l.invariant.1 in
    omega (arith, room, len, count, here)

pub loop-number-preserved : goal.loop-number-preserved
loop-number-preserved c =
    let l = c.loop-number in
    let p = c.args.parents.now in let t = c.args.tables.now in let ds = c.args.docs.now in
    let d = c.index-docs-number.result in
    let at = at_index ds l.number d c.loop-number-test.true c.index-docs-number.is in
    let names : names_in d.structs ≡ names_of t l.number = names_doc ds (names_of t) l.number d c.requires.names at in
    let count : length c.entries_at-entries.result.now ≡ length (names_of t l.number) = sym (named_length c.entries_at-entries.result.now) ∙ ap length c.entries_at-entries.ensures.names in
    let here = l.invariant.1 in
    let next = start_next t l.number in
    let moved = c.behind-start.ensures in (
      docs_more p t c.in_ok-kept.kept l.kept c.keep_doc.new.kept ds l.number d c.loop-number-test.true c.index-docs-number.is l.invariant.0
          (keeps_doc p l.start (start t l.number) l.kept c.keep_doc.new.kept (names_in d.structs) (names_of t l.number) d (Ok tt) l.invariant.1 names c.in_ok-keep_doc.ensures),
      omega (arith, count, here, next, moved),
    )

pub returns : goal.returns
returns c =
    let l = c.loop-number in
    let p = c.args.parents.now in let t = c.args.tables.now in let ds = c.args.docs.now in
    all_done c.in_ok-kept.kept l.kept (λ j x. KeepsFrom p t 0 ds j x) (λ s j x. DiffersFrom p t 0 ds s j x) c.in_ok-kept.ensures.none
    (keeping_done c.in_ok-kept.kept l.kept (λ j x. KeepsFrom p t 0 ds j x) (λ j x. KeepsFrom p t l.number (drop l.number ds) j x) (λ s j x. DiffersFrom p t 0 ds s j x)
    (λ s j x. DiffersFrom p t l.number (drop l.number ds) s j x) l.invariant.0
    (λ (j : ℕ) (x : List Member) z. subst (λ (zs : List Doc). KeepsFrom p t l.number zs j x) (drop_all l.number ds c.loop-number-test.false) z))
