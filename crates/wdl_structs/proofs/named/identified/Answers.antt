use Rattle.std.proofs.Common.{◌≡◌, ℕ, List, Err, Ok, ap, sym, subst, ◌∙◌, length, arith}
use Rattle.wdl_library.specs.declared.doc.Doc.{Doc}
use Rattle.wdl_structs.specs.Classes.{IsLow}
use Rattle.wdl_structs.specs.Faults.{AreNamed}
use Rattle.wdl_structs.specs.Kept.{AreNamedBy}
use Rattle.wdl_structs.specs.Tables.{names_of}
use Rattle.wdl_structs.specs.Nodes.{AreClasses, LeadFirst}
use Rattle.wdl_structs.specs.Ready.{IsFull, HasStructsBy, stood_by}
use Rattle.wdl_structs.proofs.IdentityLaws.{lead_first}
use Rattle.wdl_structs.proofs.FinalLaws.{whole, named_by, all_full, stood_is, kept_fault, answered}
use Rattle.wdl_structs.proofs.named.identified.Goals as goal

pub with_standing_names-requires : goal.with_standing_names-requires
with_standing_names-requires c =
    let t = c.args.tables.now in
    let k = c.in_ok-classes.classes in
    let r = c.requires in
    let cl = subst (λ (ds : List Doc). AreClasses ds t k.starts k.parents) c.as_slice.ensures c.in_ok-classes.ensures in
    record {
      low = subst (λ (ps : List ℕ). IsLow ps) (sym c.as_slice-2.ensures) cl.low;
      lead = subst (λ (ps : List ℕ). LeadFirst (names_of t 0) ps) (sym c.as_slice-2.ensures) (lead_first c.args.docs t k.starts k.parents r.linked r.reached r.seen cl);
      len = ap length c.as_slice-2.ensures ∙ cl.len;
      tables = r.seen.0;
    }

pub structs_by-requires : goal.structs_by-requires
structs_by-requires c =
    let t = c.args.tables.now in
    let k = c.in_ok-classes.classes in
    let r = c.requires in
    let cl = subst (λ (ds : List Doc). AreClasses ds t k.starts k.parents) c.as_slice.ensures c.in_ok-classes.ensures in
    let docs : c.as_slice-3.result.now ≡ whole c.args.docs t k.starts k.parents r.linked r.ends r.reached r.seen cl =
    c.as_slice-3.ensures ∙ c.in_ok-docs.ensures ∙ ap (stood_by c.args.docs t) c.as_slice-2.ensures ∙ sym (stood_is c.args.docs t k.starts k.parents r.linked r.ends r.reached r.seen cl) in
    record {
      named = subst (λ (ds : List Doc). AreNamedBy ds t c.as_slice-4.result.now) (sym docs) (subst (λ (ps : List ℕ). AreNamedBy (whole c.args.docs t k.starts k.parents r.linked r.ends r.reached r.seen cl) t ps) (sym c.as_slice-4.ensures) (named_by c.args.docs t k.starts k.parents r.linked r.ends r.reached r.seen cl));
      full = subst (λ (ds : List Doc). IsFull ds t c.as_slice-4.result.now) (sym docs) (subst (λ (ps : List ℕ). IsFull (whole c.args.docs t k.starts k.parents r.linked r.ends r.reached r.seen cl) t ps) (sym c.as_slice-4.ensures) (all_full c.args.docs t k.starts k.parents r.linked r.ends r.reached r.seen cl));
    }

pub returns-in_err-structs : goal.returns-in_err-structs
returns-in_err-structs c =
    let t = c.args.tables.now in
    let k = c.in_ok-classes.classes in
    let r = c.requires in
    let e = c.in_err-structs.field-0.0 in
    let gone : c.from_residual-in_err-structs.result ≡ Err e = grind arith in
    let cl = subst (λ (ds : List Doc). AreClasses ds t k.starts k.parents) c.as_slice.ensures c.in_ok-classes.ensures in
    let docs : c.as_slice-3.result.now ≡ whole c.args.docs t k.starts k.parents r.linked r.ends r.reached r.seen cl =
    c.as_slice-3.ensures ∙ c.in_ok-docs.ensures ∙ ap (stood_by c.args.docs t) c.as_slice-2.ensures ∙ sym (stood_is c.args.docs t k.starts k.parents r.linked r.ends r.reached r.seen cl) in
    rw gone (kept_fault c.args.docs t k.starts k.parents r.linked r.ends r.reached r.seen cl e
    (subst (λ (ds : List Doc). HasStructsBy ds t k.parents (Err e)) docs (subst (λ (ps : List ℕ). HasStructsBy c.as_slice-3.result.now t ps (Err e)) c.as_slice-4.ensures c.in_err-structs.ensures)))

pub returns : goal.returns
returns c =
    let t = c.args.tables.now in
    let k = c.in_ok-classes.classes in
    let r = c.requires in
    let structs = c.in_ok-structs.structs in
    let cl = subst (λ (ds : List Doc). AreClasses ds t k.starts k.parents) c.as_slice.ensures c.in_ok-classes.ensures in
    let named : c.in_ok-docs.docs ≡ whole c.args.docs t k.starts k.parents r.linked r.ends r.reached r.seen cl =
    c.in_ok-docs.ensures ∙ ap (stood_by c.args.docs t) c.as_slice-2.ensures ∙ sym (stood_is c.args.docs t k.starts k.parents r.linked r.ends r.reached r.seen cl) in
    subst (λ (ds : List Doc). AreNamed c.args.docs ds structs) (sym named)
    (answered c.args.docs t k.starts k.parents r.linked r.ends r.reached r.seen cl structs r.known
    (subst (λ (ds : List Doc). HasStructsBy ds t k.parents (Ok structs)) (c.as_slice-3.ensures ∙ named) (subst (λ (ps : List ℕ). HasStructsBy c.as_slice-3.result.now t ps (Ok structs)) c.as_slice-4.ensures c.in_ok-structs.ensures)))
