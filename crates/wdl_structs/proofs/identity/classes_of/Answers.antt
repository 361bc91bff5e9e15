use Rattle.std.proofs.Common.{◌≡◌, List, ℕ, ap, sym, subst, ◌∙◌, length, arith}
use Rattle.wdl_structs.specs.Classes.{IsLow}
use Rattle.wdl_structs.specs.Tables.{names_of}
use Rattle.wdl_structs.specs.Nodes.{label_by, from_by, AreJoined, AreClasses}
use Rattle.wdl_structs.proofs.NodeLaws.{classes_are, alone_low, put_back}
use Rattle.wdl_structs.proofs.identity.classes_of.Goals as goal

pub join_all-requires : goal.join_all-requires
join_all-requires c =
    let n = c.in_ok-starts.ensures in
    record {
      starts = c.as_slice.ensures ∙ n.starts_are;
      len = ap length c.as_mut_slice.ensures.value ∙ n.len;
      low = subst (λ (ps : List ℕ). IsLow ps) (sym c.as_mut_slice.ensures.value) (alone_low c.in_ok-starts.parents.items n.alone);
      seen = c.requires;
    }

pub returns : goal.returns
returns c =
    let n = c.in_ok-starts.ensures in
    let old = c.in_ok-starts.parents.items in
    let new = c.join_all.new.parents in
    let ok = c.in_ok-starts.parents.ok in
    let joined : AreJoined old new (λ g. from_by (label_by c.args.tables.now g) (names_of c.args.tables.now) 0 c.args.docs.now) =
    subst (λ (ps : List ℕ). AreJoined ps new (λ g. from_by (label_by c.args.tables.now g) (names_of c.args.tables.now) 0 c.args.docs.now)) c.as_mut_slice.ensures.value c.in_ok-join_all.ensures in
    let len : c.in_ok-starts.parents.len ≡ length old = omega (arith, ok) in
    let back = put_back old new c.in_ok-starts.parents.len joined.len len in
    subst (λ (ps : List ℕ). AreClasses c.args.docs.now c.args.tables.now c.in_ok-starts.starts ps) (sym (c.from_vec-parents.ensures ∙ back))
    (classes_are c.args.docs.now c.args.tables.now c.in_ok-starts.starts old new n joined)
