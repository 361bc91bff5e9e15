use Rattle.std.proofs.Common.{◌≡◌, ◌+◌, ◌<◌, ◌≤◌, ◌++◌, ◌∷◌, [], List, ℕ, sym, ap, subst, ◌∙◌, length, take, arith}
use Rattle.std.proofs.lemmas.Option.{slice_get_within}
use Rattle.std.specs.Prelude.{Some}
use Rattle.wdl_value.specs.declared.ty.StructDef.{StructDef}
use Rattle.wdl_structs.specs.Classes.{root}
use Rattle.wdl_structs.specs.Tables.{Names, named}
use Rattle.wdl_structs.specs.Kept.{Has, AreDefs}
use Rattle.wdl_structs.proofs.TableLaws.{named_length}
use Rattle.wdl_structs.proofs.KeepSteps.{defs_more, named_take, take_length}
use Rattle.wdl_structs.proofs.kept_members.structs_of.Goals as goal

pub struct_of-requires : goal.struct_of-requires
struct_of-requires c =
    let es = c.args.first.now in
    let at = c.loop-at.at in
    let below : at < length (named es) = subst (λ (n : ℕ). at < n) (sym (named_length es)) c.loop-at-test.true in
    let full = c.requires.full at below in
    let has : Has c.args.kept.now c.least.result full.0 = subst (λ (k : ℕ). Has c.args.kept.now k full.0) (sym c.least.ensures.root) full.1 in
    record { within = slice_get_within c.args.kept.now c.least.result (Some full.0) has; full = (full.0, has) }

pub loop-at-preserved : goal.loop-at-preserved
loop-at-preserved c =
    let l = c.loop-at in
    let es = c.args.first.now in
    let parents = c.args.parents.now in
    let kept = c.args.kept.now in
    let e = c.index-first-at.result in
    let d = c.in_ok-struct_of.field-0 in
    let z : 0 + length (named (take l.at es)) ≡ l.at = (let t = take_length es l.at (under l.at (length es) c.loop-at-test.true) in omega (arith, t)) in
    let has : Has kept (root parents (0 + length (named (take l.at es)))) d.members = subst (λ (k : ℕ). Has kept k d.members) (c.least.ensures.root ∙ ap (root parents) (sym z)) c.in_ok-struct_of.ensures.1 in
    subst (λ (ds : List StructDef). AreDefs parents kept 0 (named (take (l.at + 1) es)) ds) (sym c.in_ok-push.ensures.ok)
    (subst (λ (ns : Names). AreDefs parents kept 0 ns (l.structs ++ d ∷ [])) (sym (named_take es l.at e c.loop-at-test.true c.index-first-at.is))
    (defs_more parents kept 0 (named (take l.at es)) l.structs e.name d l.invariant c.in_ok-struct_of.ensures.0 has))
  where
    under : (k n : ℕ) → k < n → k ≤ n
    under k n h = omega (arith, h)
