use Rattle.std.proofs.Common.{◌≡◌, ◌≢◌, arith, subst, ◌+◌, ◌++◌, ◌∷◌, [], List, ℕ, None, Ok, Err, ap, sym, cond, drop, ◌∙◌}
use Rattle.std.specs.BTreeMap.{get_by_text}
use Rattle.std.specs.Str.{bytes_eq}
use Rattle.std.proofs.lemmas.Map.Text.{btree_map_updates_text}
use Rattle.wdl_typed.specs.declared.expr.TExpr.{TExpr}
use Rattle.wdl_typed.specs.declared.expr.TField.{TField}
use Rattle.wdl_check_rules.specs.declared.fault.CheckFault.TheVariants.{NoMemory}
use Rattle.wdl_check_rules.specs.Checked.{Checked, Gives, then_, value_checked, fields_checked}
use Rattle.wdl_check_rules.specs.Members.{given_of, field}
use Rattle.wdl_check_rules.proofs.MemberLaws.{field_passed, field_stopped, given_alike}
use Rattle.wdl_check_rules.proofs.literal_members.member_values.Goals as goal

pub returns-in_err-value : goal.returns-in_err-value
returns-in_err-value c =
    let ms = c.args.members.now in
    let m = c.member-item.result in
    let f = get_by_text c.loop-member.rest in
    let e = c.in_err-value.field-0.0 in
    let whole = fields_checked c.args.span ms (given_of c.args.given) in
    let gone : c.from_residual-in_err-value.result ≡ Err e = grind arith in
    let taken : c.remove.result ≡ f m.name = c.remove.ensures.value ∙ ap f c.as_str.ensures.value in
    let alike = given_alike c.args.span ms (get_by_text c.in_ok-rest.rest) (given_of c.args.given) c.in_ok-rest.ensures in
    let stopped : e ≢ NoMemory → whole ≡ Err e = λ known.
    sym alike
    ∙ field_stopped c.args.span ms c.loop-member.member-index m f e c.loop-member.done (fields_checked c.args.span ms (get_by_text c.in_ok-rest.rest)) c.loop-member-test.true c.member-item.is
    (ap (value_checked c.args.span m.ty) (sym taken) ∙ c.in_err-value.ensures known) c.loop-member.invariant in
    subst (λ (r : Checked (List (TField TExpr))). Gives whole r) (sym gone) stopped

pub loop-member-preserved : goal.loop-member-preserved
loop-member-preserved c =
    let ms = c.args.members.now in
    let m = c.member-item.result in
    let f = get_by_text c.loop-member.rest in
    let e = c.in_ok-value.value in
    let done = c.loop-member.done in
    let i = c.loop-member.member-index in
    let taken : c.remove.result ≡ f m.name = c.remove.ensures.value ∙ ap f c.as_str.ensures.value in
    let value : value_checked c.args.span m.ty (f m.name) ≡ Ok e = ap (value_checked c.args.span m.ty) (sym taken) ∙ c.in_ok-value.ensures in
    let pushed : c.push.new.self ≡ done ++ field m.name e ∷ [] = c.in_ok-push.ensures.ok ∙ ap (λ (n : List ℕ). done ++ field n e ∷ []) c.in_ok-name.ensures in
    ap (λ (z : List (TField TExpr)). then_ (fields_checked c.args.span (drop (i + 1) ms) (get_by_text c.remove.new.self)) (λ fs. Ok (z ++ fs))) pushed
    ∙ field_passed c.args.span ms i m f (get_by_text c.remove.new.self) e done (fields_checked c.args.span ms (get_by_text c.in_ok-rest.rest)) c.loop-member-test.true c.member-item.is value
    (λ q. btree_map_updates_text c.as_str.result.now c.loop-member.rest c.remove.new.self None c.remove.ensures.updates q ∙ ap (λ (bytes : List ℕ). cond (bytes_eq bytes q) None (f q)) c.as_str.ensures.value)
    c.loop-member.invariant
