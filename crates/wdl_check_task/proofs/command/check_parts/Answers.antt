use Rattle.std.proofs.Common.{rules, arith, ◌≡◌, ◌+◌, ◌++◌, ◌<◌, ◌≤◌, List, [], ◌∷◌, Err, Result, drop, length, map, subst, sym}
use Rattle.std.proofs.lemmas.List.{drop_all}
use Rattle.wdl_base.specs.declared.template.Part.{Part}
use Rattle.wdl_typed.specs.declared.expr.TExpr.{TExpr}
use Rattle.wdl_typed.specs.declared.expr.TPart.{TPart}
use Rattle.wdl_check_rules.specs.declared.fault.CheckFault.{CheckFault}
use Rattle.wdl_check_types.specs.Outcome.{Answers}
use Rattle.wdl_check_decls.specs.Expressions.{world}
use Rattle.wdl_check_decls.proofs.ListLaws.{Leads, leads_done, leads_err, leads_on}
use Rattle.wdl_check_task.specs.Command.{part_typed, parts_behind}
use Rattle.wdl_check_task.proofs.command.check_parts.Goals as goal
use Rattle.wdl_check_rules.proofs.MemberLaws.{at_front as left}

pub returns-in_err-check_part : goal.returns-in_err-check_part
returns-in_err-check_part c =
    let w = world c.args.seeing.now in
    let names = c.args.names.now in
    let ps = map (λ p. p.now) c.args.parts.now in
    let xs = c.args.template.now in
    let i = c.loop-part.part-index in
    let t = c.part-item.result in
    let e = c.in_err-check_part.field-0.0 in
    let whole = parts_behind w names ps [] xs in
    let within : i < length xs = search rules in
    let gone : c.from_residual.result ≡ Err e = grind arith in
    subst (λ (r : Result (List (TPart TExpr)) CheckFault). Answers whole r) (sym gone)
    (leads_err (part_typed w names ps t) (λ q. parts_behind w names ps (c.loop-part.command ++ q ∷ []) (drop (i + 1) xs)) whole e c.in_err-check_part.ensures
    (subst (λ (ts : List Part). Leads (parts_behind w names ps c.loop-part.command ts) whole) (left xs i t within c.part-item.is) c.loop-part.invariant))

pub loop-part-preserved : goal.loop-part-preserved
loop-part-preserved c =
    let w = world c.args.seeing.now in
    let names = c.args.names.now in
    let ps = map (λ p. p.now) c.args.parts.now in
    let xs = c.args.template.now in
    let i = c.loop-part.part-index in
    let t = c.part-item.result in
    let whole = parts_behind w names ps [] xs in
    let within : i < length xs = search rules in
    subst (λ (qs : List (TPart TExpr)). Leads (parts_behind w names ps qs (drop (i + 1) xs)) whole) (sym c.in_ok-push.ensures.ok)
    (leads_on (part_typed w names ps t) (λ q. parts_behind w names ps (c.loop-part.command ++ q ∷ []) (drop (i + 1) xs)) whole
    c.in_ok-check_part.field-0 c.in_ok-check_part.ensures
    (subst (λ (ts : List Part). Leads (parts_behind w names ps c.loop-part.command ts) whole) (left xs i t within c.part-item.is) c.loop-part.invariant))

pub returns : goal.returns
returns c =
    let w = world c.args.seeing.now in
    let names = c.args.names.now in
    let ps = map (λ p. p.now) c.args.parts.now in
    let xs = c.args.template.now in
    let i = c.loop-part.part-index in
    let whole = parts_behind w names ps [] xs in
    let past : length xs ≤ i = search rules in
    leads_done c.loop-part.command whole
    (subst (λ (ts : List Part). Leads (parts_behind w names ps c.loop-part.command ts) whole) (drop_all i xs past) c.loop-part.invariant)
