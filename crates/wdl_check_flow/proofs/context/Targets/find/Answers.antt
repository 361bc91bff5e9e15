use Rattle.std.proofs.Common.{Some, None, option_map, sym, ap, ◌∙◌}
use Rattle.std.specs.Option.{option_copied}
use Rattle.wdl_check_flow.specs.Targets.{named_in, offer_of, reach_of}
use Rattle.wdl_check_flow.proofs.FindLaws.{offer_found, offer_in}
use Rattle.wdl_check_flow.proofs.context.Targets.find.Goals as goal

pub returns-in_err-namespace-in-Some : goal.returns-in_err-namespace-in-Some
returns-in_err-namespace-in-Some c =
    ap (λ o. option_map offer_of (option_copied o)) c.from_residual.ensures
    ∙ sym (ap (named_in (reach_of c.args.self.now) c.args.target.now.first) c.in-Some.is
    ∙ offer_in c.args.self.now.namespaces.now c.args.target.now.first.name c.in-Some.member.name.name None c.in_err-namespace-in-Some.ensures)

pub returns-in_ok-namespace-in-Some : goal.returns-in_ok-namespace-in-Some
returns-in_ok-namespace-in-Some c =
    ap (option_map offer_of) c.find-in-Some.ensures
    ∙ sym (ap (named_in (reach_of c.args.self.now) c.args.target.now.first) c.in-Some.is
    ∙ offer_in c.args.self.now.namespaces.now c.args.target.now.first.name c.in-Some.member.name.name (Some c.in_ok-namespace-in-Some.namespace.now) c.in_ok-namespace-in-Some.ensures)

pub returns-in-None : goal.returns-in-None
returns-in-None c =
    ap (option_map offer_of) c.find-in-None.ensures
    ∙ offer_found c.args.self.now.own.now c.args.target.now.first.name
    ∙ sym (ap (named_in (reach_of c.args.self.now) c.args.target.now.first) c.in-None.is)
