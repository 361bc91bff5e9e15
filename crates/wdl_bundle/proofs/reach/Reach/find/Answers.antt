use Rattle.std.proofs.Common.{Some, None, option_map, sym, ap, ◌∙◌}
use Rattle.std.specs.Option.{option_copied}
use Rattle.wdl_bundle.specs.Called.{named_in, offer_of, reach_of}
use Rattle.wdl_bundle.proofs.FindLaws.{offer_found, offer_in}
use Rattle.wdl_bundle.proofs.reach.Reach.find.Goals as goal

pub returns-in_err-space-in-Some : goal.returns-in_err-space-in-Some
returns-in_err-space-in-Some c =
    ap (λ o. option_map offer_of (option_copied o)) c.from_residual.ensures
    ∙ sym (ap (named_in (reach_of c.args.self.now) c.args.target.now.first) c.in-Some.is
    ∙ offer_in c.args.self.now.spaces.now c.args.target.now.first.name c.in-Some.member.name.name None c.in_err-space-in-Some.ensures)

pub returns-in_ok-space-in-Some : goal.returns-in_ok-space-in-Some
returns-in_ok-space-in-Some c =
    ap (option_map offer_of) c.find-in-Some.ensures
    ∙ sym (ap (named_in (reach_of c.args.self.now) c.args.target.now.first) c.in-Some.is
    ∙ offer_in c.args.self.now.spaces.now c.args.target.now.first.name c.in-Some.member.name.name (Some c.in_ok-space-in-Some.space.now) c.in_ok-space-in-Some.ensures)

pub returns-in-None : goal.returns-in-None
returns-in-None c =
    ap (option_map offer_of) c.find-in-None.ensures
    ∙ offer_found c.args.self.now.own.now c.args.target.now.first.name
    ∙ sym (ap (named_in (reach_of c.args.self.now) c.args.target.now.first) c.in-None.is)
