use Rattle.std.proofs.Common.{rules, sym, ◌∙◌, arith}
use Rattle.wdl_bundle.proofs.FreeNames.{ends_here, goes_on, runs_out}
use Rattle.wdl_bundle.proofs.Untaken.{some_is_free}
use Rattle.wdl_bundle.proofs.naming.first_free.Goals as goal

pub loop-n-preserved : goal.loop-n-preserved
loop-n-preserved c = sym (goes_on c.args.taken.now c.args.doc c.args.number c.loop-n.n (search rules) (search rules)) ∙ c.loop-n.invariant

pub returns-then-not-has-clause-name : goal.returns-then-not-has-clause-name
returns-then-not-has-clause-name c =
    c.in_ok-name.ensures ∙ sym (ends_here c.args.taken.now c.args.doc c.args.number c.loop-n.n (search rules) (search rules)) ∙ c.loop-n.invariant

pub unreachable-requires : goal.unreachable-requires
unreachable-requires c =
    some_is_free c.args.taken.now c.args.doc c.args.number (omega arith) c.requires
    (sym c.loop-n.invariant ∙ runs_out c.args.taken.now c.args.doc c.args.number c.loop-n.n (omega arith))
