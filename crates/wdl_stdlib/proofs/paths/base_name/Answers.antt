use Rattle.std.proofs.Common.{sym, ap, ◌∙◌, lit<, rules}
use Rattle.std.proofs.lemmas.Str.Pattern.{split_parts}
use Rattle.wdl_base.specs.Plain.{has_nul}
use Rattle.wdl_value.specs.Paths.{base_name}
use Rattle.wdl_stdlib.proofs.Bases.{base-after, base-whole, plain-after}
use Rattle.wdl_stdlib.proofs.paths.base_name.Goals as goal

pub loop-before-preserved : goal.loop-before-preserved
loop-before-preserved c =
    let parts = rw c.in-Some.is at (split_parts 47 c.loop-before.rest.now _ c.split_once.ensures.cases (lit< tt)) in
    (search rules, plain-after c.in-Some._before.now c.in-Some.after.now (sym (ap has_nul parts.0) ∙ c.loop-before.invariant.1), sym (ap base_name parts.0 ∙ base-after c.in-Some._before.now c.in-Some.after.now) ∙ c.loop-before.invariant.2)

pub returns-clause-value : goal.returns-clause-value
returns-clause-value c =
    let parts = rw c.in_default.is at (split_parts 47 c.loop-before.rest.now _ c.split_once.ensures.cases (lit< tt)) in
    sym (base-whole c.loop-before.rest.now parts) ∙ c.loop-before.invariant.2
