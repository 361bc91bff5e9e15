use Rattle.std.proofs.Common.{◌≡◌, ◌∙◌, ℕ, List, Err, ap, arith, rules, length, reverse}
use Rattle.wdl_base.specs.Names.{is_among}
use Rattle.wdl_sources.specs.declared.source.Source.{Source}
use Rattle.wdl_sources.specs.Walks.{paths}
use Rattle.wdl_sources.proofs.TakeLemmas.{too_many, no_source, no_wants, one_more}
use Rattle.wdl_sources.proofs.walk.take.Goals as goal

pub returns-then-len-ge-MAX_DOCUMENTS-clause-outcome :
    goal.returns-then-len-ge-MAX_DOCUMENTS-clause-outcome
returns-then-len-ge-MAX_DOCUMENTS-clause-outcome g c =
    let n = c.len.ensures in
    let most = c.if-len-ge-MAX_DOCUMENTS.true in
    too_many _ c.args.step (length c.args.sources.now) (omega (arith, n, most))

pub returns-in_err-source-clause-outcome : goal.returns-in_err-source-clause-outcome
returns-in_err-source-clause-outcome g c =
    let gone : c.from_residual.result ≡ Err c.in_err-source.field-0.0 = grind arith in
    rw gone (no_source _ _ _ c.args.step c.args.sources.now c.args.sources.now (reverse c.args.waiting.now.items) (reverse c.args.waiting.now.items) _ c.in_err-source.field-0.0 c.len-2.ensures c.in_err-source.ensures.outcome)

pub returns-in_err-source-2-clause-outcome : goal.returns-in_err-source-2-clause-outcome
returns-in_err-source-2-clause-outcome g c =
    let gone : c.from_residual-in_err-source-2.result ≡ Err c.in_err-source-2.field-0.0 = grind arith in
    rw gone (no_wants _ _ _ c.args.step c.args.sources.now c.args.sources.now (reverse c.args.waiting.now.items) (reverse c.args.waiting.now.items) _ c.in_ok-source.source c.in_err-source-2.field-0.0 c.len-2.ensures c.in_ok-source.ensures.outcome c.in_err-source-2.ensures)

pub returns-clause-most : goal.returns-clause-most
returns-clause-most g c =
    let n = c.len.ensures in
    let few = c.if-len-ge-MAX_DOCUMENTS.false in
    one_more c.args.sources.now c.push.new.self c.in_ok-source-2.source (length c.args.sources.now) (search rules) (omega (arith, n, few)) c.in_ok-push.ensures

pub push-requires : goal.push-requires
push-requires g c =
    let read = paths c.args.sources.now in
    ap (λ (s : Source). is_among s.path read) c.in_ok-source-2.ensures.0 ∙ ap (λ (p : List ℕ). is_among p read) c.in_ok-source.ensures.outcome.0 ∙ c.requires
