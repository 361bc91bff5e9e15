use Rattle.std.proofs.Common.{◌∙◌}
use Rattle.wdl_lex.proofs.Final.{found_by, only_by, cause_by}
use Rattle.wdl_lex.proofs.tokens.lex.Goals as goal

pub returns-in-Ok-clause-found : goal.returns-in-Ok-clause-found
returns-in-Ok-clause-found c =
    found_by c.args.doc c.args.bytes.now c.as_bytes.result.now c.read.result (c.as_bytes.ensures.value ∙ c.in-Ok.ensures.cases.0) c.in-Ok.ensures.cases.1 c.if-bytes-gt-MAX_DOCUMENT.false c.read.ensures

pub returns-in-Ok-clause-only : goal.returns-in-Ok-clause-only
returns-in-Ok-clause-only c = λ ts s w.
    only_by c.args.doc c.args.bytes.now c.as_bytes.result.now ts c.read.result (c.as_bytes.ensures.value ∙ c.in-Ok.ensures.cases.0) s w c.read.ensures

pub returns-in-Ok-clause-cause : goal.returns-in-Ok-clause-cause
returns-in-Ok-clause-cause c =
    cause_by c.args.doc c.args.bytes.now c.as_bytes.result.now c.read.result (c.as_bytes.ensures.value ∙ c.in-Ok.ensures.cases.0) c.read.ensures
