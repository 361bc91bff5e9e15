use Rattle.std.proofs.Common.{List, inl, inr, refl, subst, rules}
use Rattle.wdl_ast.specs.declared.token.Token.{Token}
use Rattle.wdl_ast.specs.declared.document.Document.{Document}
use Rattle.wdl_lex.proofs.Final.{one_list}
use Rattle.wdl_parse_doc.specs.Contract.{Written, RefusesDocument}
use Rattle.wdl_sources.specs.Reading.{IsRead}
use Rattle.wdl_sources.proofs.source.document_of.Goals as goal

pub returns-in-Err-Bad-parse : goal.returns-in-Err-Bad-parse
returns-in-Err-Bad-parse c =
    let code = c.in-Err-Bad-parse.code in
    let span = c.in-Err-Bad-parse.span in
    let refused : RefusesDocument c.as_slice.result.now code span = search rules in
    let none : RefusesDocument c.in-Ok.tokens code span = subst (λ ts. RefusesDocument ts code span) c.as_slice.ensures refused in (
      inr (record {
        tokens = c.in-Ok.tokens;
        spelled = c.in-Ok.ensures.found.0;
        within = c.in-Ok.ensures.found.1;
        at = span;
        refused = none;
        placed = refl;
      }),
      λ (d : Document) (r : IsRead c.args.number c.args.bytes.now d). none.0 d (subst (λ (ts : List Token). Written ts d)
          (one_list c.args.number c.args.bytes.now r.tokens c.in-Ok.tokens r.spelled c.in-Ok.ensures.found.0) r.written),
    )

pub returns-in-Err-Bad : goal.returns-in-Err-Bad
returns-in-Err-Bad c =
    let cause = rw c.in-Err-Bad.field-0-is at c.in-Err-Bad.ensures.cause in
    let only = rw c.in-Err-Bad.field-0-is at c.in-Err-Bad.ensures.only in
    rw c.in-Err-Bad.field-0-is (inl cause, λ (d : Document) (r : IsRead c.args.number c.args.bytes.now d). only r.tokens r.spelled r.within)
