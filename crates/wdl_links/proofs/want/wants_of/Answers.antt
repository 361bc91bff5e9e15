use Rattle.std.proofs.Common.{◌++◌, ◌+◌, sym, ap, ◌∙◌, drop, Ok}
use Rattle.wdl_library.specs.Sections.{imports_in}
use Rattle.wdl_links.specs.Wants.{and_then, wants_of}
use Rattle.wdl_links.proofs.WantLemmas.{one_more, next_section}
use Rattle.wdl_links.proofs.want.wants_of.Goals as goal

pub loop-section-preserved : goal.loop-section-preserved
loop-section-preserved c =
    let l = c.loop-section in
    let i = c.in-Import.import in
    let base = c.args.base.now in
    let rest = imports_in (drop (l.section-index + 1) c.args.sections.now) in
    let w = c.in_ok-want_of.field-0 in
    ap (λ z. and_then (wants_of base c.want_of.new.taken rest) (λ r. Ok (z ++ r))) c.in_ok-push.ensures.ok
    ∙ one_more base l.taken c.want_of.new.taken i rest l.wants w _ c.in_ok-want_of.ensures.0 c.in_ok-want_of.ensures.1
    (ap (λ (is : _). and_then (wants_of base l.taken is) (λ r. Ok (l.wants ++ r)))
    (sym (next_section c.args.sections.now l.section-index c.section-item.result i c.loop-section-test.true c.section-item.is c.in-Import.is))
    ∙ l.invariant)
