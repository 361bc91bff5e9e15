use Rattle.std.proofs.Common.{◌++◌, ap, sym, ◌∙◌}
use Rattle.std.proofs.lemmas.Iterator.{YieldsList-from_chars}
use Rattle.std.proofs.lemmas.Iterator.Consumers.{YieldsList-end}
use Rattle.std.specs.Str.Iter.{chars_rest}
use Rattle.wdl_base.specs.Plain.{has_nul}
use Rattle.wdl_print.specs.TokenText.{escape, escaped}
use Rattle.wdl_print.proofs.Plain.{escaped_more, escaped_plain}
use Rattle.wdl_print.proofs.escaped.escaped.Goals as goal

pub loop-c-preserved : goal.loop-c-preserved
loop-c-preserved c =
    c.in_ok-push_char.ensures ∙ ap (λ x. x ++ escape c.args.quote c.in-Some.c) c.loop-c.invariant
    ∙ sym (escaped_more c.args.quote c.loop-c.yielded c.in-Some.c)

pub from_string-requires : goal.from_string-requires
from_string-requires c =
    let all = YieldsList-from_chars c.args.chars.now c.utf8.chars (ap chars_rest c.into_iter-c-iterator.ensures.into_iter_gives ∙ c.chars-c-items.ensures.rest) in
    let t = YieldsList-end all c.loop-c.yielded _ c.loop-c.yielded_by _ _ c.in-None.is c.next.ensures.steps in
    ap has_nul (c.loop-c.invariant ∙ ap (escaped c.args.quote) t.0) ∙ escaped_plain c.args.quote c.args.chars.now c.utf8.chars c.requires

pub returns : goal.returns
returns c =
    let all = YieldsList-from_chars c.args.chars.now c.utf8.chars (ap chars_rest c.into_iter-c-iterator.ensures.into_iter_gives ∙ c.chars-c-items.ensures.rest) in
    let t = YieldsList-end all c.loop-c.yielded _ c.loop-c.yielded_by _ _ c.in-None.is c.next.ensures.steps in
    c.from_string.ensures ∙ c.loop-c.invariant ∙ ap (escaped c.args.quote) t.0
