use Rattle.std.proofs.Common.{sym, ap, ◌∙◌, lit<, rules}
use Rattle.std.proofs.lemmas.Str.Pattern.{strip_suffix_char}
use Rattle.wdl_words.specs.Words.{without_slashes}
use Rattle.wdl_words.proofs.Slashes.{none_goes, slash_goes}
use Rattle.wdl_words.proofs.values.without_slashes.Goals as goal

pub loop-front-preserved : goal.loop-front-preserved
loop-front-preserved c =
    let cut = rw c.in-Some.is at (strip_suffix_char 47 c.loop-front.rest.now _ c.strip_suffix.ensures.cases (lit< tt)) in
    (search rules, sym (ap without_slashes cut ∙ slash_goes c.in-Some.front.now) ∙ c.loop-front.invariant.1)

pub returns : goal.returns
returns c =
    let whole = rw c.in_default.is at (strip_suffix_char 47 c.loop-front.rest.now _ c.strip_suffix.ensures.cases (lit< tt)) in
    sym (none_goes c.loop-front.rest.now whole) ∙ c.loop-front.invariant.1
