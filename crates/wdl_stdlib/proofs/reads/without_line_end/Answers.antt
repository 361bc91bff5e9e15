use Rattle.std.proofs.Common.{lit<}
use Rattle.std.proofs.lemmas.Str.Pattern.{strip_suffix_char}
use Rattle.wdl_stdlib.proofs.Ends.{cuts_return}
use Rattle.wdl_stdlib.proofs.reads.without_line_end.Goals as goal

pub returns-in-None : goal.returns-in-None
returns-in-None c =
    let s = c.args.text.now in
    let newline = rw c.in-None.is at (strip_suffix_char 10 s _ c.strip_suffix.ensures.cases (lit< tt)) in
    cuts_return s _ newline (strip_suffix_char 13 s _ c.strip_suffix-in-None.ensures.cases (lit< tt))
