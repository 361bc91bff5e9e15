use Rattle.wdl_lex.specs.Reading.Chars.{inside}
use Rattle.wdl_lex.proofs.TextLaws.{chars_give}
use Rattle.wdl_lex.proofs.chars.text_token.Goals as goal

pub text_of-requires-clause-utf8 : goal.text_of-requires-clause-utf8
text_of-requires-clause-utf8 c = (chars_give (inside c.args.inside) c.args.z.now c.in_ok-out.out.items c.in_ok-out.len c.in_ok-out.ensures.ok c.requires).0

pub text_of-requires-clause-plain : goal.text_of-requires-clause-plain
text_of-requires-clause-plain c = (chars_give (inside c.args.inside) c.args.z.now c.in_ok-out.out.items c.in_ok-out.len c.in_ok-out.ensures.ok c.requires).1
