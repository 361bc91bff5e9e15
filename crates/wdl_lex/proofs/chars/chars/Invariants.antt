use Rattle.std.proofs.Common.{◌≡◌, [], drop}
use Rattle.wdl_lex.specs.Reading.Chars.{inside, chars_from}
use Rattle.wdl_lex.proofs.chars.chars.Given as goal

abbrev pub invariant-loop-at : goal.invariant-loop-at
invariant-loop-at l = chars_from (inside l.inside) 0 [] 0 l.z ≡ chars_from (inside l.inside) l.skip l.out.items l.at (drop l.at l.z)
