use Rattle.std.proofs.Common.{◌≡◌, ◌-◌, ◌≤◌, true, drop, length}
use Rattle.std.specs.Str.{IsUtf8}
use Rattle.wdl_lex.specs.Reading.{lex, lex_from, with_front}
use Rattle.wdl_lex.proofs.tokens.read.Given as goal

abbrev pub invariant-loop-turn : goal.invariant-loop-turn
invariant-loop-turn l = record {
  so_far : lex true l.doc l.z ≡ with_front l.tokens (lex_from true l.doc (l._turn-end - l._turn) l.at l.awaits l.opened (drop l.at l.z));
  within : l.at ≤ length l.z;
  utf8 : IsUtf8 (drop l.at l.z);
}
