use Rattle.std.proofs.Common.{◌≡◌, ◌++◌, drop, map}
use Rattle.wdl_check_flow.specs.Sections.{first_taken, taken, words_of}
use Rattle.wdl_check_flow.proofs.declared.taken_among.Given as goal

abbrev pub invariant-loop-ident : goal.invariant-loop-ident
invariant-loop-ident l = l.words ++ words_of (map (λ n. n.now) (drop l.ident-index l.idents)) ≡ words_of (map (λ n. n.now) l.idents)

abbrev pub invariant-loop-statement : goal.invariant-loop-statement
invariant-loop-statement l = record {
  taken : first_taken (map taken (map (λ s. s.now) (drop l.statement-index l.statements))) l.initial.words
      ≡ first_taken (map taken (map (λ s. s.now) l.statements)) l.initial.words;
  words : l.words ≡ l.initial.words;
}
