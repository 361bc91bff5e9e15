use Rattle.std.proofs.Common.{◌≡◌, drop, map, string_bytes}
use Rattle.wdl_words.specs.Words.{some_nul}
use Rattle.wdl_words.proofs.reading.some_nul.Given as goal

abbrev pub invariant-loop-word : goal.invariant-loop-word
invariant-loop-word l = some_nul (map string_bytes (drop l.word-index l.words)) ≡ some_nul (map string_bytes l.words)
