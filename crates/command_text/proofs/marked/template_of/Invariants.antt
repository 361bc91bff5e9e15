use Rattle.std.proofs.Common.{◌≡◌, ◌++◌, drop, length}
use denote.Text.{Utf8}
use denote.Shadow.{shadow}
use Rattle.wdl_base.specs.Templates.{template_of}
use Rattle.command_text.specs.Marks.{zeros}
use Rattle.command_text.proofs.marked.template_of.Given as goal

abbrev pub invariant-loop-hole : goal.invariant-loop-hole
invariant-loop-hole l = record {
  text : shadow (Utf8 l.rest);
  counted : zeros l.rest ≡ length (drop l.hole-index l.holes);
  parts : l.parts ++ template_of l.rest (drop l.hole-index l.holes) ≡ template_of l.text l.holes;
}
