use Rattle.std.proofs.Common.{◌≡◌, ◌++◌, drop, length, string_bytes}
use Rattle.wdl_base.specs.Templates.{holes, marked}
use Rattle.command_text.specs.Marks.{zeros}
use Rattle.command_text.proofs.marked.Marked.new.Given as goal

abbrev pub invariant-loop-part : goal.invariant-loop-part
invariant-loop-part l = record {
  text : string_bytes l.all.text ++ marked (drop l.part-index l.parts) ≡ marked l.parts;
  holes : l.all.holes.items ++ holes (drop l.part-index l.parts) ≡ holes l.parts;
  counted : zeros (string_bytes l.all.text) ≡ length l.all.holes.items;
}
