-- Processes whose texts hold no NUL.
use Rattle.std.specs.Prelude.{Bool, true, ◌&&◌, List, map, Option, Some, None}
use Rattle.std.specs.List.{list_all}
use Rattle.wdl_value.specs.declared.value.Value.{Value, Value-F, fold-Value}
use Rattle.wdl_value.specs.declared.value.Value.TheOpen as layer
use Rattle.cwl_model.specs.declared.process.CwlStep.{CwlStep}
use Rattle.cwl_model.specs.declared.process.FlowOut.{FlowOut}
use Rattle.cwl_model.specs.declared.process.Link.{Link}
use Rattle.cwl_model.specs.declared.process.Link.TheVariants as link
use Rattle.cwl_model.specs.declared.process.Process.{Process, Process-F, fold-Process}
use Rattle.cwl_model.specs.declared.process.Process.TheOpen as process
use Rattle.cwl_model.specs.declared.process.Wire.{Wire}
use Rattle.cwl_model.specs.declared.tool.CwlIn.{CwlIn}
use Rattle.cwl_model.specs.declared.tool.Piece.{Piece}
use Rattle.cwl_model.specs.declared.tool.Piece.TheVariants as piece
use Rattle.cwl_model.specs.declared.tool.Tool.{Tool}
use Rattle.cwl_emit.specs.Formed.{is_plain, mode_formed, tool_out_formed}

-- the strings of a value that are no names of members or files
abbrev pub value_plain_at : Value-F Bool → Bool
value_plain_at (layer.Str s) = is_plain s
value_plain_at (layer.List bs) = list_all (λ b. b) bs
value_plain_at x = true

abbrev pub value_plain : Value → Bool
value_plain = fold-Value Bool value_plain_at

abbrev pub values_plain : List Value → Bool
values_plain xs = list_all (λ b. b) (map value_plain xs)

abbrev pub preset_plain : Option Value → Bool
preset_plain None = true
preset_plain (Some x) = value_plain x

abbrev pub input_plain : CwlIn → Bool
input_plain i = is_plain i.id && preset_plain i.preset

-- (the names of references are NAMEs)
abbrev pub piece_plain : Piece → Bool
piece_plain (piece.Chars s) = is_plain s
piece_plain (piece.Input name) = true
piece_plain (piece.InputPath name) = true

abbrev pub tool_plain : Tool → Bool
tool_plain t = list_all piece_plain t.argument && list_all input_plain t.inputs && list_all tool_out_formed t.outputs

abbrev pub link_plain : Link → Bool
link_plain (link.Input id) = is_plain id
link_plain (link.Out step out) = is_plain step && is_plain out

abbrev pub flow_out_plain : FlowOut → Bool
flow_out_plain o = is_plain o.id && link_plain o.source

abbrev pub wire_plain : Wire → Bool
wire_plain w = is_plain w.id && link_plain w.source

abbrev pub step_plain : CwlStep Bool → Bool
step_plain s = is_plain s.id && list_all wire_plain s.wires && list_all is_plain s.outs && mode_formed s.mode && s.run

abbrev pub process_plain_at : Process-F Bool → Bool
process_plain_at (process.Tool t) = tool_plain t
process_plain_at (process.Flow f) = list_all input_plain f.inputs && list_all flow_out_plain f.outputs && list_all step_plain f.steps

-- No text of the process holds a NUL.
abbrev pub texts_are_plain : Process → Bool
texts_are_plain = fold-Process Bool process_plain_at

abbrev pub plain_step : CwlStep Process → CwlStep Bool
plain_step s = record { id = s.id; wires = s.wires; outs = s.outs; run = texts_are_plain s.run; mode = s.mode }

abbrev pub steps_plain : List (CwlStep Process) → Bool
steps_plain ss = list_all step_plain (map plain_step ss)

-- the same of a step, but for what it runs
abbrev pub ends_plain : CwlStep Process → Bool
ends_plain s = is_plain s.id && list_all wire_plain s.wires && list_all is_plain s.outs && mode_formed s.mode
