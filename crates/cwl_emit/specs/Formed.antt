-- Processes that have JSON.
use Rattle.std.specs.Prelude.{◌≡◌, ℕ, ◌==◌, Bool, true, false, not, ◌&&◌, List, [], ◌∷◌, nat_lt, Option, Some, None}
use Rattle.std.specs.List.{list_all}
use Rattle.wdl_base.specs.Plain.{has_nul}
use Rattle.wdl_value.specs.declared.value.Value.{Value, Value-F, fold-Value}
use Rattle.wdl_value.specs.declared.value.Value.TheOpen as layer
use Rattle.wdl_value.specs.Fits.{is_int}
use Rattle.cwl_model.specs.declared.process.CwlStep.{CwlStep}
use Rattle.cwl_model.specs.declared.process.FlowOut.{FlowOut}
use Rattle.cwl_model.specs.declared.process.Link.{Link}
use Rattle.cwl_model.specs.declared.process.Link.TheVariants as link
use Rattle.cwl_model.specs.declared.process.Mode.{Mode}
use Rattle.cwl_model.specs.declared.process.Mode.TheVariants as mode
use Rattle.cwl_model.specs.declared.process.Process.{Process, Process-F, fold-Process}
use Rattle.cwl_model.specs.declared.process.Process.TheOpen as process
use Rattle.cwl_model.specs.declared.process.Wire.{Wire}
use Rattle.cwl_model.specs.declared.tool.CwlIn.{CwlIn}
use Rattle.cwl_model.specs.declared.tool.Origin.{Origin}
use Rattle.cwl_model.specs.declared.tool.Origin.TheVariants as origin
use Rattle.cwl_model.specs.declared.tool.Tool.{Tool}
use Rattle.cwl_model.specs.declared.tool.ToolOut.{ToolOut}
use Rattle.cwl_model.specs.Fields.{are_pieces}
use Rattle.cwl_emit.specs.Reading.{are_ascending, cwl_of}
use Rattle.cwl_emit.specs.Writing.{process_json}

abbrev pub is_plain : List ℕ → Bool
is_plain s = not (has_nul s)

abbrev pub lacks : ℕ → List ℕ → Bool
lacks c [] = true
lacks c (d ∷ ds) = not (d == c) && lacks c ds

-- undefined values, Booleans, integers of 64 bits, strings and arrays of these
abbrev pub value_formed_at : Value-F Bool → Bool
value_formed_at layer.Absent = true
value_formed_at (layer.Bool b) = true
value_formed_at (layer.Int n) = is_int n
value_formed_at (layer.Str s) = is_plain s
value_formed_at (layer.List bs) = list_all (λ b. b) bs
value_formed_at x = false

abbrev pub value_formed : Value → Bool
value_formed = fold-Value Bool value_formed_at

abbrev pub preset_formed : Option Value → Bool
preset_formed None = true
preset_formed (Some x) = value_formed x

abbrev pub input_formed : CwlIn → Bool
input_formed i = is_plain i.id && preset_formed i.preset

abbrev pub origin_formed : Origin → Bool
origin_formed origin.Stdout = true
origin_formed (origin.Glob name) = is_plain name

abbrev pub tool_out_formed : ToolOut → Bool
tool_out_formed o = is_plain o.id && origin_formed o.origin

abbrev pub is_byte : ℕ → Bool
is_byte n = nat_lt n 256

abbrev pub codes_formed : Option (List ℕ) → Bool
codes_formed None = true
codes_formed (Some ns) = list_all is_byte ns && are_ascending ns

abbrev pub tool_formed : Tool → Bool
tool_formed t = are_pieces t.argument && list_all input_formed t.inputs && list_all tool_out_formed t.outputs && codes_formed t.codes

-- the id of an input of the workflow, and that of a step, have no slash
abbrev pub link_formed : Link → Bool
link_formed (link.Input id) = is_plain id && lacks 47 id
link_formed (link.Out step out) = is_plain step && lacks 47 step && is_plain out

abbrev pub flow_out_formed : FlowOut → Bool
flow_out_formed o = is_plain o.id && link_formed o.source

abbrev pub wire_formed : Wire → Bool
wire_formed w = is_plain w.id && link_formed w.source

abbrev pub mode_formed : Mode → Bool
mode_formed mode.Plain = true
mode_formed (mode.Scatter id) = is_plain id
mode_formed mode.When = true

abbrev pub step_formed : CwlStep Bool → Bool
step_formed s = is_plain s.id && list_all wire_formed s.wires && list_all is_plain s.outs && mode_formed s.mode && s.run

abbrev pub process_formed_at : Process-F Bool → Bool
process_formed_at (process.Tool t) = tool_formed t
process_formed_at (process.Flow f) = list_all input_formed f.inputs && list_all flow_out_formed f.outputs && list_all step_formed f.steps

-- Texts hold no NUL, and sources have no further slash; the pieces of arguments are joined; codes are bytes, ascending and
-- distinct; a default is written as JSON that is read back.
abbrev pub is_formed : Process → Bool
is_formed = fold-Process Bool process_formed_at

-- what is written for such a process stands for it
abbrev pub FormedProcessesStand : Type 0
FormedProcessesStand = (outermost : Bool) (p : Process) → is_formed p ≡ true → cwl_of outermost (process_json p outermost) ≡ Some p
