-- How a process is written as JSON (CWL v1.2, CommandLineTool and Workflow, in this profile): the members of each object
-- in byte order.
use Rattle.std.specs.Prelude.{ℕ, Bool, true, false, List, ◌∷◌, ◌++◌, map, Option, Some, None, codes}
use Rattle.serde_json.specs.Data.{unsigned, Data, number, string, array, object, no_items, item, Members, no_members, member}
use Rattle.serde_json.specs.View.{items_of}
use Rattle.wdl_value.specs.declared.value.Value.{Value}
use Rattle.json_values.specs.Writing.{json_of}
use Rattle.cwl_model.specs.declared.process.CwlStep.{CwlStep}
use Rattle.cwl_model.specs.declared.process.FlowOut.{FlowOut}
use Rattle.cwl_model.specs.declared.process.Link.{Link}
use Rattle.cwl_model.specs.declared.process.Link.TheVariants as link
use Rattle.cwl_model.specs.declared.process.Mode.{Mode}
use Rattle.cwl_model.specs.declared.process.Mode.TheVariants as mode
use Rattle.cwl_model.specs.declared.process.Process.{Process, Process-F, fold-Process}
use Rattle.cwl_model.specs.declared.process.Process.TheOpen as process
use Rattle.cwl_model.specs.declared.process.Wire.{Wire}
use Rattle.cwl_model.specs.declared.tool.CwlIn.{CwlIn}
use Rattle.cwl_model.specs.declared.tool.Origin.{Origin}
use Rattle.cwl_model.specs.declared.tool.Origin.TheVariants as origin
use Rattle.cwl_model.specs.declared.tool.Piece.{Piece}
use Rattle.cwl_model.specs.declared.tool.Tool.{Tool}
use Rattle.cwl_model.specs.declared.tool.ToolOut.{ToolOut}
use Rattle.cwl_model.specs.declared.ty.CwlTy.{CwlTy, CwlTy-F, fold-CwlTy}
use Rattle.cwl_model.specs.declared.ty.CwlTy.TheOpen as type
use Rattle.cwl_model.specs.Fields.{field_text}

abbrev pub list : {A : Type 0} → (A → Data) → List A → Data
list f xs = array (items_of (map f xs))

-- ---- types and inputs

abbrev pub list_type : Data → Data
list_type d = object (member (codes "items") d (member (codes "type") (string (codes "array")) no_members))

abbrev pub null_type : Data → Data
null_type d = array (item (string (codes "null")) (item d no_items))

abbrev pub type_step : CwlTy-F Data → Data
type_step type.Bool = string (codes "boolean")
type_step type.Long = string (codes "long")
type_step type.Str = string (codes "string")
type_step type.File = string (codes "File")
type_step (type.List d) = list_type d
type_step (type.Null d) = null_type d

abbrev pub type_json : CwlTy → Data
type_json = fold-CwlTy Data type_step

abbrev pub with_default : Option Value → Members → Members
with_default None ms = ms
with_default (Some x) ms = member (codes "default") (json_of x) ms

abbrev pub input_json : CwlIn → Data
input_json i = object (with_default i.preset (member (codes "id") (string i.id) (member (codes "type") (type_json i.ty) no_members)))

-- ---- tools

abbrev pub glob_json : List ℕ → Data
glob_json name = object (member (codes "glob") (string name) no_members)

abbrev pub origin_members : Origin → Members
origin_members origin.Stdout = member (codes "type") (string (codes "stdout")) no_members
origin_members (origin.Glob name) =
    member (codes "outputBinding") (glob_json name) (member (codes "type") (string (codes "File")) no_members)

abbrev pub tool_out_json : ToolOut → Data
tool_out_json o = object (member (codes "id") (string o.id) (origin_members o.origin))

abbrev pub code_json : ℕ → Data
code_json n = number (unsigned n)

abbrev pub code_members : Option (List ℕ) → Members
code_members None = no_members
code_members (Some ns) = member (codes "successCodes") (list code_json ns) no_members

abbrev pub with_version : Bool → Members → Members
with_version true ms = member (codes "cwlVersion") (string (codes "v1.2")) ms
with_version false ms = ms

abbrev pub argument_json : List Piece → Data
argument_json ps = array (item (string (field_text ps)) no_items)

abbrev pub command_json : Data
command_json = array (item (string (codes "sh")) (item (string (codes "-c")) no_items))

abbrev pub tool_json : Bool → Tool → Data
tool_json outermost t =
    object
    (member (codes "arguments") (argument_json t.argument)
    (member (codes "baseCommand") command_json
    (member (codes "class") (string (codes "CommandLineTool"))
    (with_version outermost
    (member (codes "inputs") (list input_json t.inputs)
    (member (codes "outputs") (list tool_out_json t.outputs)
    (member (codes "stdout") (string (codes "_stdout"))
    (code_members t.codes))))))))

-- ---- workflows

abbrev pub link_text : Link → List ℕ
link_text (link.Input id) = id
link_text (link.Out step out) = step ++ 47 ∷ out

abbrev pub link_json : Link → Data
link_json l = string (link_text l)

abbrev pub flow_out_json : FlowOut → Data
flow_out_json o = object (member (codes "id") (string o.id) (member (codes "outputSource") (link_json o.source) (member (codes "type") (type_json o.ty) no_members)))

abbrev pub wire_json : Wire → Data
wire_json w = object (member (codes "id") (string w.id) (member (codes "source") (link_json w.source) no_members))

abbrev pub mode_members : Mode → Members
mode_members mode.Plain = no_members
mode_members (mode.Scatter id) = member (codes "scatter") (string id) no_members
mode_members mode.When = member (codes "when") (string (codes "$(inputs._when)")) no_members

-- a step, with its process as JSON
abbrev pub step_json : {P : Type 0} → CwlStep P → Data → Data
step_json s run =
    object
    (member (codes "id") (string s.id)
    (member (codes "in") (list wire_json s.wires)
    (member (codes "out") (list string s.outs)
    (member (codes "run") run (mode_members s.mode)))))

abbrev pub class_json : List ℕ → Data
class_json word = object (member (codes "class") (string word) no_members)

abbrev pub requirements_json : Data
requirements_json = array (item (class_json (codes "ScatterFeatureRequirement")) (item (class_json (codes "SubworkflowFeatureRequirement")) no_items))

-- a workflow, with its steps as JSON
abbrev pub flow_json : Bool → List CwlIn → List FlowOut → Data → Data
flow_json outermost inputs outputs steps =
    object
    (member (codes "class") (string (codes "Workflow"))
    (with_version outermost
    (member (codes "inputs") (list input_json inputs)
    (member (codes "outputs") (list flow_out_json outputs)
    (member (codes "requirements") requirements_json
    (member (codes "steps") steps no_members))))))

-- ---- processes, as the outermost one or as that of a step

abbrev pub step_written : CwlStep (Bool → Data) → Data
step_written s = step_json s (s.run false)

abbrev pub process_step : Process-F (Bool → Data) → Bool → Data
process_step (process.Tool t) outermost = tool_json outermost t
process_step (process.Flow f) outermost = flow_json outermost f.inputs f.outputs (list step_written f.steps)

abbrev pub process_json : Process → Bool → Data
process_json = fold-Process (Bool → Data) process_step

-- the same step, whose process is what is written for it
abbrev pub with_json : CwlStep Process → CwlStep (Bool → Data)
with_json s = record { id = s.id; wires = s.wires; outs = s.outs; run = process_json s.run; mode = s.mode }

abbrev pub steps_json : List (CwlStep Process) → Data
steps_json ss = list step_written (map with_json ss)
