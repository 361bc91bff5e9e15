-- The process that a JSON value stands for (CWL v1.2, CommandLineTool and Workflow, in this profile). Each object has
-- the members that are named here and no others; the members of JSON values are in byte order.
use Rattle.std.specs.Prelude.{ℕ, ℤ, pos, negsuc, ◌==◌, Bool, true, false, ◌&&◌, ◌||◌, List, [], ◌∷◌, nat_lt, Option, Some, None, option_map, option_and_then, if◌then◌else◌, codes}
use Rattle.std.specs.Str.{bytes_eq}
use Rattle.serde_json.specs.Data.{Num, unsigned, negative, float, Data, null, boolean, number, string, array, object, Items, no_items, item, Members, no_members, member}
use Rattle.serde_json.specs.Find.{get_member}
use Rattle.wdl_base.specs.Plain.{has_nul}
use Rattle.wdl_value.specs.declared.value.Value.{Value}
use Rattle.wdl_value.specs.declared.value.Value.TheVariants as v
use Rattle.wdl_value.specs.Fits.{is_int}
use Rattle.cwl_model.specs.declared.process.CwlFlow.{CwlFlow}
use Rattle.cwl_model.specs.declared.process.CwlStep.{CwlStep}
use Rattle.cwl_model.specs.declared.process.FlowOut.{FlowOut}
use Rattle.cwl_model.specs.declared.process.Link.{Link}
use Rattle.cwl_model.specs.declared.process.Link.TheVariants as link
use Rattle.cwl_model.specs.declared.process.Mode.{Mode}
use Rattle.cwl_model.specs.declared.process.Mode.TheVariants as mode
use Rattle.cwl_model.specs.declared.process.Process.{Process}
use Rattle.cwl_model.specs.declared.process.Process.TheVariants as process
use Rattle.cwl_model.specs.declared.process.Wire.{Wire}
use Rattle.cwl_model.specs.declared.tool.CwlIn.{CwlIn}
use Rattle.cwl_model.specs.declared.tool.Origin.{Origin}
use Rattle.cwl_model.specs.declared.tool.Origin.TheVariants as origin
use Rattle.cwl_model.specs.declared.tool.Piece.{Piece}
use Rattle.cwl_model.specs.declared.tool.Tool.{Tool}
use Rattle.cwl_model.specs.declared.tool.ToolOut.{ToolOut}
use Rattle.cwl_model.specs.declared.ty.CwlTy.{CwlTy}
use Rattle.cwl_model.specs.declared.ty.CwlTy.TheVariants as ty
use Rattle.cwl_model.specs.Fields.{pieces_in}

-- ---- texts, lists and members

-- a text without NUL
abbrev pub plain : List ℕ → Option (List ℕ)
plain s = if has_nul s then None else Some s

abbrev pub text_of : Data → Option (List ℕ)
text_of (string s) = plain s
text_of d = None

abbrev pub is_text : List ℕ → Data → Bool
is_text word (string s) = bytes_eq s word
is_text word d = false

abbrev pub all_of : {A : Type 0} → (Data → Option A) → Items → Option (List A)
all_of f no_items = Some []
all_of f (item d ds) = option_and_then (λ x. option_map (λ xs. x ∷ xs) (all_of f ds)) (f d)

abbrev pub list_of : {A : Type 0} → (Data → Option A) → Data → Option (List A)
list_of f (array ds) = all_of f ds
list_of f d = None

-- these texts in this order
abbrev pub are_texts : List (List ℕ) → Items → Bool
are_texts [] no_items = true
are_texts [] (item d ds) = false
are_texts (w ∷ ws) no_items = false
are_texts (w ∷ ws) (item d ds) = is_text w d && are_texts ws ds

-- the members have these names, and there are no others
abbrev pub has_names : List (List ℕ) → Members → Bool
has_names [] no_members = true
has_names [] (member k d ms) = false
has_names (n ∷ ns) no_members = false
has_names (n ∷ ns) (member k d ms) = bytes_eq k n && has_names ns ms

-- what the member of that name stands for
abbrev pub member_of : {A : Type 0} → List ℕ → (Data → Option A) → Members → Option A
member_of name f ms = option_and_then f (get_member name ms)

abbrev pub found : (Data → Bool) → Option Data → Bool
found test None = false
found test (Some d) = test d

abbrev pub is_member : List ℕ → (Data → Bool) → Members → Bool
is_member name test ms = found test (get_member name ms)

-- a member that may be left out
abbrev pub optional : {A : Type 0} → (Data → Option A) → Option Data → Option (Option A)
optional f None = Some None
optional f (Some d) = option_map Some (f d)

abbrev pub with2 : {A B R : Type 0} → (A → B → R) → Option A → Option B → Option R
with2 f a b = option_and_then (λ x. option_map (f x) b) a

abbrev pub with3 : {A B C R : Type 0} → (A → B → C → R) → Option A → Option B → Option C → Option R
with3 f a b c = option_and_then (λ x. with2 (f x) b c) a

abbrev pub with4 : {A B C D R : Type 0} → (A → B → C → D → R) → Option A → Option B → Option C → Option D → Option R
with4 f a b c d = option_and_then (λ x. with3 (f x) b c d) a

abbrev pub with5 : {A B C D E R : Type 0} → (A → B → C → D → E → R) → Option A → Option B → Option C → Option D → Option E → Option R
with5 f a b c d e = option_and_then (λ x. with4 (f x) b c d e) a

-- ---- types

abbrev pub named_type : List ℕ → Option CwlTy
named_type s =
    if bytes_eq s (codes "boolean") then Some ty.Bool
    else (if bytes_eq s (codes "long") then Some ty.Long
    else (if bytes_eq s (codes "string") then Some ty.Str
    else (if bytes_eq s (codes "File") then Some ty.File else None)))

abbrev pub is_end : Items → Bool
is_end no_items = true
is_end (item d ds) = false

-- `["null", T]` and `{"items": T, "type": "array"}`
abbrev mutual
  pub type_of : Data → Option CwlTy
  type_of null = None
  type_of (boolean b) = None
  type_of (number n) = None
  type_of (string s) = named_type s
  type_of (array ds) = option_map ty.Null (type_or_null ds)
  type_of (object ms) =
      if has_names (codes "items" ∷ codes "type" ∷ []) ms && is_member (codes "type") (is_text (codes "array")) ms
      then option_map ty.List (item_type ms) else None

  pub type_or_null : Items → Option CwlTy
  type_or_null no_items = None
  type_or_null (item d ds) = if is_text (codes "null") d then last_type ds else None

  pub last_type : Items → Option CwlTy
  last_type no_items = None
  last_type (item d ds) = if is_end ds then type_of d else None

  pub item_type : Members → Option CwlTy
  item_type no_members = None
  item_type (member k d ms) = if bytes_eq k (codes "items") then type_of d else item_type ms

-- ---- values of defaults: `null`, Booleans, integers of 64 bits, strings, and arrays of these

abbrev pub int_of : ℤ → Option Value
int_of n = if is_int n then Some (v.Int n) else None

abbrev pub number_of : Num → Option Value
number_of (unsigned n) = int_of (pos n)
number_of (negative (pos n)) = None
number_of (negative (negsuc n)) = int_of (negsuc n)
number_of (float x) = None

abbrev mutual
  pub value_of : Data → Option Value
  value_of null = Some v.Absent
  value_of (boolean b) = Some (v.Bool b)
  value_of (number n) = number_of n
  value_of (string s) = option_map v.Str (plain s)
  value_of (array ds) = option_map v.List (values_of ds)
  value_of (object ms) = None

  pub values_of : Items → Option (List Value)
  values_of no_items = Some []
  values_of (item d ds) = option_and_then (λ x. option_map (λ xs. x ∷ xs) (values_of ds)) (value_of d)

-- ---- inputs: `default` where there is one, `id` and `type`

abbrev pub cwl_in : List ℕ → CwlTy → Option Value → CwlIn
cwl_in id t preset = record { id = id; ty = t; preset = preset }

abbrev pub input_in : Members → Option CwlIn
input_in ms =
    if has_names (codes "id" ∷ codes "type" ∷ []) ms || has_names (codes "default" ∷ codes "id" ∷ codes "type" ∷ []) ms
    then with3 cwl_in (member_of (codes "id") text_of ms) (member_of (codes "type") type_of ms) (optional value_of (get_member (codes "default") ms))
    else None

abbrev pub input_of : Data → Option CwlIn
input_of (object ms) = input_in ms
input_of d = None

-- ---- tools

abbrev pub tool_out : List ℕ → Origin → ToolOut
tool_out id o = record { id = id; origin = o }

-- `{"glob": NAME}`
abbrev pub glob_of : Data → Option (List ℕ)
glob_of (object ms) = if has_names (codes "glob" ∷ []) ms then member_of (codes "glob") text_of ms else None
glob_of d = None

-- `id` and `type`, which is `stdout`; or `id`, `outputBinding` and `type`, which is `File`
abbrev pub origin_in : Members → Option Origin
origin_in ms =
    if has_names (codes "id" ∷ codes "type" ∷ []) ms && is_member (codes "type") (is_text (codes "stdout")) ms then Some origin.Stdout
    else (if has_names (codes "id" ∷ codes "outputBinding" ∷ codes "type" ∷ []) ms && is_member (codes "type") (is_text (codes "File")) ms
    then option_map origin.Glob (member_of (codes "outputBinding") glob_of ms) else None)

abbrev pub tool_out_of : Data → Option ToolOut
tool_out_of (object ms) = with2 tool_out (member_of (codes "id") text_of ms) (origin_in ms)
tool_out_of d = None

-- a list of one text, a field
abbrev pub argument_of : Data → Option (List Piece)
argument_of (array (item d no_items)) = option_and_then pieces_in (text_of d)
argument_of d = None

abbrev pub code_of : Data → Option ℕ
code_of (number (unsigned n)) = if nat_lt n 256 then Some n else None
code_of d = None

-- ascending, and each once
abbrev pub are_ascending : List ℕ → Bool
are_ascending [] = true
are_ascending (m ∷ []) = true
are_ascending (m ∷ n ∷ ns) = nat_lt m n && are_ascending (n ∷ ns)

abbrev pub codes_of : Data → Option (List ℕ)
codes_of d = option_and_then (λ ns. if are_ascending ns then Some ns else None) (list_of code_of d)

abbrev pub is_command : Data → Bool
is_command (array ds) = are_texts (codes "sh" ∷ codes "-c" ∷ []) ds
is_command d = false

-- the outermost process has the member `cwlVersion`
abbrev pub is_version : Bool → Members → Bool
is_version true ms = is_member (codes "cwlVersion") (is_text (codes "v1.2")) ms
is_version false ms = true

abbrev pub tool_names : Bool → List (List ℕ) → List (List ℕ)
tool_names true last = codes "arguments" ∷ codes "baseCommand" ∷ codes "class" ∷ codes "cwlVersion" ∷ codes "inputs" ∷ codes "outputs" ∷ codes "stdout" ∷ last
tool_names false last = codes "arguments" ∷ codes "baseCommand" ∷ codes "class" ∷ codes "inputs" ∷ codes "outputs" ∷ codes "stdout" ∷ last

abbrev pub tool : List Piece → List CwlIn → List ToolOut → Option (List ℕ) → Tool
tool argument inputs outputs codes = record { inputs = inputs; outputs = outputs; argument = argument; codes = codes }

abbrev pub is_tool : Bool → Members → Bool
is_tool outermost ms =
    (has_names (tool_names outermost []) ms || has_names (tool_names outermost (codes "successCodes" ∷ [])) ms)
    && is_version outermost ms && is_member (codes "baseCommand") is_command ms && is_member (codes "class") (is_text (codes "CommandLineTool")) ms
    && is_member (codes "stdout") (is_text (codes "_stdout")) ms

abbrev pub tool_in : Bool → Members → Option Tool
tool_in outermost ms =
    if is_tool outermost ms
    then with4 tool (member_of (codes "arguments") argument_of ms) (member_of (codes "inputs") (list_of input_of) ms)
    (member_of (codes "outputs") (list_of tool_out_of) ms) (optional codes_of (get_member (codes "successCodes") ms))
    else None

-- ---- workflows

-- what stands before the first such character, and what stands behind it
abbrev pub cut_at : ℕ → List ℕ → Option (List ℕ × List ℕ)
cut_at c [] = None
cut_at c (d ∷ ds) = if d == c then Some ([], ds) else option_map (λ p. (d ∷ p.0, p.1)) (cut_at c ds)

-- `step/out`, or an input
abbrev pub link_by : List ℕ → Option (List ℕ × List ℕ) → Link
link_by s None = link.Input s
link_by s (Some p) = link.Out p.0 p.1

abbrev pub link_of : Data → Option Link
link_of d = option_map (λ s. link_by s (cut_at 47 s)) (text_of d)

abbrev pub flow_out : List ℕ → Link → CwlTy → FlowOut
flow_out id source t = record { id = id; ty = t; source = source }

abbrev pub flow_out_of : Data → Option FlowOut
flow_out_of (object ms) =
    if has_names (codes "id" ∷ codes "outputSource" ∷ codes "type" ∷ []) ms
    then with3 flow_out (member_of (codes "id") text_of ms) (member_of (codes "outputSource") link_of ms) (member_of (codes "type") type_of ms)
    else None
flow_out_of d = None

abbrev pub wire : List ℕ → Link → Wire
wire id source = record { id = id; source = source }

abbrev pub wire_of : Data → Option Wire
wire_of (object ms) = if has_names (codes "id" ∷ codes "source" ∷ []) ms then with2 wire (member_of (codes "id") text_of ms) (member_of (codes "source") link_of ms) else None
wire_of d = None

abbrev pub step_names : List (List ℕ) → List (List ℕ)
step_names last = codes "id" ∷ codes "in" ∷ codes "out" ∷ codes "run" ∷ last

-- A step has a member `scatter`, or `when`, which asks for the input `_when`, or neither.
abbrev pub mode_in : Members → Option Mode
mode_in ms =
    if has_names (step_names []) ms then Some mode.Plain
    else (if has_names (step_names (codes "scatter" ∷ [])) ms then option_map mode.Scatter (member_of (codes "scatter") text_of ms)
    else (if has_names (step_names (codes "when" ∷ [])) ms && is_member (codes "when") (is_text (codes "$(inputs._when)")) ms then Some mode.When else None))

abbrev pub step : List ℕ → List Wire → List (List ℕ) → Process → Mode → CwlStep Process
step id wires outs run m = record { id = id; wires = wires; outs = outs; run = run; mode = m }

abbrev pub step_in : Members → Option Process → Option (CwlStep Process)
step_in ms run =
    with5 step (member_of (codes "id") text_of ms) (member_of (codes "in") (list_of wire_of) ms) (member_of (codes "out") (list_of text_of) ms) run (mode_in ms)

abbrev pub is_class : List ℕ → Data → Bool
is_class word (object ms) = has_names (codes "class" ∷ []) ms && is_member (codes "class") (is_text word) ms
is_class word d = false

abbrev pub are_classes : List (List ℕ) → Items → Bool
are_classes [] no_items = true
are_classes [] (item d ds) = false
are_classes (w ∷ ws) no_items = false
are_classes (w ∷ ws) (item d ds) = is_class w d && are_classes ws ds

abbrev pub are_requirements : Data → Bool
are_requirements (array ds) = are_classes (codes "ScatterFeatureRequirement" ∷ codes "SubworkflowFeatureRequirement" ∷ []) ds
are_requirements d = false

abbrev pub flow_names : Bool → List (List ℕ)
flow_names true = codes "class" ∷ codes "cwlVersion" ∷ codes "inputs" ∷ codes "outputs" ∷ codes "requirements" ∷ codes "steps" ∷ []
flow_names false = codes "class" ∷ codes "inputs" ∷ codes "outputs" ∷ codes "requirements" ∷ codes "steps" ∷ []

abbrev pub flow : List CwlIn → List FlowOut → List (CwlStep Process) → CwlFlow Process
flow inputs outputs steps = record { inputs = inputs; outputs = outputs; steps = steps }

abbrev pub is_flow : Bool → Members → Bool
is_flow outermost ms =
    has_names (flow_names outermost) ms && is_version outermost ms && is_member (codes "class") (is_text (codes "Workflow")) ms
    && is_member (codes "requirements") are_requirements ms

abbrev pub flow_in : Bool → Members → Option (List (CwlStep Process)) → Option (CwlFlow Process)
flow_in outermost ms steps =
    if is_flow outermost ms
    then with3 flow (member_of (codes "inputs") (list_of input_of) ms) (member_of (codes "outputs") (list_of flow_out_of) ms) steps
    else None

-- ---- processes

abbrev pub tool_or_flow : Option Tool → Option (CwlFlow Process) → Option Process
tool_or_flow None None = None
tool_or_flow None (Some f) = Some (process.Flow f)
tool_or_flow (Some t) f = Some (process.Tool t)

abbrev mutual
  -- the process that a JSON value stands for, as the outermost one or as that of a step
  pub cwl_of : Bool → Data → Option Process
  cwl_of outermost null = None
  cwl_of outermost (boolean b) = None
  cwl_of outermost (number n) = None
  cwl_of outermost (string s) = None
  cwl_of outermost (array ds) = None
  cwl_of outermost (object ms) = tool_or_flow (tool_in outermost ms) (flow_in outermost ms (member_steps ms))

  pub member_steps : Members → Option (List (CwlStep Process))
  member_steps no_members = None
  member_steps (member k d ms) = if bytes_eq k (codes "steps") then steps_of d else member_steps ms

  pub steps_of : Data → Option (List (CwlStep Process))
  steps_of null = None
  steps_of (boolean b) = None
  steps_of (number n) = None
  steps_of (string s) = None
  steps_of (array ds) = all_steps ds
  steps_of (object ms) = None

  pub all_steps : Items → Option (List (CwlStep Process))
  all_steps no_items = Some []
  all_steps (item d ds) = option_and_then (λ s. option_map (λ ss. s ∷ ss) (all_steps ds)) (step_of d)

  pub step_of : Data → Option (CwlStep Process)
  step_of null = None
  step_of (boolean b) = None
  step_of (number n) = None
  step_of (string s) = None
  step_of (array ds) = None
  step_of (object ms) = step_in ms (member_run ms)

  pub member_run : Members → Option Process
  member_run no_members = None
  member_run (member k d ms) = if bytes_eq k (codes "run") then cwl_of false d else member_run ms
