-- What is written for a process that is formed stands for it.
use Rattle.std.proofs.Common.{◌≡◌, ℕ, ℤ, pos, negsuc, Bool, true, false, not, cond, ◌==◌, ◌&&◌, ◌||◌, List, [], ◌∷◌, ◌++◌, map, Option, Some, None, option_map, option_and_then, refl, sym, ap, ◌∙◌, subst}
use Rattle.std.proofs.lemmas.Bool.{false≢true, and_parts, or_parts, not-true}
use Rattle.std.specs.List.{list_all}
use Rattle.std.specs.Option.{is_some}
use Rattle.serde_json.specs.Data.{Data, string, array, object, Items, Members, no_members}
use Rattle.serde_json.specs.Find.{of_integer}
use Rattle.serde_json.specs.View.{items_of}
use Rattle.wdl_base.specs.Plain.{has_nul}
use Rattle.wdl_base.proofs.PlainLemmas.{has_nul-append}
use Rattle.wdl_value.specs.declared.value.Value.{Value, Value-F, map-Value, roll-Value, ind-Value, fold-roll-Value}
use Rattle.wdl_value.specs.declared.value.Value.TheVariants as v
use Rattle.wdl_value.specs.declared.value.Value.TheOpen as value
use Rattle.wdl_value.specs.Fits.{is_int}
use Rattle.wdl_value.proofs.ValueLayers.{Known, plain, firsts}
use Rattle.json_values.specs.Writing.{Written, written, written_step, data_at, json_of, all_items}
use Rattle.cwl_model.specs.declared.process.CwlStep.{CwlStep}
use Rattle.cwl_model.specs.declared.process.FlowOut.{FlowOut}
use Rattle.cwl_model.specs.declared.process.Link.{Link}
use Rattle.cwl_model.specs.declared.process.Link.TheVariants as link
use Rattle.cwl_model.specs.declared.process.Mode.{Mode}
use Rattle.cwl_model.specs.declared.process.Mode.TheVariants as mode
use Rattle.cwl_model.specs.declared.process.Process.{Process, Process-F, map-Process, roll-Process, ind-Process, fold-roll-Process}
use Rattle.cwl_model.specs.declared.process.Process.TheVariants as process
use Rattle.cwl_model.specs.declared.process.Process.TheOpen as layer
use Rattle.cwl_model.specs.declared.process.Wire.{Wire}
use Rattle.cwl_model.specs.declared.tool.CwlIn.{CwlIn}
use Rattle.cwl_model.specs.declared.tool.Origin.{Origin}
use Rattle.cwl_model.specs.declared.tool.Origin.TheVariants as origin
use Rattle.cwl_model.specs.declared.tool.Piece.{Piece}
use Rattle.cwl_model.specs.declared.tool.Tool.{Tool}
use Rattle.cwl_model.specs.declared.tool.ToolOut.{ToolOut}
use Rattle.cwl_model.specs.declared.ty.CwlTy.{CwlTy, CwlTy-F, map-CwlTy, roll-CwlTy, ind-CwlTy, fold-roll-CwlTy}
use Rattle.cwl_model.specs.declared.ty.CwlTy.TheVariants as ty
use Rattle.cwl_model.specs.declared.ty.CwlTy.TheOpen as type
use Rattle.cwl_model.specs.Fields.{is_refused, begins_with, opens, is_stray, is_plain_field, reference_at, are_pieces, field_text, pieces_in}
use Rattle.cwl_model.proofs.Fields.{fields_read}
use Rattle.cwl_emit.specs.Reading.{text_of, all_of, list_of, with2, with3, with4, with5, type_of, number_of, value_of, values_of, cwl_in, input_of, tool_out, tool_out_of, argument_of, code_of, are_ascending, codes_of, tool, tool_in, cut_at, link_by, link_of, flow_out, flow_out_of, wire, wire_of, step, flow, flow_in, tool_or_flow, cwl_of, member_steps, all_steps, step_of}
use Rattle.cwl_emit.specs.Writing.{list, type_step, type_json, input_json, tool_out_json, code_json, argument_json, tool_json, link_json, flow_out_json, wire_json, step_json, flow_json, process_step, process_json}
use Rattle.cwl_emit.specs.Formed.{FormedProcessesStand, is_plain, lacks, value_formed_at, value_formed, preset_formed, input_formed, origin_formed, tool_out_formed, is_byte, codes_formed, tool_formed, link_formed, flow_out_formed, wire_formed, mode_formed, step_formed, process_formed_at, is_formed}

-- ---- parts that are found

pub two_are : {A B R : Type 0} (f : A → B → R) (a : Option A) (b : Option B) (x : A) (y : B) → a ≡ Some x → b ≡ Some y → with2 f a b ≡ Some (f x y)
two_are f a b x y d e = ap (λ o. with2 f o b) d ∙ ap (option_map (f x)) e

pub three_are : {A B C R : Type 0} (f : A → B → C → R) (a : Option A) (b : Option B) (c : Option C) (x : A) (y : B) (z : C) → a ≡ Some x → b ≡ Some y → c ≡ Some z → with3 f a b c ≡ Some (f x y z)
three_are f a b c x y z d e g = ap (λ o. with3 f o b c) d ∙ two_are (f x) b c y z e g

four_are : {A B C D R : Type 0} (f : A → B → C → D → R) (a : Option A) (b : Option B) (c : Option C) (d : Option D) (x : A) (y : B) (z : C) (w : D) → a ≡ Some x → b ≡ Some y → c ≡ Some z → d ≡ Some w → with4 f a b c d ≡ Some (f x y z w)
four_are f a b c d x y z w e g h i = ap (λ o. with4 f o b c d) e ∙ three_are (f x) b c d y z w g h i

five_are : {A B C D E R : Type 0} (f : A → B → C → D → E → R) (a : Option A) (b : Option B) (c : Option C) (d : Option D) (e : Option E) (x : A) (y : B) (z : C) (w : D) (u : E)
    → a ≡ Some x → b ≡ Some y → c ≡ Some z → d ≡ Some w → e ≡ Some u → with5 f a b c d e ≡ Some (f x y z w u)
five_are f a b c d e x y z w u g h i j k = ap (λ o. with5 f o b c d e) g ∙ four_are (f x) b c d e y z w u h i j k

pub all_back : {A : Type 0} (f : Data → Option A) (w : A → Data) (test : A → Bool) → ((x : A) → test x ≡ true → f (w x) ≡ Some x) → (xs : List A) → list_all test xs ≡ true → list_of f (list w xs) ≡ Some xs
all_back f w test each [] h = refl
all_back f w test each (x ∷ xs) h =
    let p = and_parts (test x) (list_all test xs) h in
    ap (option_and_then (λ y. option_map (λ ys. y ∷ ys) (all_of f (items_of (map w xs))))) (each x p.0) ∙ ap (option_map (λ ys. x ∷ ys)) (all_back f w test each xs p.1)

pub text_back : (s : List ℕ) → is_plain s ≡ true → text_of (string s) ≡ Some s
text_back s h = ap (λ b. cond b None (Some s)) (not-true (has_nul s) h)

-- ---- types

abbrev TypeBack : CwlTy → Type 0
TypeBack t = type_of (type_json t) ≡ Some t

abbrev TypeChild : Type 0
TypeChild = (t : CwlTy) × TypeBack t

abbrev plain_type : CwlTy-F TypeChild → CwlTy-F CwlTy
plain_type = map-CwlTy TypeChild CwlTy (λ (k : TypeChild). k.0)

type_layer : (y : CwlTy-F TypeChild) → type_of (type_step (map-CwlTy CwlTy Data type_json (plain_type y))) ≡ Some (roll-CwlTy (plain_type y))
type_layer type.Bool = ap Some (sym ty.rolls-Bool)
type_layer type.Long = ap Some (sym ty.rolls-Long)
type_layer type.Str = ap Some (sym ty.rolls-Str)
type_layer type.File = ap Some (sym ty.rolls-File)
type_layer (type.List k) = ap (option_map ty.List) k.1 ∙ ap Some (sym (ty.rolls-List k.0))
type_layer (type.Null k) = ap (option_map ty.Null) k.1 ∙ ap Some (sym (ty.rolls-Null k.0))

type_back : (t : CwlTy) → TypeBack t
type_back = ind-CwlTy TypeBack (λ l y is. subst (λ (z : CwlTy-F CwlTy). TypeBack (roll-CwlTy z)) is (ap type_of (fold-roll-CwlTy Data type_step (plain_type y)) ∙ type_layer y))

-- ---- defaults

abbrev ValueBack : Value → Type 0
ValueBack x = value_formed x ≡ true → value_of (json_of x) ≡ Some x

pub int_back : (n : ℤ) → is_int n ≡ true → number_of (of_integer n) ≡ Some (v.Int n)
int_back (pos n) h = ap (λ b. cond b (Some (v.Int (pos n))) None) h
int_back (negsuc n) h = ap (λ b. cond b (Some (v.Int (negsuc n))) None) h

values_back : (ks : List (Known ValueBack)) → list_all (λ b. b) (map value_formed (firsts ValueBack ks)) ≡ true → values_of (all_items (map written (firsts ValueBack ks))) ≡ Some (firsts ValueBack ks)
values_back [] h = refl
values_back (k ∷ ks) h =
    let p = and_parts (value_formed k.0) (list_all (λ b. b) (map value_formed (firsts ValueBack ks))) h in
    ap (option_and_then (λ x. option_map (λ xs. x ∷ xs) (values_of (all_items (map written (firsts ValueBack ks)))))) (k.1 p.0) ∙ ap (option_map (λ xs. k.0 ∷ xs)) (values_back ks p.1)

value_layer : (y : Value-F (Known ValueBack)) → value_formed_at (map-Value Value Bool value_formed (plain ValueBack y)) ≡ true
    → value_of (data_at (map-Value Value Written written (plain ValueBack y))) ≡ Some (roll-Value (plain ValueBack y))
value_layer value.Absent h = ap Some (sym v.rolls-Absent)
value_layer (value.Bool b) h = ap Some (sym (v.rolls-Bool b))
value_layer (value.Int n) h = int_back n h ∙ ap Some (sym (v.rolls-Int n))
value_layer (value.Str s) h = ap (λ b. option_map v.Str (cond b None (Some s))) (not-true (has_nul s) h) ∙ ap Some (sym (v.rolls-Str s))
value_layer (value.List ks) h = ap (option_map v.List) (values_back ks h) ∙ ap Some (sym (v.rolls-List (firsts ValueBack ks)))
value_layer y h = absurd (false≢true h)

value_back : (x : Value) → ValueBack x
value_back = ind-Value ValueBack (λ l y is. subst (λ (z : Value-F Value). ValueBack (roll-Value z)) is (λ h.
    let p = plain ValueBack y in
    ap (λ (w : Written). value_of w.json) (fold-roll-Value Written written_step p) ∙ value_layer y (sym (fold-roll-Value Bool value_formed_at p) ∙ h)))

-- ---- inputs

input_parts_back : (id : List ℕ) (t : CwlTy) (preset : Option Value) → is_plain id ≡ true → preset_formed preset ≡ true → input_of (input_json (cwl_in id t preset)) ≡ Some (cwl_in id t preset)
input_parts_back id t None h k = three_are cwl_in (text_of (string id)) (type_of (type_json t)) (Some None) id t None (text_back id h) (type_back t) refl
input_parts_back id t (Some x) h k =
    three_are cwl_in (text_of (string id)) (type_of (type_json t)) (option_map Some (value_of (json_of x))) id t (Some x) (text_back id h) (type_back t) (ap (option_map Some) (value_back x k))

pub input_back : (i : CwlIn) → input_formed i ≡ true → input_of (input_json i) ≡ Some i
input_back i h = let p = and_parts (is_plain i.id) (preset_formed i.preset) h in input_parts_back i.id i.ty i.preset p.0 p.1

-- ---- tools

tool_out_parts_back : (id : List ℕ) (o : Origin) → is_plain id ≡ true → origin_formed o ≡ true → tool_out_of (tool_out_json (tool_out id o)) ≡ Some (tool_out id o)
tool_out_parts_back id origin.Stdout h k = two_are tool_out (text_of (string id)) (Some origin.Stdout) id origin.Stdout (text_back id h) refl
tool_out_parts_back id (origin.Glob name) h k = two_are tool_out (text_of (string id)) (option_map origin.Glob (text_of (string name))) id (origin.Glob name) (text_back id h) (ap (option_map origin.Glob) (text_back name k))

tool_out_back : (o : ToolOut) → tool_out_formed o ≡ true → tool_out_of (tool_out_json o) ≡ Some o
tool_out_back o h = let p = and_parts (is_plain o.id) (origin_formed o.origin) h in tool_out_parts_back o.id o.origin p.0 p.1

plain_field_nul : (s : List ℕ) → is_plain_field s ≡ true → has_nul s ≡ false
plain_field_nul [] h = refl
plain_field_nul (c ∷ cs) h =
    let p = and_parts (not (is_stray c cs)) (is_plain_field cs) h in
    let q = or_parts (is_refused c cs) (opens c cs && not (is_some (reference_at cs))) (not-true (is_stray c cs) p.0) in
    let r = or_parts (c == 0 || c == 92) (c == 36 && begins_with 123 cs) q.0 in
    ap (λ b. b || has_nul cs) (or_parts (c == 0) (c == 92) r.0).0 ∙ plain_field_nul cs p.1

argument_back : (ps : List Piece) → are_pieces ps ≡ true → argument_of (argument_json ps) ≡ Some ps
argument_back ps h =
    let back = fields_read.pieces ps h in
    let whole : has_nul (field_text ps) ≡ false = plain_field_nul (field_text ps) (fields_read.plain (field_text ps) ∙ ap is_some back) in
    ap (λ b. option_and_then pieces_in (cond b None (Some (field_text ps)))) whole ∙ back

code_back : (n : ℕ) → is_byte n ≡ true → code_of (code_json n) ≡ Some n
code_back n h = ap (λ b. cond b (Some n) None) h

codes_back : (ns : List ℕ) → list_all is_byte ns && are_ascending ns ≡ true → codes_of (list code_json ns) ≡ Some ns
codes_back ns h =
    let p = and_parts (list_all is_byte ns) (are_ascending ns) h in
    ap (option_and_then (λ ms. cond (are_ascending ms) (Some ms) None)) (all_back code_of code_json is_byte code_back ns p.0) ∙ ap (λ b. cond b (Some ns) None) p.1

abbrev members_in : Data → Members
members_in (object ms) = ms
members_in d = no_members

tool_parts_back : (outermost : Bool) (ps : List Piece) (ins : List CwlIn) (outs : List ToolOut) (found : Option (List ℕ)) → are_pieces ps ≡ true → list_all input_formed ins ≡ true → list_all tool_out_formed outs ≡ true → codes_formed found ≡ true
    → tool_in outermost (members_in (tool_json outermost (tool ps ins outs found))) ≡ Some (tool ps ins outs found)
tool_parts_back outermost ps ins outs found a b c d = by_kind outermost found d
  where
    read : (o : Option (Option (List ℕ))) (r : Option (List ℕ)) → o ≡ Some r → with4 tool (argument_of (argument_json ps)) (list_of input_of (list input_json ins)) (list_of tool_out_of (list tool_out_json outs)) o ≡ Some (tool ps ins outs r)
    read o r e = four_are tool (argument_of (argument_json ps)) (list_of input_of (list input_json ins)) (list_of tool_out_of (list tool_out_json outs)) o ps ins outs r
        (argument_back ps a) (all_back input_of input_json input_formed input_back ins b) (all_back tool_out_of tool_out_json tool_out_formed tool_out_back outs c) e

    by_kind : (top : Bool) (r : Option (List ℕ)) → codes_formed r ≡ true → tool_in top (members_in (tool_json top (tool ps ins outs r))) ≡ Some (tool ps ins outs r)
    by_kind true None k = read (Some None) None refl
    by_kind false None k = read (Some None) None refl
    by_kind true (Some ns) k = read (option_map Some (codes_of (list code_json ns))) (Some ns) (ap (option_map Some) (codes_back ns k))
    by_kind false (Some ns) k = read (option_map Some (codes_of (list code_json ns))) (Some ns) (ap (option_map Some) (codes_back ns k))

-- a tool is found first
found_tool : (outermost : Bool) (ms : Members) (t : Tool) → tool_in outermost ms ≡ Some t → cwl_of outermost (object ms) ≡ Some (process.Tool t)
found_tool outermost ms t h = ap (λ o. tool_or_flow o (flow_in outermost ms (member_steps ms))) h

tool_back : (outermost : Bool) (t : Tool) → tool_formed t ≡ true → cwl_of outermost (tool_json outermost t) ≡ Some (process.Tool t)
tool_back outermost t h =
    let p = and_parts (are_pieces t.argument && list_all input_formed t.inputs && list_all tool_out_formed t.outputs) (codes_formed t.codes) h in
    let q = and_parts (are_pieces t.argument && list_all input_formed t.inputs) (list_all tool_out_formed t.outputs) p.0 in
    let r = and_parts (are_pieces t.argument) (list_all input_formed t.inputs) q.0 in
    found_tool outermost (members_in (tool_json outermost t)) t (tool_parts_back outermost t.argument t.inputs t.outputs t.codes r.0 r.1 q.1 p.1)

-- ---- sources, outputs and wires

cut_none : (s : List ℕ) → lacks 47 s ≡ true → cut_at 47 s ≡ None
cut_none [] h = refl
cut_none (c ∷ cs) h =
    let p = and_parts (not (c == 47)) (lacks 47 cs) h in
    ap (λ b. cond b (Some ([], cs)) (option_map (λ (q : List ℕ × List ℕ). (c ∷ q.0, q.1)) (cut_at 47 cs))) (not-true (c == 47) p.0) ∙ ap (option_map (λ (q : List ℕ × List ℕ). (c ∷ q.0, q.1))) (cut_none cs p.1)

cut_some : (s t : List ℕ) → lacks 47 s ≡ true → cut_at 47 (s ++ 47 ∷ t) ≡ Some (s, t)
cut_some [] t h = refl
cut_some (c ∷ cs) t h =
    let p = and_parts (not (c == 47)) (lacks 47 cs) h in
    let more = cs ++ 47 ∷ t in
    ap (λ b. cond b (Some ([], more)) (option_map (λ (q : List ℕ × List ℕ). (c ∷ q.0, q.1)) (cut_at 47 more))) (not-true (c == 47) p.0) ∙ ap (option_map (λ (q : List ℕ × List ℕ). (c ∷ q.0, q.1))) (cut_some cs t p.1)

link_back : (l : Link) → link_formed l ≡ true → link_of (link_json l) ≡ Some l
link_back (link.Input id) h =
    let p = and_parts (is_plain id) (lacks 47 id) h in
    ap (option_map (λ s. link_by s (cut_at 47 s))) (text_back id p.0) ∙ ap (λ o. Some (link_by id o)) (cut_none id p.1)
link_back (link.Out from out) h =
    let p = and_parts (is_plain from && lacks 47 from) (is_plain out) h in
    let q = and_parts (is_plain from) (lacks 47 from) p.0 in
    let whole = from ++ 47 ∷ out in
    let plain_whole : is_plain whole ≡ true = ap not (has_nul-append from (47 ∷ out) (not-true (has_nul from) q.0) (not-true (has_nul out) p.1)) in
    ap (option_map (λ s. link_by s (cut_at 47 s))) (text_back whole plain_whole) ∙ ap (λ o. Some (link_by whole o)) (cut_some from out q.1)

flow_out_back : (o : FlowOut) → flow_out_formed o ≡ true → flow_out_of (flow_out_json o) ≡ Some o
flow_out_back o h =
    let p = and_parts (is_plain o.id) (link_formed o.source) h in
    three_are flow_out (text_of (string o.id)) (link_of (link_json o.source)) (type_of (type_json o.ty)) o.id o.source o.ty (text_back o.id p.0) (link_back o.source p.1) (type_back o.ty)

wire_back : (w : Wire) → wire_formed w ≡ true → wire_of (wire_json w) ≡ Some w
wire_back w h =
    let p = and_parts (is_plain w.id) (link_formed w.source) h in
    two_are wire (text_of (string w.id)) (link_of (link_json w.source)) w.id w.source (text_back w.id p.0) (link_back w.source p.1)

-- ---- steps and workflows

step_parts_back : (id : List ℕ) (wires : List Wire) (outs : List (List ℕ)) (p : Process) (m : Mode) → is_plain id ≡ true → list_all wire_formed wires ≡ true → list_all is_plain outs ≡ true → mode_formed m ≡ true
    → cwl_of false (process_json p false) ≡ Some p → step_of (step_json (step id wires outs p m) (process_json p false)) ≡ Some (step id wires outs p m)
step_parts_back id wires outs p m a b c d run = by_mode m d
  where
    read : (o : Option Mode) (n : Mode) → o ≡ Some n → with5 step (text_of (string id)) (list_of wire_of (list wire_json wires)) (list_of text_of (list string outs)) (cwl_of false (process_json p false)) o ≡ Some (step id wires outs p n)
    read o n e = five_are step (text_of (string id)) (list_of wire_of (list wire_json wires)) (list_of text_of (list string outs)) (cwl_of false (process_json p false)) o id wires outs p n
        (text_back id a) (all_back wire_of wire_json wire_formed wire_back wires b) (all_back text_of string is_plain text_back outs c) run e

    by_mode : (n : Mode) → mode_formed n ≡ true → step_of (step_json (step id wires outs p n) (process_json p false)) ≡ Some (step id wires outs p n)
    by_mode mode.Plain k = read (Some mode.Plain) mode.Plain refl
    by_mode (mode.Scatter x) k = read (option_map mode.Scatter (text_of (string x))) (mode.Scatter x) (ap (option_map mode.Scatter) (text_back x k))
    by_mode mode.When k = read (Some mode.When) mode.When refl

abbrev Back : Process → Type 0
Back p = (outermost : Bool) → is_formed p ≡ true → cwl_of outermost (process_json p outermost) ≡ Some p

abbrev Child : Type 0
Child = (p : Process) × Back p

abbrev plain_process : Process-F Child → Process-F Process
plain_process = map-Process Child Process (λ (k : Child). k.0)

-- a step of children, of processes, of JSON and of tests
abbrev first_step : CwlStep Child → CwlStep Process
first_step s = record { id = s.id; wires = s.wires; outs = s.outs; run = s.run.0; mode = s.mode }

abbrev json_step : CwlStep Process → CwlStep (Bool → Data)
json_step s = record { id = s.id; wires = s.wires; outs = s.outs; run = process_json s.run; mode = s.mode }

abbrev test_step : CwlStep Process → CwlStep Bool
test_step s = record { id = s.id; wires = s.wires; outs = s.outs; run = is_formed s.run; mode = s.mode }

abbrev written_of : CwlStep (Bool → Data) → Data
written_of s = step_json s (s.run false)

steps_back : (ss : List (CwlStep Child)) → list_all step_formed (map test_step (map first_step ss)) ≡ true → all_steps (items_of (map written_of (map json_step (map first_step ss)))) ≡ Some (map first_step ss)
steps_back [] h = refl
steps_back (s ∷ ss) h =
    let rest = items_of (map written_of (map json_step (map first_step ss))) in
    let own = step_formed (test_step (first_step s)) in
    let p = and_parts own (list_all step_formed (map test_step (map first_step ss))) h in
    let a = and_parts (is_plain s.id && list_all wire_formed s.wires && list_all is_plain s.outs && mode_formed s.mode) (is_formed s.run.0) p.0 in
    let b = and_parts (is_plain s.id && list_all wire_formed s.wires && list_all is_plain s.outs) (mode_formed s.mode) a.0 in
    let c = and_parts (is_plain s.id && list_all wire_formed s.wires) (list_all is_plain s.outs) b.0 in
    let d = and_parts (is_plain s.id) (list_all wire_formed s.wires) c.0 in
    ap (option_and_then (λ x. option_map (λ xs. x ∷ xs) (all_steps rest))) (step_parts_back s.id s.wires s.outs s.run.0 s.mode d.0 d.1 c.1 b.1 (s.run.1 false a.1))
    ∙ ap (option_map (λ xs. first_step s ∷ xs)) (steps_back ss p.1)

flow_back : (outermost : Bool) (ins : List CwlIn) (outs : List FlowOut) (ds : Items) (steps : List (CwlStep Process)) → list_all input_formed ins ≡ true → list_all flow_out_formed outs ≡ true → all_steps ds ≡ Some steps
    → cwl_of outermost (flow_json outermost ins outs (array ds)) ≡ Some (process.Flow (flow ins outs steps))
flow_back outermost ins outs ds steps a b c = by_kind outermost
  where
    read : with3 flow (list_of input_of (list input_json ins)) (list_of flow_out_of (list flow_out_json outs)) (all_steps ds) ≡ Some (flow ins outs steps)
    read = three_are flow (list_of input_of (list input_json ins)) (list_of flow_out_of (list flow_out_json outs)) (all_steps ds) ins outs steps
        (all_back input_of input_json input_formed input_back ins a) (all_back flow_out_of flow_out_json flow_out_formed flow_out_back outs b) c

    by_kind : (top : Bool) → cwl_of top (flow_json top ins outs (array ds)) ≡ Some (process.Flow (flow ins outs steps))
    by_kind true = ap (tool_or_flow None) read
    by_kind false = ap (tool_or_flow None) read

process_layer : (y : Process-F Child) (outermost : Bool) → process_formed_at (map-Process Process Bool is_formed (plain_process y)) ≡ true
    → cwl_of outermost (process_step (map-Process Process (Bool → Data) process_json (plain_process y)) outermost) ≡ Some (roll-Process (plain_process y))
process_layer (layer.Tool t) outermost h = tool_back outermost t h ∙ ap Some (sym (process.rolls-Tool t))
process_layer (layer.Flow f) outermost h =
    let tests = map test_step (map first_step f.steps) in
    let p = and_parts (list_all input_formed f.inputs && list_all flow_out_formed f.outputs) (list_all step_formed tests) h in
    let q = and_parts (list_all input_formed f.inputs) (list_all flow_out_formed f.outputs) p.0 in
    flow_back outermost f.inputs f.outputs (items_of (map written_of (map json_step (map first_step f.steps)))) (map first_step f.steps) q.0 q.1 (steps_back f.steps p.1)
    ∙ ap Some (sym (process.rolls-Flow (flow f.inputs f.outputs (map first_step f.steps))))

process_back : (p : Process) → Back p
process_back = ind-Process Back (λ l y is. subst (λ (z : Process-F Process). Back (roll-Process z)) is (λ outermost h.
    let p = plain_process y in
    ap (λ (w : Bool → Data). cwl_of outermost (w outermost)) (fold-roll-Process (Bool → Data) process_step p) ∙ process_layer y outermost (sym (fold-roll-Process Bool process_formed_at p) ∙ h)))

pub formed_processes_stand : FormedProcessesStand
formed_processes_stand outermost p h = process_back p outermost h
