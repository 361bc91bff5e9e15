-- Tools.
use Rattle.std.proofs.Common.{◌≡◌, ℕ, Bool, true, false, cond, ◌&&◌, ◌||◌, List, [], ◌∷◌, codes, Option, Some, None, option_map, nat_lt, refl, sym, ap, ◌∙◌, subst}
use Rattle.std.proofs.lemmas.Bool.{false≢true, and_parts}
use Rattle.std.proofs.lemmas.Option.{same_Some}
use Rattle.serde_json.specs.Data.{unsigned, Data, number, string, array, object, no_items, item, Members, no_members, member}
use Rattle.serde_json.specs.Find.{get_member}
use Rattle.cwl_model.specs.declared.tool.Origin.{Origin}
use Rattle.cwl_model.specs.declared.tool.Origin.TheVariants as origin
use Rattle.cwl_model.specs.declared.tool.Piece.{Piece}
use Rattle.cwl_model.specs.declared.tool.Tool.{Tool}
use Rattle.cwl_model.specs.declared.tool.ToolOut.{ToolOut}
use Rattle.cwl_model.specs.Fields.{field_text, pieces_in}
use Rattle.cwl_model.proofs.Fields.{fields_read}
use Rattle.cwl_emit.specs.Reading.{text_of, is_text, list_of, has_names, found, is_member, member_of, optional, with4, input_of, tool_out, glob_of, origin_in, tool_out_of, argument_of, code_of, are_ascending, codes_of, is_command, is_version, tool_names, tool, is_tool, tool_in}
use Rattle.cwl_emit.specs.Writing.{list, input_json, glob_json, tool_out_json, code_json, code_members, with_version, argument_json, command_json, tool_json}
use Rattle.cwl_emit.proofs.Parts.{of_two, of_four, Is, MembersAre, no_item, item_is, array_is, no_member, member_is, object_is, text_is, word_is, list_is, names_ordered, shape_of, shape_is}
use Rattle.cwl_emit.proofs.Values.{input_is}
use Rattle.wdl_base.proofs.Options.{map_parts, then_parts, chosen_parts}

-- ---- outputs

glob_is : (d : Data) (name : List ℕ) → glob_of d ≡ Some name → Is d (glob_json name)
glob_is (object ms) name h =
    let names = codes "glob" ∷ [] in
    let c = chosen_parts (has_names names ms) (member_of (codes "glob") text_of ms) name h in
    let s = shape_of names ms c.0 in
    let is : ms ≡ member (codes "glob") s.0 no_members = shape_is names ms s in
    let read = sym (ap (member_of (codes "glob") text_of) is) ∙ c.1 in
    subst (λ m. Is (object m) (glob_json name)) (sym is) (object_is _ _ (member_is (codes "glob") s.0 (string name) _ _ (text_is s.0 name read) no_member) refl)
glob_is d name h = cc

abbrev stdout_names : List (List ℕ)
stdout_names = codes "id" ∷ codes "type" ∷ []

abbrev glob_names : List (List ℕ)
glob_names = codes "id" ∷ codes "outputBinding" ∷ codes "type" ∷ []

abbrev typed : List ℕ → Members → Bool
typed word ms = is_member (codes "type") (is_text word) ms

stdout_out_is : (ms : Members) (id : List ℕ) → has_names stdout_names ms && typed (codes "stdout") ms ≡ true → member_of (codes "id") text_of ms ≡ Some id
    → Is (object ms) (tool_out_json (tool_out id origin.Stdout))
stdout_out_is ms id h e =
    let p = and_parts (has_names stdout_names ms) (typed (codes "stdout") ms) h in
    let s = shape_of stdout_names ms p.0 in
    let is : ms ≡ member (codes "id") s.0 (member (codes "type") s.3.0 no_members) = shape_is stdout_names ms s in
    let word = word_is (codes "stdout") s.3.0 (sym (ap (typed (codes "stdout")) is) ∙ p.1) in
    let own = text_is s.0 id (sym (ap (member_of (codes "id") text_of) is) ∙ e) in
    subst (λ m. Is (object m) (tool_out_json (tool_out id origin.Stdout))) (sym is)
    (object_is _ _ (member_is (codes "id") s.0 (string id) _ _ own (member_is (codes "type") s.3.0 (string (codes "stdout")) _ _ word no_member)) refl)

glob_out_is : (ms : Members) (id name : List ℕ) → has_names glob_names ms && typed (codes "File") ms ≡ true → member_of (codes "id") text_of ms ≡ Some id → member_of (codes "outputBinding") glob_of ms ≡ Some name
    → Is (object ms) (tool_out_json (tool_out id (origin.Glob name)))
glob_out_is ms id name h e g =
    let p = and_parts (has_names glob_names ms) (typed (codes "File") ms) h in
    let s = shape_of glob_names ms p.0 in
    let is : ms ≡ member (codes "id") s.0 (member (codes "outputBinding") s.3.0 (member (codes "type") s.3.3.0 no_members)) = shape_is glob_names ms s in
    let word = word_is (codes "File") s.3.3.0 (sym (ap (typed (codes "File")) is) ∙ p.1) in
    let binding = glob_is s.3.0 name (sym (ap (member_of (codes "outputBinding") glob_of) is) ∙ g) in
    let own = text_is s.0 id (sym (ap (member_of (codes "id") text_of) is) ∙ e) in
    subst (λ m. Is (object m) (tool_out_json (tool_out id (origin.Glob name)))) (sym is)
    (object_is _ _ (member_is (codes "id") s.0 (string id) _ _ own (member_is (codes "outputBinding") s.3.0 (glob_json name) _ _ binding (member_is (codes "type") s.3.3.0 (string (codes "File")) _ _ word no_member))) refl)

origin_is : (ms : Members) (id : List ℕ) (o : Origin) → member_of (codes "id") text_of ms ≡ Some id → origin_in ms ≡ Some o → Is (object ms) (tool_out_json (tool_out id o))
origin_is ms id o e h = by_kind (has_names stdout_names ms && typed (codes "stdout") ms) refl h
  where
    by_kind : (b : Bool) → has_names stdout_names ms && typed (codes "stdout") ms ≡ b → cond b (Some origin.Stdout) (cond (has_names glob_names ms && typed (codes "File") ms) (option_map origin.Glob (member_of (codes "outputBinding") glob_of ms)) None) ≡ Some o
        → Is (object ms) (tool_out_json (tool_out id o))
    by_kind true is k = subst (λ x. Is (object ms) (tool_out_json (tool_out id x))) (same_Some origin.Stdout o k) (stdout_out_is ms id is e)
    by_kind false is k =
        let c = chosen_parts (has_names glob_names ms && typed (codes "File") ms) (option_map origin.Glob (member_of (codes "outputBinding") glob_of ms)) o k in
        let p = map_parts origin.Glob (member_of (codes "outputBinding") glob_of ms) o c.1 in
        subst (λ x. Is (object ms) (tool_out_json (tool_out id x))) p.2 (glob_out_is ms id p.0 c.0 e p.1)

tool_out_is : (d : Data) (o : ToolOut) → tool_out_of d ≡ Some o → Is d (tool_out_json o)
tool_out_is (object ms) o h =
    let r = of_two tool_out (member_of (codes "id") text_of ms) (origin_in ms) o h in
    subst (λ x. Is (object ms) (tool_out_json x)) r.made (origin_is ms r.x r.y r.first r.second)
tool_out_is d o h = cc

-- ---- arguments, codes and constants

argument_is : (d : Data) (ps : List Piece) → argument_of d ≡ Some ps → Is d (argument_json ps)
argument_is (array no_items) ps h = cc
argument_is (array (item d no_items)) ps h =
    let p = then_parts pieces_in (text_of d) ps h in
    let text = fields_read.text p.0 ps p.2 in
    array_is _ _ (item_is d (string (field_text ps)) no_items no_items (subst (λ s. Is d (string s)) (sym text.1) (text_is d p.0 p.1)) no_item)
argument_is (array (item d (item e ds))) ps h = cc
argument_is d ps h = cc

code_is : (d : Data) (n : ℕ) → code_of d ≡ Some n → Is d (code_json n)
code_is (number (unsigned m)) n h =
    let c = chosen_parts (nat_lt m 256) (Some m) n h in
    record { same = ap code_json (same_Some m n c.1); ordered = refl; exact = refl }
code_is (number m) n h = cc
code_is d n h = cc

codes_are : (d : Data) (ns : List ℕ) → codes_of d ≡ Some ns → Is d (list code_json ns)
codes_are d ns h =
    let p = then_parts (λ ms. cond (are_ascending ms) (Some ms) None) (list_of code_of d) ns h in
    let c = chosen_parts (are_ascending p.0) (Some p.0) ns p.2 in
    subst (λ ms. Is d (list code_json ms)) (same_Some p.0 ns c.1) (list_is code_of code_json code_is d p.0 p.1)

command_is : (d : Data) → is_command d ≡ true → Is d command_json
command_is (array no_items) h = absurd (false≢true h)
command_is (array (item d no_items)) h = absurd (false≢true (and_parts (is_text (codes "sh") d) false h).1)
command_is (array (item d (item e no_items))) h =
    let p = and_parts (is_text (codes "sh") d) (is_text (codes "-c") e && true) h in
    let q = and_parts (is_text (codes "-c") e) true p.1 in
    array_is _ _ (item_is d (string (codes "sh")) _ _ (word_is (codes "sh") d p.0) (item_is e (string (codes "-c")) _ _ (word_is (codes "-c") e q.0) no_item))
command_is (array (item d (item e (item f ds)))) h =
    let p = and_parts (is_text (codes "sh") d) (is_text (codes "-c") e && false) h in
    absurd (false≢true (and_parts (is_text (codes "-c") e) false p.1).1)
command_is d h = absurd (false≢true h)

-- ---- the whole tool

abbrev reads_tool : Members → Option Tool
reads_tool ms =
    with4 tool (member_of (codes "arguments") argument_of ms) (member_of (codes "inputs") (list_of input_of) ms)
    (member_of (codes "outputs") (list_of tool_out_of) ms) (optional codes_of (get_member (codes "successCodes") ms))

-- the parts of a tool, as they stand in its object
record ToolParts (argument command class inputs outputs stdout : Data) (t : Tool) : Type 0 where
  pub argument_is : Is argument (argument_json t.argument)
  pub command_is : Is command command_json
  pub class_is : Is class (string (codes "CommandLineTool"))
  pub inputs_is : Is inputs (list input_json t.inputs)
  pub outputs_is : Is outputs (list tool_out_json t.outputs)
  pub stdout_is : Is stdout (string (codes "_stdout"))

ordered_tool : (outermost : Bool) (argument command class inputs outputs stdout : Data) (codes_found : Option (List ℕ))
    → names_ordered
    (member (codes "arguments") argument (member (codes "baseCommand") command (member (codes "class") class
    (with_version outermost (member (codes "inputs") inputs (member (codes "outputs") outputs (member (codes "stdout") stdout (code_members codes_found))))))))
    ≡ true
ordered_tool true argument command class inputs outputs stdout None = refl
ordered_tool true argument command class inputs outputs stdout (Some ns) = refl
ordered_tool false argument command class inputs outputs stdout None = refl
ordered_tool false argument command class inputs outputs stdout (Some ns) = refl

inner_tool_is : (a b c i o s : Data) (tail : Members) (t : Tool) → ToolParts a b c i o s t → MembersAre tail (code_members t.codes)
    → Is (object (member (codes "arguments") a (member (codes "baseCommand") b (member (codes "class") c (member (codes "inputs") i (member (codes "outputs") o (member (codes "stdout") s tail))))))) (tool_json false t)
inner_tool_is a b c i o s tail t p rest =
    object_is _ _
    (member_is (codes "arguments") a _ _ _ p.argument_is
    (member_is (codes "baseCommand") b _ _ _ p.command_is
    (member_is (codes "class") c _ _ _ p.class_is
    (member_is (codes "inputs") i _ _ _ p.inputs_is
    (member_is (codes "outputs") o _ _ _ p.outputs_is
    (member_is (codes "stdout") s _ _ _ p.stdout_is rest))))))
    (ordered_tool false (argument_json t.argument) command_json (string (codes "CommandLineTool")) (list input_json t.inputs) (list tool_out_json t.outputs) (string (codes "_stdout")) t.codes)

outer_tool_is : (a b c v i o s : Data) (tail : Members) (t : Tool) → ToolParts a b c i o s t → Is v (string (codes "v1.2")) → MembersAre tail (code_members t.codes)
    → Is (object (member (codes "arguments") a (member (codes "baseCommand") b (member (codes "class") c (member (codes "cwlVersion") v (member (codes "inputs") i (member (codes "outputs") o (member (codes "stdout") s tail)))))))) (tool_json true t)
outer_tool_is a b c v i o s tail t p version rest =
    object_is _ _
    (member_is (codes "arguments") a _ _ _ p.argument_is
    (member_is (codes "baseCommand") b _ _ _ p.command_is
    (member_is (codes "class") c _ _ _ p.class_is
    (member_is (codes "cwlVersion") v _ _ _ version
    (member_is (codes "inputs") i _ _ _ p.inputs_is
    (member_is (codes "outputs") o _ _ _ p.outputs_is
    (member_is (codes "stdout") s _ _ _ p.stdout_is rest)))))))
    (ordered_tool true (argument_json t.argument) command_json (string (codes "CommandLineTool")) (list input_json t.inputs) (list tool_out_json t.outputs) (string (codes "_stdout")) t.codes)

-- the parts by what their values stand for
parts_are : (a b c i o s : Data) (codes_found : Option (Option (List ℕ))) (t : Tool) → is_command b ≡ true → is_text (codes "CommandLineTool") c ≡ true → is_text (codes "_stdout") s ≡ true
    → with4 tool (argument_of a) (list_of input_of i) (list_of tool_out_of o) codes_found ≡ Some t
    → ToolParts a b c i o s t × (codes_found ≡ Some t.codes)
parts_are a b c i o s found t command class stdout h =
    let r = of_four tool (argument_of a) (list_of input_of i) (list_of tool_out_of o) found t h in
    let q = r.rest.rest in
    let all : ToolParts a b c i o s (tool r.x r.rest.x q.x q.y) = record {
      argument_is = argument_is a r.x r.first;
      command_is = command_is b command;
      class_is = word_is (codes "CommandLineTool") c class;
      inputs_is = list_is input_of input_json input_is i r.rest.x r.rest.first;
      outputs_is = list_is tool_out_of tool_out_json tool_out_is o q.x q.first;
      stdout_is = word_is (codes "_stdout") s stdout;
    } in
    subst (λ (u : Tool). ToolParts a b c i o s u × (found ≡ Some u.codes)) q.made (all, q.second)

no_codes_are : (codes_found : Option (List ℕ)) → Some None ≡ Some codes_found → MembersAre no_members (code_members codes_found)
no_codes_are found h = subst (λ o. MembersAre no_members (code_members o)) (same_Some None found h) no_member

some_codes_are : (d : Data) (codes_found : Option (List ℕ)) → option_map Some (codes_of d) ≡ Some codes_found → MembersAre (member (codes "successCodes") d no_members) (code_members codes_found)
some_codes_are d found h =
    let p = map_parts Some (codes_of d) found h in
    subst (λ o. MembersAre (member (codes "successCodes") d no_members) (code_members o)) p.2 (member_is (codes "successCodes") d _ _ _ (codes_are d p.0 p.1) no_member)

abbrev coded : List (List ℕ)
coded = codes "successCodes" ∷ []

-- the constant members
record Constants (outermost : Bool) (ms : Members) : Type 0 where
  pub version : is_version outermost ms ≡ true
  pub command : is_member (codes "baseCommand") is_command ms ≡ true
  pub class : is_member (codes "class") (is_text (codes "CommandLineTool")) ms ≡ true
  pub stdout : is_member (codes "stdout") (is_text (codes "_stdout")) ms ≡ true

inner_plain : (ms : Members) (t : Tool) → Constants false ms → has_names (tool_names false []) ms ≡ true → reads_tool ms ≡ Some t → Is (object ms) (tool_json false t)
inner_plain ms t k names h =
    let ns = tool_names false [] in
    let s = shape_of ns ms names in
    let is = shape_is ns ms s in
    let r = parts_are s.0 s.3.0 s.3.3.0 s.3.3.3.0 s.3.3.3.3.0 s.3.3.3.3.3.0 (Some None) t
    (sym (ap (is_member (codes "baseCommand") is_command) is) ∙ k.command) (sym (ap (is_member (codes "class") (is_text (codes "CommandLineTool"))) is) ∙ k.class)
    (sym (ap (is_member (codes "stdout") (is_text (codes "_stdout"))) is) ∙ k.stdout) (sym (ap reads_tool is) ∙ h) in
    subst (λ m. Is (object m) (tool_json false t)) (sym is) (inner_tool_is _ _ _ _ _ _ no_members t r.0 (no_codes_are t.codes r.1))

inner_coded : (ms : Members) (t : Tool) → Constants false ms → has_names (tool_names false coded) ms ≡ true → reads_tool ms ≡ Some t → Is (object ms) (tool_json false t)
inner_coded ms t k names h =
    let ns = tool_names false coded in
    let s = shape_of ns ms names in
    let is = shape_is ns ms s in
    let last = s.3.3.3.3.3.3.0 in
    let r = parts_are s.0 s.3.0 s.3.3.0 s.3.3.3.0 s.3.3.3.3.0 s.3.3.3.3.3.0 (option_map Some (codes_of last)) t
    (sym (ap (is_member (codes "baseCommand") is_command) is) ∙ k.command) (sym (ap (is_member (codes "class") (is_text (codes "CommandLineTool"))) is) ∙ k.class)
    (sym (ap (is_member (codes "stdout") (is_text (codes "_stdout"))) is) ∙ k.stdout) (sym (ap reads_tool is) ∙ h) in
    subst (λ m. Is (object m) (tool_json false t)) (sym is) (inner_tool_is _ _ _ _ _ _ _ t r.0 (some_codes_are last t.codes r.1))

outer_plain : (ms : Members) (t : Tool) → Constants true ms → has_names (tool_names true []) ms ≡ true → reads_tool ms ≡ Some t → Is (object ms) (tool_json true t)
outer_plain ms t k names h =
    let ns = tool_names true [] in
    let s = shape_of ns ms names in
    let is = shape_is ns ms s in
    let version = word_is (codes "v1.2") s.3.3.3.0 (sym (ap (is_member (codes "cwlVersion") (is_text (codes "v1.2"))) is) ∙ k.version) in
    let r = parts_are s.0 s.3.0 s.3.3.0 s.3.3.3.3.0 s.3.3.3.3.3.0 s.3.3.3.3.3.3.0 (Some None) t
    (sym (ap (is_member (codes "baseCommand") is_command) is) ∙ k.command) (sym (ap (is_member (codes "class") (is_text (codes "CommandLineTool"))) is) ∙ k.class)
    (sym (ap (is_member (codes "stdout") (is_text (codes "_stdout"))) is) ∙ k.stdout) (sym (ap reads_tool is) ∙ h) in
    subst (λ m. Is (object m) (tool_json true t)) (sym is) (outer_tool_is _ _ _ _ _ _ _ no_members t r.0 version (no_codes_are t.codes r.1))

outer_coded : (ms : Members) (t : Tool) → Constants true ms → has_names (tool_names true coded) ms ≡ true → reads_tool ms ≡ Some t → Is (object ms) (tool_json true t)
outer_coded ms t k names h =
    let ns = tool_names true coded in
    let s = shape_of ns ms names in
    let is = shape_is ns ms s in
    let version = word_is (codes "v1.2") s.3.3.3.0 (sym (ap (is_member (codes "cwlVersion") (is_text (codes "v1.2"))) is) ∙ k.version) in
    let last = s.3.3.3.3.3.3.3.0 in
    let r = parts_are s.0 s.3.0 s.3.3.0 s.3.3.3.3.0 s.3.3.3.3.3.0 s.3.3.3.3.3.3.0 (option_map Some (codes_of last)) t
    (sym (ap (is_member (codes "baseCommand") is_command) is) ∙ k.command) (sym (ap (is_member (codes "class") (is_text (codes "CommandLineTool"))) is) ∙ k.class)
    (sym (ap (is_member (codes "stdout") (is_text (codes "_stdout"))) is) ∙ k.stdout) (sym (ap reads_tool is) ∙ h) in
    subst (λ m. Is (object m) (tool_json true t)) (sym is) (outer_tool_is _ _ _ _ _ _ _ _ t r.0 version (some_codes_are last t.codes r.1))

tool_by_names : (outermost b : Bool) (ms : Members) (t : Tool) → Constants outermost ms → has_names (tool_names outermost []) ms ≡ b → b || has_names (tool_names outermost coded) ms ≡ true → reads_tool ms ≡ Some t
    → Is (object ms) (tool_json outermost t)
tool_by_names false true ms t k e names h = inner_plain ms t k e h
tool_by_names false false ms t k e names h = inner_coded ms t k names h
tool_by_names true true ms t k e names h = outer_plain ms t k e h
tool_by_names true false ms t k e names h = outer_coded ms t k names h

pub tool_is : (outermost : Bool) (ms : Members) (t : Tool) → tool_in outermost ms ≡ Some t → Is (object ms) (tool_json outermost t)
tool_is outermost ms t h =
    let c = chosen_parts (is_tool outermost ms) (reads_tool ms) t h in
    let plain_names = has_names (tool_names outermost []) ms in
    let names = plain_names || has_names (tool_names outermost coded) ms in
    let version = is_version outermost ms in
    let command = is_member (codes "baseCommand") is_command ms in
    let class = is_member (codes "class") (is_text (codes "CommandLineTool")) ms in
    let stdout = is_member (codes "stdout") (is_text (codes "_stdout")) ms in
    let p = and_parts (names && version && command && class) stdout c.0 in
    let q = and_parts (names && version && command) class p.0 in
    let r = and_parts (names && version) command q.0 in
    let s = and_parts names version r.0 in
    tool_by_names outermost plain_names ms t (record { version = s.1; command = r.1; class = q.1; stdout = p.1 }) refl s.0 c.1
