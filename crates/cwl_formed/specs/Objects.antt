-- The object that a JSON value is for a process (CWL v1.2, "Executing CWL documents as scripts"), read by the types of its
-- inputs. Each object of JSON has the members that are named here and no others.
use Rattle.std.specs.Prelude.{ℕ, Bool, true, false, ◌&&◌, ◌||◌, List, [], ◌∷◌, ◌++◌, Option, Some, None, option_map, option_and_then, if◌then◌else◌, codes}
use Rattle.std.specs.Str.{bytes_eq}
use Rattle.serde_json.specs.Data.{Data, null, boolean, number, string, object, Members, no_members, member}
use Rattle.serde_json.specs.Find.{get_member}
use Rattle.wdl_value.specs.declared.value.Value.{Value}
use Rattle.wdl_value.specs.declared.value.Value.TheVariants as v
use Rattle.cwl_model.specs.declared.process.Process.{Process, Process-F, out-Process}
use Rattle.cwl_model.specs.declared.process.Process.TheOpen as process
use Rattle.cwl_model.specs.declared.tool.CwlIn.{CwlIn}
use Rattle.cwl_model.specs.declared.ty.CwlTy.{CwlTy, CwlTy-F, fold-CwlTy}
use Rattle.cwl_model.specs.declared.ty.CwlTy.TheOpen as type
use Rattle.cwl_model.specs.Means.{Named, named, value_at}
use Rattle.cwl_emit.specs.Reading.{has_names, is_member, is_text, list_of, member_of, number_of}

-- ---- values

abbrev pub Reader : Type 0
Reader = Data → Option Value

abbrev pub path_in : Reader
path_in (string s) = Some (v.File s)
path_in d = None

-- `{"class": "File", "path": PATH}`
abbrev pub file_in : Reader
file_in (object ms) =
    if has_names (codes "class" ∷ codes "path" ∷ []) ms && is_member (codes "class") (is_text (codes "File")) ms then member_of (codes "path") path_in ms else None
file_in d = None

abbrev pub typed_in : CwlTy-F Reader → Reader
typed_in type.Bool (boolean b) = Some (v.Bool b)
typed_in type.Long (number n) = number_of n
typed_in type.Str (string s) = Some (v.Str s)
typed_in type.File d = file_in d
typed_in (type.List read) d = option_map v.List (list_of read d)
typed_in (type.Null read) null = Some v.Absent
typed_in (type.Null read) d = read d
typed_in t d = None

-- what a JSON value is at a type
abbrev pub value_in : CwlTy → Reader
value_in = fold-CwlTy Reader typed_in

-- ---- objects

abbrev pub is_id : List CwlIn → List ℕ → Bool
is_id [] name = false
is_id (i ∷ is) name = bytes_eq i.id name || is_id is name

-- Each member is that of an input.
abbrev pub are_ids : List CwlIn → Members → Bool
are_ids is no_members = true
are_ids is (member k d ms) = is_id is k && are_ids is ms

-- An input that has no member is not given.
abbrev pub input_in : CwlIn → Option Data → Option (List Named)
input_in i None = Some []
input_in i (Some d) = option_map (λ x. named i.id x ∷ []) (value_in i.ty d)

abbrev pub inputs_in : List CwlIn → Members → Option (List Named)
inputs_in [] ms = Some []
inputs_in (i ∷ is) ms = option_and_then (λ ns. option_map (λ more. ns ++ more) (inputs_in is ms)) (input_in i (get_member i.id ms))

-- the values of the inputs that are given, in the order of the inputs
abbrev pub object_in : List CwlIn → Data → Option (List Named)
object_in is (object ms) = if are_ids is ms then inputs_in is ms else None
object_in is d = None

-- ---- processes

abbrev pub inputs_at : Process-F Process → List CwlIn
inputs_at (process.Tool t) = t.inputs
inputs_at (process.Flow f) = f.inputs

abbrev pub inputs_of : Process → List CwlIn
inputs_of p = inputs_at (out-Process p)

-- ---- the order of the inputs

abbrev pub under_id : CwlIn → Option Value → List Named
under_id i None = []
under_id i (Some x) = named i.id x ∷ []

-- the values that stand under the ids of the inputs, in the order of the inputs
abbrev pub in_order : List CwlIn → List Named → List Named
in_order [] ns = []
in_order (i ∷ is) ns = under_id i (value_at ns i.id) ++ in_order is ns
