-- The inputs of a workflow from JSON (OpenWDL 1.1, "JSON Input Format"), and the order of the faults.
use Rattle.std.specs.Prelude.{◌≡◌, ◌≢◌, ℕ, Bool, true, false, not, ◌&&◌, ◌||◌, nat_lt, List, [], ◌∷◌, ◌++◌, length, take, codes, Option, Some, None, option_map, option_and_then, Result, Ok, Err, if◌then◌else◌, slice_get}
use Rattle.std.specs.Str.{bytes_eq, is_utf8}
use Rattle.serde_json.specs.Data.{Data, Members, no_members, member}
use Rattle.serde_json.specs.Find.{as_object, get_member}
use Rattle.serde_json.specs.Read.{read}
use Rattle.serde_json.specs.Written.{has_float}
use Rattle.wdl_base.specs.Plain.{has_nul}
use Rattle.wdl_value.specs.declared.env.Bind.{Bind}
use Rattle.wdl_value.specs.declared.ty.Ty.{Ty}
use Rattle.wdl_value.specs.declared.value.Value.{Value}
use Rattle.wdl_value.specs.Fits.{Structs}
use Rattle.wdl_value.specs.Limits.{is_within}
use Rattle.wdl_typed.specs.declared.flow.FlowDef.{FlowDef}
use Rattle.wdl_typed.specs.declared.task.TInput.{TInput}
use Rattle.wdl_typed.specs.Bodies.{is_required}
use Rattle.wdl_typed.specs.Declarations.{plain_key}
use Rattle.wdl_typed.specs.KnownTypes.{is_some}
use Rattle.json_values.specs.Reading.{reads}
use Rattle.wdl_json.specs.declared.fault.InputFault.{InputFault}
use Rattle.wdl_json.specs.declared.fault.InputFault.TheVariants.{Bad, NoMemory as OutOfMemory}
use Rattle.wdl_json.specs.declared.given.GivenInput.{GivenInput}
use Rattle.wdl_json.specs.declared.given.GivenInput.TheVariants.{LeftOut, Fitting, Misfit}

-- ---- the text

-- the JSON that the bytes are, if they are UTF-8 and JSON
abbrev pub json_in : List ℕ → Option Data
json_in bytes = if is_utf8 bytes then read bytes else None

-- `workflow.input`
abbrev pub member_name : List ℕ → List ℕ → List ℕ
member_name flow name = flow ++ 46 ∷ name

-- ---- members that are no input

abbrev pub is_input : List ℕ → List TInput → List ℕ → Bool
is_input flow [] name = false
is_input flow (i ∷ is) name = bytes_eq (member_name flow i.name) name || is_input flow is name

-- A member whose name begins with `##` is a comment.
abbrev pub is_comment : List ℕ → Bool
is_comment name = bytes_eq (take 2 name) (codes "##")

abbrev pub is_known : List ℕ → List TInput → List ℕ → Bool
is_known flow is name = is_comment name || is_input flow is name

-- the first member that is no input and no comment
abbrev pub unknown : List ℕ → List TInput → Members → Option (List ℕ)
unknown flow is no_members = None
unknown flow is (member k d ms) = if is_known flow is k then unknown flow is ms else Some k

-- A name that holds NUL is not given.
abbrev pub printed : List ℕ → Option (List ℕ)
printed name = if has_nul name then None else Some name

abbrev pub bad : ℕ → Option (List ℕ) → InputFault
bad code name = Bad code name

abbrev pub unknown_fault : List ℕ → List TInput → Members → Option InputFault
unknown_fault flow is ms = option_map (λ name. bad 403 (printed name)) (unknown flow is ms)

-- ---- the first input in the text of the document

-- of two inputs the one that begins first; of two that begin at one place the first of the list
abbrev pub sooner : TInput → Option TInput → TInput
sooner i None = i
sooner i (Some j) = if nat_lt j.span.start i.span.start then j else i

-- the first in the text of those that pass the test
abbrev pub first_of : (TInput → Bool) → List TInput → Option TInput
first_of test [] = None
first_of test (i ∷ is) = if test i then Some (sooner i (first_of test is)) else first_of test is

-- ---- inputs that are missing

abbrev pub is_missing : List ℕ → Members → TInput → Bool
is_missing flow ms i = is_required i && not (is_some (get_member (member_name flow i.name) ms))

abbrev pub named : ℕ → List ℕ → TInput → InputFault
named code flow i = bad code (Some (member_name flow i.name))

abbrev pub missing_fault : List ℕ → List TInput → Members → Option InputFault
missing_fault flow is ms = option_map (named 404 flow) (first_of (is_missing flow ms) is)

-- ---- inputs that are given

-- The value keeps the limits of all values.
abbrev pub fitting : Option Value → GivenInput
fitting None = Misfit
fitting (Some x) = if is_within x then Fitting x else Misfit

abbrev pub given_as : Structs → Ty → Option Data → GivenInput
given_as structs t None = LeftOut
given_as structs t (Some d) = fitting (reads structs d t)

-- what the member of an input is at its type
abbrev pub given_of : Structs → List ℕ → Members → TInput → GivenInput
given_of structs flow ms i = given_as structs i.ty (get_member (member_name flow i.name) ms)

abbrev pub is_misfit : GivenInput → Bool
is_misfit Misfit = true
is_misfit given = false

abbrev pub misfits : Structs → List ℕ → Members → TInput → Bool
misfits structs flow ms i = is_misfit (given_of structs flow ms i)

-- A member with a number that is neither an i64 nor a u64 has a code of its own.
abbrev pub misfit_code : Option Data → ℕ
misfit_code None = 405
misfit_code (Some d) = if has_float d then 406 else 405

abbrev pub misfit : List ℕ → Members → TInput → InputFault
misfit flow ms i = named (misfit_code (get_member (member_name flow i.name) ms)) flow i

abbrev pub misfit_fault : Structs → List ℕ → List TInput → Members → Option InputFault
misfit_fault structs flow is ms = option_map (misfit flow ms) (first_of (misfits structs flow ms) is)

abbrev pub bind_of : TInput → GivenInput → List Bind
bind_of i LeftOut = []
bind_of i (Fitting x) = record { key = plain_key i.name; value = x } ∷ []
bind_of i Misfit = []

-- each given input with its value, in the order of the inputs
abbrev pub binds : Structs → List ℕ → Members → List TInput → List Bind
binds structs flow ms [] = []
binds structs flow ms (i ∷ is) = bind_of i (given_of structs flow ms i) ++ binds structs flow ms is

-- ---- the order of the faults

abbrev pub or_fault : Option InputFault → Result (List Bind) InputFault → Result (List Bind) InputFault
or_fault None outcome = outcome
or_fault (Some fault) outcome = Err fault

abbrev pub from_members : Structs → FlowDef → Members → Result (List Bind) InputFault
from_members structs f ms =
    or_fault (unknown_fault f.name f.inputs ms)
    (or_fault (missing_fault f.name f.inputs ms)
    (or_fault (misfit_fault structs f.name f.inputs ms) (Ok (binds structs f.name ms f.inputs))))

abbrev pub from_object : Structs → FlowDef → Option Members → Result (List Bind) InputFault
from_object structs f None = Err (bad 402 None)
from_object structs f (Some ms) = from_members structs f ms

abbrev pub from_json : Structs → FlowDef → Option Data → Result (List Bind) InputFault
from_json structs f None = Err (bad 401 None)
from_json structs f (Some d) = from_object structs f (as_object d)

-- the given inputs, or the first fault
abbrev pub inputs_in : Structs → FlowDef → List ℕ → Result (List Bind) InputFault
inputs_in structs f bytes = if nat_lt 1048576 (length bytes) then Err (bad 407 None) else from_json structs f (json_in bytes)

-- what a function gives: the outcome, unless memory runs out
abbrev pub Gives : {A : Type 0} → Result A InputFault → Result A InputFault → Type 0
Gives outcome (Ok a) = outcome ≡ Ok a
Gives outcome (Err e) = e ≢ OutOfMemory → outcome ≡ Err e

-- the main workflow
abbrev pub main_of : List FlowDef → Option ℕ → Option FlowDef
main_of flows main = option_and_then (slice_get flows) main
