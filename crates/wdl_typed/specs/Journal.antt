-- Inputs that fit, and journals whose entries were asked for.
use Rattle.std.specs.Prelude.{ℕ, Bool, true, false, not, ◌&&◌, ◌||◌, List, [], ◌∷◌, ◌++◌, map, if◌then◌else◌}
use Rattle.std.specs.List.{list_all, list_any}
use Rattle.wdl_base.specs.declared.entry.Entry.{Entry}
use Rattle.wdl_base.specs.declared.name.Key.{Key}
use Rattle.wdl_base.specs.declared.request.Request.{Request}
use Rattle.wdl_base.specs.Same.{same_request}
use Rattle.wdl_value.specs.declared.env.Bind.{Bind}
use Rattle.wdl_value.specs.declared.ty.Ty.{Ty}
use Rattle.wdl_value.specs.declared.value.Value.{Value}
use Rattle.wdl_value.specs.Fits.{Structs, fits}
use Rattle.wdl_value.specs.Limits.{is_within}
use Rattle.wdl_value.specs.Tables.{has_row, table}
use Rattle.wdl_typed.specs.declared.task.TInput.{TInput}
use Rattle.wdl_typed.specs.Bodies.{Library, is_required}
use Rattle.wdl_typed.specs.Declarations.{plain_key}
use Rattle.wdl_typed.specs.Flow.{Flowing, Run, whole}
use Rattle.wdl_typed.specs.KnownTypes.{is_some}
use Rattle.wdl_typed.specs.Scope.{is_among, lookup, same_key}

-- ---- inputs

abbrev pub keys : List Bind → List Key
keys = map (λ (b : Bind). b.key)

abbrev pub keys_distinct : List Key → Bool
keys_distinct [] = true
keys_distinct (k ∷ ks) = not (is_among k ks) && keys_distinct ks

abbrev pub value_fits : Structs → Ty → Value → Bool
value_fits structs t x = fits structs x t && is_within x

-- the value fits the type of the input of that name, and keeps the limits
abbrev pub bind_fits : Structs → List TInput → Bind → Bool
bind_fits structs [] b = false
bind_fits structs (i ∷ is) b = if same_key b.key (plain_key i.name) then value_fits structs i.ty b.value else bind_fits structs is b

abbrev pub is_given : List Bind → TInput → Bool
is_given given i = not (is_required i) || is_some (lookup given (plain_key i.name))

-- Each given name is an input, each required one is given, each value fits its type and keeps the limits.
abbrev pub inputs_fit : Structs → List TInput → List Bind → Bool
inputs_fit structs is given =
    keys_distinct (keys given) && list_all (bind_fits structs is) given && list_all (is_given given) is

-- ---- journals

abbrev pub run_over : Library → List ℕ → List Entry → Run
run_over lib site journal = record { library = lib; site = site; table = table journal }

-- the flow of the main workflow over a journal
abbrev pub flow_over : Library → ℕ → List Bind → List ℕ → List Entry → Flowing
flow_over lib main given site journal = whole (run_over lib site journal) main given

abbrev pub is_asked : Request → Flowing → Bool
is_asked r f = list_any (same_request r) f.jobs

-- Each entry's request is a job of the flow over the entries before it, and its place with its attempt is new.
abbrev pub fed_after : (List Entry → Flowing) → List Entry → List Entry → Bool
fed_after over done [] = true
fed_after over done (e ∷ es) =
    is_asked e.request (over done)
    && not (has_row (table done) e.request.place e.request.attempt)
    && fed_after over (done ++ e ∷ []) es

abbrev pub fed : Library → ℕ → List Bind → List ℕ → List Entry → Bool
fed lib main given site = fed_after (flow_over lib main given site) []
