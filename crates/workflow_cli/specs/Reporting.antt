-- What is written of a run that ended well.
use Rattle.std.specs.Prelude.{ℕ, List, [], ◌∷◌, ◌++◌, codes, decimal, length}
use Rattle.std.specs.Fmt.{signed_decimal}
use Rattle.wdl_value.specs.declared.env.Bind.{Bind}
use Rattle.wdl_value.specs.declared.value.Value.{Value}
use Rattle.wdl_value.specs.declared.value.Value.TheVariants as v
use Rattle.wdl_json.specs.Outputs.{outputs_text}
use Rattle.ready_core.specs.Cores.{CoreState, flow_of}
use Rattle.ready_core.specs.Flows.{outputs_in}
use Rattle.workflow_cli.specs.declared.asking.Report.{Report}
use Rattle.workflow_cli.specs.declared.asking.Report.TheVariants as report

-- an output that is an Int
abbrev pub value_words : Value → List ℕ
value_words (v.Int n) = codes " last " ++ signed_decimal n
value_words w = []

-- the one output
abbrev pub last_words : List Bind → List ℕ
last_words [] = []
last_words (b ∷ []) = value_words b.value
last_words (b ∷ c ∷ bs) = []

-- `calls N jobs J last V` and a newline, where V is the one output
abbrev pub load_line : ℕ → ℕ → List Bind → List ℕ
load_line number jobs outputs = codes "calls " ++ decimal number ++ codes " jobs " ++ decimal jobs ++ last_words outputs ++ codes "\n"

-- the outputs of the workflow of that name as one JSON object and a newline, or the line of a load
abbrev pub report_line : Report → List ℕ → CoreState → List ℕ
report_line report.Outputs name c = outputs_text name (outputs_in c.origin.checked (flow_of c)) ++ codes "\n"
report_line (report.Load number) name c = load_line number (length c.journal) (outputs_in c.origin.checked (flow_of c))
