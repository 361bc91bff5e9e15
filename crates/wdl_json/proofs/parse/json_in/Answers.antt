use Rattle.std.proofs.Common.{sym, ◌∙◌}
use Rattle.std.proofs.lemmas.Bool.{false≢true}
use Rattle.serde_json.specs.View.{view}
use Rattle.wdl_json.proofs.Bytes.{some_json, no_json}
use Rattle.wdl_json.proofs.parse.json_in.Goals as goal

pub returns-in-Ok : goal.returns-in-Ok
returns-in-Ok c = some_json c.args.bytes.now (view c.in-Ok.json) c.in-Ok.ensures.ok.0 c.in-Ok.ensures.ok.1

pub returns-else-is_memory : goal.returns-else-is_memory
returns-else-is_memory c = no_json c.args.bytes.now (c.in-Err.ensures.err (λ memory. false≢true (sym c.if-is_memory.false ∙ c.is_memory.ensures.1 memory)))
