-- How deep blocks and calls stand in one another, those of called workflows not counted.
use Rattle.std.specs.Prelude.{ℕ, zero, suc, List, [], ◌∷◌, Option, Some, None}
use Rattle.wdl_base.specs.declared.span.Span.{Span}
use Rattle.wdl_ast.specs.declared.workflow.Statement.{Statement, Statement-F, fold-Statement}
use Rattle.wdl_ast.specs.declared.workflow.Statement.TheOpen as layer
use Rattle.wdl_check_rules.specs.Spans.{joined}
use Rattle.wdl_check_types.specs.Places.{call_span}

-- where one stands that has more than so many on the way to it
abbrev pub Deep : Type 0
Deep = ℕ → Option Span

abbrev pub or_next : Option Span → Option Span → Option Span
or_next (Some s) o = Some s
or_next None o = o

abbrev pub first_deep : List Deep → Deep
first_deep [] n = None
first_deep (d ∷ ds) n = or_next (d n) (first_deep ds n)

abbrev pub block_deep : Span → List Deep → Deep
block_deep span body zero = Some span
block_deep span body (suc n) = first_deep body n

abbrev pub call_deep : Span → Deep
call_deep span zero = Some span
call_deep span (suc n) = None

abbrev pub deep_step : Statement-F Deep → Deep
deep_step (layer.Declaration d) n = None
deep_step (layer.Call c) n = call_deep (call_span c) n
deep_step (layer.Scatter s) n = block_deep (joined s.keyword s.closing) s.body n
deep_step (layer.Conditional i) n = block_deep (joined i.keyword i.closing) i.body n

abbrev pub too_deep : Statement → Deep
too_deep = fold-Statement Deep deep_step
