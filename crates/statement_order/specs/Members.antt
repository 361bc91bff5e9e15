-- Where a statement and an input stand.
use Rattle.wdl_base.specs.declared.span.Span.{Span}
use Rattle.wdl_typed.specs.declared.flow.Statement.{Statement, Statement-F, fold-Statement}
use Rattle.wdl_typed.specs.declared.flow.Statement.TheOpen as layer
use Rattle.wdl_typed.specs.declared.task.TInput.{TInput}

abbrev pub input_span : TInput → Span
input_span i = i.span

abbrev pub span_step : Statement-F Span → Span
span_step (layer.Decl d) = d.span
span_step (layer.Call c) = c.span
span_step (layer.Scatter s) = s.span
span_step (layer.If i) = i.span

abbrev pub statement_span : Statement → Span
statement_span = fold-Statement Span span_step
