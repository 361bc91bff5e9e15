-- The workflows that main reaches by calls.
use Rattle.std.specs.Prelude.{ℕ, zero, suc, ◌+◌, Bool, true, false, List, [], ◌∷◌, Option, Some, None, if◌then◌else◌, map, slice_get}
use Rattle.wdl_typed.specs.declared.flow.FlowDef.{FlowDef}
use Rattle.wdl_typed.specs.declared.flow.Statement.{Statement, Statement-F, fold-Statement}
use Rattle.wdl_typed.specs.declared.flow.Statement.TheOpen as layer
use Rattle.wdl_typed.specs.declared.flow.Target.{Target}
use Rattle.wdl_typed.specs.declared.flow.Target.TheVariants as target

-- a mark for each workflow
abbrev pub Marks : Type 0
Marks = List Bool

abbrev pub mark : ℕ → Marks → Marks
mark k [] = []
mark zero (b ∷ bs) = true ∷ bs
mark (suc k) (b ∷ bs) = b ∷ mark k bs

abbrev pub or_false : Option Bool → Bool
or_false None = false
or_false (Some b) = b

abbrev pub is_marked : Marks → ℕ → Bool
is_marked ms k = or_false (slice_get ms k)

abbrev pub Marking : Type 0
Marking = Marks → Marks

abbrev pub mark_target : Target → Marking
mark_target (target.Task k) ms = ms
mark_target (target.Flow k) ms = mark k ms

abbrev pub mark_all : List Marking → Marking
mark_all [] ms = ms
mark_all (f ∷ fs) ms = mark_all fs (f ms)

abbrev pub marking_step : Statement-F Marking → Marking
marking_step (layer.Decl d) ms = ms
marking_step (layer.Call c) ms = mark_target c.target ms
marking_step (layer.Scatter s) ms = mark_all s.body ms
marking_step (layer.If i) ms = mark_all i.body ms

-- with the workflows that a statement calls
abbrev pub mark_called : Statement → Marking
mark_called = fold-Statement Marking marking_step

abbrev pub mark_body : List Statement → Marking
mark_body ss = mark_all (map mark_called ss)

abbrev pub swept_flow : FlowDef → ℕ → Marking
swept_flow f k ms = if is_marked ms k then mark_body f.body ms else ms

-- with what the workflows from this number on call, where they are marked
abbrev pub sweep : List FlowDef → ℕ → Marking
sweep [] k ms = ms
sweep (f ∷ fs) k ms = sweep fs (k + 1) (swept_flow f k ms)

unfoldable pub swept : List FlowDef → ℕ → Marking
swept flows zero ms = ms
swept flows (suc n) ms = sweep flows 0 (swept flows n ms)

abbrev pub no_marks : List FlowDef → Marks
no_marks flows = map (λ (f : FlowDef). false) flows

-- Calls form no circle, and at most 24 stand on one path.
abbrev pub reached : List FlowDef → ℕ → Marks
reached flows main = swept flows 25 (mark main (no_marks flows))
