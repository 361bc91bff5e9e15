-- The paths of the documents that a line may name.
use Rattle.std.specs.Prelude.{◌≡◌, ◌<◌, ℕ, List, length, slice_get, ⊤}
use Rattle.wdl_base.specs.declared.span.Span.{Span}
use Rattle.report_text.specs.declared.status.Status.{Status}
use Rattle.report_text.specs.declared.status.Status.TheVariants as status
use Rattle.report_text.specs.Lines.{HasPath}
use Rattle.workflow_stages.specs.declared.ended.Work.{Work}
use Rattle.workflow_stages.specs.declared.ended.Work.TheVariants as work

-- each span of the line's status lies in a document with a path
abbrev pub HasPaths : Work → Type 0
HasPaths (work.Text text) = ⊤
HasPaths (work.Stop stop) = HasPath stop.status stop.paths

-- the paths of the documents, by their numbers, of which this number has one
pub record ArePaths (all : List (List ℕ)) (number : ℕ) (paths : List (List ℕ)) : Type 0 where
  pub long : number < length paths
  pub same : (k : ℕ) → k < length all → slice_get paths k ≡ slice_get all k

-- the stop of a rule that is broken at a span of the documents with these paths; or memory ended
abbrev pub IsOutsideStop : ℕ → Span → List (List ℕ) → Status → List (List ℕ) → Type 0
IsOutsideStop rule span all (status.NotInSubset n at) paths = (n ≡ rule) × (at ≡ span) × ArePaths all span.doc paths
IsOutsideStop rule span all status.NoMemory paths = ⊤
IsOutsideStop rule span all s paths = ⊥
