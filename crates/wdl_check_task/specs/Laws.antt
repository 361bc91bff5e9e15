-- What is true of every task that is typed.
use Rattle.std.specs.Prelude.{◌≡◌, ◌≤◌, ◌+◌, true, Some, length}
use Rattle.wdl_ast.specs.declared.task.TaskSection.{TaskSection}
use Rattle.wdl_ast.specs.DocumentWords.{task_words}
use Rattle.wdl_typed.specs.declared.task.TaskDef.{TaskDef}
use Rattle.wdl_typed.specs.Declarations as well
use Rattle.wdl_check_decls.specs.Expressions.{World}
use Rattle.wdl_check_decls.specs.Laws.{IsKnown}
use Rattle.wdl_check_task.specs.Tasks.{task_typed}

-- Where each name of the document stands for a struct of the library, the task is well typed.
abbrev pub TaskTypes : Type 0
TaskTypes = (w : World) (t : TaskSection) (d : TaskDef) → IsKnown w → (task_typed w t).typed ≡ Some d → well.task_typed w.structs d ≡ true

-- The command has fewer parts than the task has tokens.
abbrev pub TaskCounts : Type 0
TaskCounts = (w : World) (t : TaskSection) (d : TaskDef) → (task_typed w t).typed ≡ Some d → 1 + length d.command ≤ length (task_words t)
