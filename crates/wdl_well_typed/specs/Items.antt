-- The items of scatters.
use Rattle.wdl_typed.specs.declared.flow.Statement.{Statement, fold-Statement}
use Rattle.wdl_typed.specs.Bodies.{Differing, items_step}

-- whether the items of scatters in a statement differ from these names and from the items round them
abbrev pub item_differs : Statement → Differing
item_differs = fold-Statement Differing items_step
