use Rattle.std.proofs.Common.{◌≡◌, ◌↔◌, ◌≤◌, ◌+◌, ◌-◌, ◌*◌, ◌^◌, ℕ, List, reverse, length}
use Rattle.wdl_sources.specs.Walks.{HasRead, most_documents}
use Rattle.wdl_sources.proofs.walk.read_all.Given as goal

abbrev pub invariant-walk : goal.invariant-walk
invariant-walk g l =
    HasRead (g.F.Shelf.tells l.fn.shelf) l.fn.path l.sources (reverse l.waiting.items)
    × (length l.sources ≤ most_documents)
    × (g.F.Shelf.faults l.fn.shelf ≤ g.F.Shelf.faults l.shelf)
    × ((p : List ℕ) → g.F.Shelf.tells l.shelf p ≡ g.F.Shelf.tells l.fn.shelf p)
    × ((p : List ℕ) → g.F.Shelf.refuses l.shelf p ↔ g.F.Shelf.refuses l.fn.shelf p)
    × (g.F.Shelf.faults l.shelf ≡ g.F.Shelf.faults l.fn.shelf)

abbrev pub decreases-walk : goal.decreases-walk
decreases-walk g l = (most_documents - length l.sources) * 2 ^ 64 + length l.waiting.items
