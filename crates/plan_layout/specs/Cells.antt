-- The cells of names, where the instance at each level has its cells from a base on.
use Rattle.std.specs.Prelude.{ℕ, ◌+◌, List, get_or, map}
use Rattle.net_laws.specs.Net.{Mark, Slot}
use Rattle.plan_layout.specs.declared.layout.Need.{Need}

abbrev pub cell_at : List ℕ → Need → ℕ
cell_at bases n = get_or bases n.level 0 + n.slot

abbrev pub slot_at : List ℕ → Need → Slot
slot_at bases n = record { key = n.key; cell = cell_at bases n }

abbrev pub slots_at : List ℕ → List Need → List Slot
slots_at bases = map (slot_at bases)

abbrev pub mark_at : List ℕ → Need → Mark
mark_at bases n = record { call = n.key.first; cell = cell_at bases n }

abbrev pub marks_at : List ℕ → List Need → List Mark
marks_at bases = map (mark_at bases)
