-- Which answer comes back where one was not settled.
use Rattle.std.specs.Prelude.{◌≡◌, List, Contains}
use Rattle.wdl_base.specs.declared.entry.Entry.{Entry}
use Rattle.ready_core.specs.declared.history.SettleFault.{SettleFault}
use Rattle.ready_core.specs.declared.history.SettleFault.TheVariants.{Stranger, NoMemory}
use Rattle.ready_core.specs.Cores.{CoreState, requests}
use Rattle.ready_core.specs.Rows.{TakenJob}

-- The answer is handed back: as a stranger exactly where no job of its request is out.
abbrev pub HandsBack : SettleFault → List TakenJob → Entry → Type 0
HandsBack (Stranger a) out e = (a ≡ e) × ¬ (Contains (requests out) e.request)
HandsBack (NoMemory a) out e = (a ≡ e) × Contains (requests out) e.request

-- A core that settled nothing: as it was, but for its plan where memory was wanting.
abbrev pub IsUnsettled : SettleFault → CoreState → CoreState → Type 0
IsUnsettled (Stranger a) s t = t ≡ s
IsUnsettled (NoMemory a) s t = t ≡ record s { plan = t.plan }
