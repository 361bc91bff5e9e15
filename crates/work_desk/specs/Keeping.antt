-- What becomes of a keeper.
use Rattle.std.specs.Prelude.{◌≡◌, ℕ, Bool, false, ◌≤◌, ◌⊎◌, List, Contains, Option, Some, None, IsSome, is_some}
use Rattle.wdl_base.specs.declared.answer.Answer.{Answer}
use Rattle.wdl_base.specs.declared.entry.Entry.{Entry}
use Rattle.wdl_base.specs.declared.request.Request.{Request}
use Rattle.wdl_base.specs.PlaceReading.{IsPlace}
use Rattle.wdl_port.specs.Causes.{Rose}
use Rattle.wdl_port.specs.Rows.{AreRows, kept_row}
use Rattle.ready_core.specs.Cores.{CoreState, is_taken, requests}
use Rattle.ready_core.specs.Rows.{TakenJob}
use Rattle.work_desk.specs.declared.stop.Stop.{Stop}
use Rattle.work_desk.specs.declared.stop.Stop.TheVariants.{Keep}

-- each name in the entries' places is an identifier, as the type of places keeps it
unfoldable pub ArePlaced : List Entry → Type 0
ArePlaced entries = (e : Entry) → Contains entries e → IsPlace e.request.place

-- what contracts see of a keeper: its rows where they are told, the path on which it was started, and its count of faults
pub record KeeperView : Type 0 where
  pub kept : Option (List Entry)
  pub path : Option (List ℕ)
  pub faults : ℕ

abbrev pub keeper_view : Option (List Entry) → Option (List ℕ) → ℕ → KeeperView
keeper_view kept path faults = record { kept = kept; path = path; faults = faults }

-- what lapses in a keeper, if there is one
abbrev pub lapses_in : {K : Type 0} → (K → Entry → Bool) → Option K → Entry → Bool
lapses_in lapses None row = false
lapses_in lapses (Some k) row = lapses k row

-- the keeper was started, and these are its rows where they are told
pub record IsReady (rows : List Entry) (k : KeeperView) : Type 0 where
  pub started : IsSome k.path
  pub told : AreRows k.kept rows

-- the row has the request of a taken job, and an answer that the launcher gives for it
abbrev pub IsNew : (Request → Answer → Type 0) → List TakenJob → Entry → Type 0
IsNew gives taken row = Contains (requests taken) row.request × gives row.request row.answer

-- each row stood there before, or is new
unfoldable pub AreFrom : (Request → Answer → Type 0) → List TakenJob → List Entry → List Entry → Type 0
AreFrom gives taken before after = (row : Entry) → Contains after row → Contains before row ⊎ IsNew gives taken row

-- A row whose place and attempt were not taken still stands there. (By AreFrom no other one came.)
unfoldable pub AreLeft : List TakenJob → List Entry → List Entry → Type 0
AreLeft taken before after = (row : Entry) → Contains before row → is_taken taken row.request ≡ false → Contains after row

-- each entry of the journal, read with the source Kept, is a row
unfoldable pub AreKept : List Entry → List Entry → Type 0
AreKept journal after = (e : Entry) → Contains journal e → Contains after (kept_row e)

-- told rows before and after, where `whole` says that the journal is among them
pub record RowsWent (gives : Request → Answer → Type 0) (c : CoreState) (whole : Type 0) (before after : List Entry) : Type 0 where
  pub from : AreFrom gives c.taken before after
  pub left : AreLeft c.taken before after
  pub journal : whole → AreKept c.journal after

-- A keeper before and after a run: the stop is Keep only where its count rose. The entries of the journal are among its rows at
-- the end where the run did not stop, or the count did not rise.
pub record Went (gives : Request → Answer → Type 0) (c : CoreState) (stop : Option Stop) (k l : KeeperView) : Type 0 where
  pub path : l.path ≡ k.path
  pub faults : k.faults ≤ l.faults
  pub keep : stop ≡ Some Keep → Rose k.faults l.faults
  pub told : is_some l.kept ≡ is_some k.kept
  pub rows : (before after : List Entry) → k.kept ≡ Some before → l.kept ≡ Some after → RowsWent gives c ((stop ≡ None) ⊎ ¬ (Rose k.faults l.faults)) before after

-- A keeper all along a run of rows that were its own.
pub record Holding (gives : Request → Answer → Type 0) (rows : List Entry) (k : KeeperView) (c : CoreState) (stop : Option Stop) (l : KeeperView) : Type 0 where
  pub ready : IsReady rows k
  pub placed : ArePlaced rows
  pub settled : ArePlaced c.journal
  pub went : Went gives c stop k l

-- what holds of a keeper before holds of it after, wherever it began
abbrev pub Holds : (Request → Answer → Type 0) → List Entry → CoreState → Option Stop → KeeperView → CoreState → Option Stop → KeeperView → Type 0
Holds gives rows c s k d t l = (begin : KeeperView) → Holding gives rows begin c s k → Holding gives rows begin d t l

-- the row stands there, where the rows are told
abbrev pub IsThere : Entry → KeeperView → Type 0
IsThere row k = (told : List Entry) → k.kept ≡ Some told → Contains told row

-- the same, of any keeper that is not called and has this row
abbrev pub HoldsBeside : (Request → Answer → Type 0) → List Entry → Entry → CoreState → Option Stop → CoreState → Option Stop → Type 0
HoldsBeside gives rows row c s d t = (k : KeeperView) → IsThere row k → Holds gives rows c s k d t k
