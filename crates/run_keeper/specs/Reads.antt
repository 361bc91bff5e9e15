-- How a part of a row is read: where the data is that of a value, the value is answered.
use Rattle.std.specs.Prelude.{◌≡◌, ◌⊎◌, ℕ, List, Result, Ok, Err}
use Rattle.serde_json.specs.Data.{Data}
use Rattle.wdl_base.specs.declared.entry.Entry.{Entry}
use Rattle.run_keeper.specs.RowText.{IsRowOf}
use Rattle.run_keeper.specs.Entries.{IsEntry}
use Rattle.run_keeper.specs.declared.error.RowFault.{RowFault}
use Rattle.run_keeper.specs.declared.error.RowFault.TheVariants.{NoMemory}

-- that value is answered, if memory is found
abbrev pub Gives : {T : Type 0} → Result T RowFault → T → Type 0
Gives r x = (r ≡ Ok x) ⊎ (r ≡ Err NoMemory)

abbrev pub Recovers : {T : Type 0} → (T → Data) → (T → Type 0) → Data → Result T RowFault → Type 0
Recovers {T} data_of IsT d r = (x : T) → IsT x → d ≡ data_of x → Gives r x

-- no entry has this row's text
abbrev pub IsNoRow : List ℕ → Type 0
IsNoRow s = (e : Entry) → IsEntry e → IsRowOf s e → ⊥
