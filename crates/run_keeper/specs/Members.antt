-- The members of a row, and what stands for a member that a version lacks.
use Rattle.std.specs.Prelude.{◌≡◌, ℕ, true, List, [], Option, Some, None, codes}
use Rattle.serde_json.specs.Data.{Data, boolean, number, unsigned, string}
use Rattle.serde_json.specs.Find.{get}
use Rattle.wdl_base.specs.Places.{place_text}
use Rattle.wdl_base.specs.declared.answer.Answer.{Answer}
use Rattle.wdl_base.specs.declared.request.Request.{Request}
use Rattle.run_keeper.specs.RowText.{body_data, list_data, seen_data, laid_data, attribute_data}

-- the member is that of x, or is not there and x is what stands for it
abbrev pub Shows : {T : Type 0} → (T → Data) → T → Option Data → T → Type 0
Shows data_of missing (Some d) x = d ≡ data_of x
Shows data_of missing None x = x ≡ missing

abbrev pub number_data : ℕ → Data
number_data n = number (unsigned n)

pub record HasAnswer (d : Data) (a : Answer) : Type 0 where
  pub status : get (codes "status") d ≡ Some (number (unsigned a.status))
  pub out : get (codes "out") d ≡ Some (body_data a.out)
  pub err : get (codes "err") d ≡ Some (body_data a.err)
  pub files : get (codes "files") d ≡ Some (list_data seen_data a.files)

pub record HasRequest (d : Data) (r : Request) : Type 0 where
  pub place : get (codes "place") d ≡ Some (string (place_text r.place))
  pub dir : get (codes "dir") d ≡ Some (string r.dir)
  pub command : get (codes "command") d ≡ Some (string r.command)
  pub attempt : Shows number_data 0 (get (codes "attempt") d) r.attempt
  pub laid : Shows (list_data laid_data) [] (get (codes "laid") d) r.files
  pub attributes : Shows (list_data attribute_data) [] (get (codes "attributes") d) r.attributes
  pub inputs : Shows (list_data string) [] (get (codes "inputs") d) r.inputs
  pub reads : Shows boolean true (get (codes "reads") d) r.reads
