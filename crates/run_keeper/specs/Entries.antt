-- What every entry keeps by its types.
use Rattle.std.specs.Prelude.{◌≡◌, ◌<◌, ◌^◌, ℕ, true, false, List, IsUtf8, ⊤}
use Rattle.std.specs.List.{AllByRecursion}
use Rattle.hex.specs.Hex.{IsBytes}
use Rattle.wdl_base.specs.Names.{is_name}
use Rattle.wdl_base.specs.Plain.{has_nul}
use Rattle.wdl_base.specs.PlaceReading.{IsPlace}
use Rattle.wdl_base.specs.declared.answer.Answer.{Answer}
use Rattle.wdl_base.specs.declared.body.Body.{Body}
use Rattle.wdl_base.specs.declared.body.Body.TheVariants.{Bytes, Long}
use Rattle.wdl_base.specs.declared.body.Laid.{Laid}
use Rattle.wdl_base.specs.declared.body.Seen.{Seen}
use Rattle.wdl_base.specs.declared.entry.Entry.{Entry}
use Rattle.wdl_base.specs.declared.request.Attribute.{Attribute}
use Rattle.wdl_base.specs.declared.request.Request.{Request}

pub record IsText (s : List ℕ) : Type 0 where
  pub utf8 : IsUtf8 s
  pub plain : has_nul s ≡ false

abbrev pub IsBody : Body → Type 0
IsBody (Bytes bytes) = IsBytes bytes
IsBody Long = ⊤

pub record IsSeen (file : Seen) : Type 0 where
  pub name : IsText file.name
  pub body : IsBody file.body

pub record IsLaid (file : Laid) : Type 0 where
  pub name : IsText file.name
  pub body : IsText file.body
  pub bytes : IsBytes file.body

pub record IsAttribute (a : Attribute) : Type 0 where
  pub name : is_name a.name ≡ true
  pub value : IsText a.value

pub record IsRequest (r : Request) : Type 0 where
  pub place : IsPlace r.place
  pub attempt : r.attempt < 2 ^ 32
  pub dir : IsText r.dir
  pub command : IsText r.command
  pub files : AllByRecursion IsLaid r.files
  pub attributes : AllByRecursion IsAttribute r.attributes
  pub inputs : AllByRecursion IsText r.inputs

pub record IsAnswer (a : Answer) : Type 0 where
  pub status : a.status < 256
  pub out : IsBody a.out
  pub err : IsBody a.err
  pub files : AllByRecursion IsSeen a.files

pub record IsEntry (e : Entry) : Type 0 where
  pub request : IsRequest e.request
  pub answer : IsAnswer e.answer
