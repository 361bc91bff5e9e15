-- Data that is written in one way, and how a row is built of its parts.
use Rattle.std.specs.Prelude.{◌≡◌, false, codes}
use Rattle.serde_json.specs.Data.{Data, boolean, number, unsigned, string, Members, put}
use Rattle.serde_json.specs.Written.{compact_text, has_float}
use Rattle.wdl_base.specs.Places.{place_text}
use Rattle.wdl_base.specs.Plain.{has_nul}
use Rattle.wdl_base.specs.declared.answer.Answer.{Answer}
use Rattle.wdl_base.specs.declared.request.Request.{Request}
use Rattle.run_keeper.specs.RowText.{body_data, list_data, seen_data, laid_data, attribute_data}

pub record IsWritten (d : Data) : Type 0 where
  pub exact : has_float d ≡ false
  pub no_nul : has_nul (compact_text d) ≡ false

abbrev pub with_request : Request → Members → Members
with_request r ms =
    put (codes "place") (string (place_text r.place)) (
    put (codes "dir") (string r.dir) (
    put (codes "command") (string r.command) ms))

abbrev pub with_answer : Answer → Members → Members
with_answer a ms =
    put (codes "status") (number (unsigned a.status)) (
    put (codes "out") (body_data a.out) (
    put (codes "files") (list_data seen_data a.files) (
    put (codes "err") (body_data a.err) ms)))

-- what versions 2 and 3 have besides
abbrev pub with_attempt : Request → Members → Members
with_attempt r ms = put (codes "laid") (list_data laid_data r.files) (put (codes "attempt") (number (unsigned r.attempt)) ms)

-- what version 3 has besides
abbrev pub with_surroundings : Request → Members → Members
with_surroundings r ms =
    put (codes "reads") (boolean r.reads) (
    put (codes "inputs") (list_data string r.inputs) (
    put (codes "attributes") (list_data attribute_data r.attributes) ms))
