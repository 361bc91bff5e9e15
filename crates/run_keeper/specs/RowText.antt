-- The text of a row of a journal: one JSON object without blanks, its members in byte order.
use Rattle.std.specs.Prelude.{◌≡◌, ◌⊎◌, ℕ, Bool, true, ◌&&◌, ◌==◌, List, length, map, codes, if◌then◌else◌}
use Rattle.hex.specs.Hex.{encode_lower}
use Rattle.serde_json.specs.Data.{Data, null, boolean, number, unsigned, string, array, object, no_items, item, no_members, member}
use Rattle.serde_json.specs.View.{items_of}
use Rattle.serde_json.specs.Written.{compact_text}
use Rattle.wdl_base.specs.Places.{place_text}
use Rattle.wdl_base.specs.declared.body.Body.{Body}
use Rattle.wdl_base.specs.declared.body.Body.TheVariants.{Bytes, Long}
use Rattle.wdl_base.specs.declared.body.Laid.{Laid}
use Rattle.wdl_base.specs.declared.body.Seen.{Seen}
use Rattle.wdl_base.specs.declared.entry.Entry.{Entry}
use Rattle.wdl_base.specs.declared.request.Attribute.{Attribute}
use Rattle.wdl_base.specs.declared.request.Request.{Request}

-- lower-case hexadecimal
abbrev pub hex_data : List ℕ → Data
hex_data bytes = string (encode_lower bytes)

abbrev pub body_data : Body → Data
body_data (Bytes bytes) = hex_data bytes
body_data Long = null

-- a name and its body
abbrev pub pair_data : List ℕ → Data → Data
pair_data name body = array (item (string name) (item body no_items))

abbrev pub seen_data : Seen → Data
seen_data file = pair_data file.name (body_data file.body)

abbrev pub laid_data : Laid → Data
laid_data file = pair_data file.name (hex_data file.body)

-- a name and its value
abbrev pub attribute_data : Attribute → Data
attribute_data a = pair_data a.name (string a.value)

abbrev pub list_data : {T : Type 0} → (T → Data) → List T → Data
list_data f xs = array (items_of (map f xs))

-- the request reads, and has neither attributes nor inputs
abbrev pub is_plain : Request → Bool
is_plain r = r.reads && (length r.attributes == 0) && (length r.inputs == 0)

-- a request of which version 1 tells all: a plain one of attempt 0 without laid files
abbrev pub is_first : Request → Bool
is_first r = (r.attempt == 0) && (length r.files == 0) && is_plain r

-- version 3
abbrev pub full_data : Entry → Data
full_data e = object (
    member (codes "attempt") (number (unsigned e.request.attempt)) (
    member (codes "attributes") (list_data attribute_data e.request.attributes) (
    member (codes "command") (string e.request.command) (
    member (codes "dir") (string e.request.dir) (
    member (codes "err") (body_data e.answer.err) (
    member (codes "files") (list_data seen_data e.answer.files) (
    member (codes "inputs") (list_data string e.request.inputs) (
    member (codes "laid") (list_data laid_data e.request.files) (
    member (codes "out") (body_data e.answer.out) (
    member (codes "place") (string (place_text e.request.place)) (
    member (codes "reads") (boolean e.request.reads) (
    member (codes "status") (number (unsigned e.answer.status)) (
    member (codes "v") (number (unsigned 3)) no_members)))))))))))))

-- version 2, of a plain request
abbrev pub plain_data : Entry → Data
plain_data e = object (
    member (codes "attempt") (number (unsigned e.request.attempt)) (
    member (codes "command") (string e.request.command) (
    member (codes "dir") (string e.request.dir) (
    member (codes "err") (body_data e.answer.err) (
    member (codes "files") (list_data seen_data e.answer.files) (
    member (codes "laid") (list_data laid_data e.request.files) (
    member (codes "out") (body_data e.answer.out) (
    member (codes "place") (string (place_text e.request.place)) (
    member (codes "status") (number (unsigned e.answer.status)) (
    member (codes "v") (number (unsigned 2)) no_members))))))))))

-- version 1, which has neither the attempt nor the laid files
abbrev pub old_data : Entry → Data
old_data e = object (
    member (codes "command") (string e.request.command) (
    member (codes "dir") (string e.request.dir) (
    member (codes "err") (body_data e.answer.err) (
    member (codes "files") (list_data seen_data e.answer.files) (
    member (codes "out") (body_data e.answer.out) (
    member (codes "place") (string (place_text e.request.place)) (
    member (codes "status") (number (unsigned e.answer.status)) (
    member (codes "v") (number (unsigned 1)) no_members))))))))

-- the row that is written: version 2 where it tells all of the request, else version 3
abbrev pub row_data : Entry → Data
row_data e = if is_plain e.request then plain_data e else full_data e

unfoldable pub row_text : Entry → List ℕ
row_text e = compact_text (row_data e)

unfoldable pub old_text : Entry → List ℕ
old_text e = compact_text (old_data e)

-- the text in version 1, where it tells all of the request
pub record IsOldRow (s : List ℕ) (e : Entry) : Type 0 where
  pub text : s ≡ old_text e
  pub first : is_first e.request ≡ true

-- a row's text of the entry, as it is written or in version 1
abbrev pub IsRowOf : List ℕ → Entry → Type 0
IsRowOf s e = (s ≡ row_text e) ⊎ IsOldRow s e
