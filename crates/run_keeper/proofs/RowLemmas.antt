-- The data of rows.
use Rattle.std.proofs.Common.{◌≡◌, ℕ, zero, suc, ◌^◌, ◌<◌, ◌==◌, Bool, true, false, cond, List, [], ◌∷◌, length, codes, Some, None, Result, inl, inr, refl, sym, ap, ◌∙◌, arith}
use Rattle.std.specs.Prelude.{IsErrOf}
use Rattle.hex.specs.Hex.{encode_lower}
use Rattle.serde_json.specs.Data.{Data, number, unsigned, string, object, no_members, put}
use Rattle.serde_json.specs.Find.{get}
use Rattle.serde_json.specs.Read.{read}
use Rattle.serde_json.specs.Written.{compact_text}
use Rattle.wdl_base.specs.Places.{place_text}
use Rattle.wdl_base.specs.declared.body.Body.{Body}
use Rattle.wdl_base.specs.declared.body.Body.TheVariants.{Bytes, Long}
use Rattle.wdl_base.specs.declared.body.Laid.{Laid}
use Rattle.wdl_base.specs.declared.body.Seen.{Seen}
use Rattle.wdl_base.specs.declared.entry.Entry.{Entry}
use Rattle.wdl_base.specs.declared.request.Attribute.{Attribute}
use Rattle.wdl_base.specs.declared.request.Request.{Request}
use Rattle.run_keeper.specs.RowText.{IsRowOf, IsOldRow, hex_data, body_data, pair_data, seen_data, laid_data, attribute_data, list_data, is_plain, is_first, full_data, plain_data, row_data, old_data, row_text, old_text}
use Rattle.run_keeper.specs.Written.{IsWritten, with_request, with_answer, with_attempt, with_surroundings}
use Rattle.wdl_port.specs.Rows.{kept_row}
use Rattle.run_keeper.specs.Entries.{IsEntry}
use Rattle.run_keeper.specs.Reads.{Gives, IsNoRow}
use Rattle.run_keeper.specs.declared.error.RowFault.{RowFault}
use Rattle.run_keeper.specs.declared.error.RowFault.TheVariants.{NotARow}
use Rattle.run_keeper.specs.Members.{HasAnswer, HasRequest}
use Rattle.run_keeper.proofs.TextLemmas.{IsRead, string_written, number_written, boolean_written, null_written, list_written, none_written, member_written, object_written, string_read, number_read, boolean_read, null_read, list_read, none_read, member_read, object_read, read_back}
use Rattle.json_laws.proofs.Texts.{text_nul}

-- ---- the two forms of a row that is written

pub by_plain : (P : Data → Type 0) (e : Entry) → (is_plain e.request ≡ true → P (plain_data e)) → (is_plain e.request ≡ false → P (full_data e)) → P (row_data e)
by_plain P e plain full = by_case (is_plain e.request) refl where
  by_case : (b : Bool) → is_plain e.request ≡ b → P (cond b (plain_data e) (full_data e))
  by_case true h = plain h
  by_case false h = full h

pub plain_members : (e : Entry) → is_plain e.request ≡ true
    → object (put (codes "v") (number (unsigned 2)) (with_attempt e.request (with_answer e.answer (with_request e.request no_members)))) ≡ row_data e
plain_members e h = ap (λ b. cond b (plain_data e) (full_data e)) (sym h)

pub full_members : (e : Entry) → is_plain e.request ≡ false
    → object (put (codes "v") (number (unsigned 3)) (with_surroundings e.request (with_attempt e.request (with_answer e.answer (with_request e.request no_members))))) ≡ row_data e
full_members e h = ap (λ b. cond b (plain_data e) (full_data e)) (sym h)

-- ---- what a plain request lacks

pub record IsPlain (r : Request) : Type 0 where
  pub reads : r.reads ≡ true
  pub attributes : r.attributes ≡ []
  pub inputs : r.inputs ≡ []

none_of : {T : Type 0} (xs : List T) → (length xs == 0) ≡ true → xs ≡ []
none_of [] h = refl
none_of (x ∷ xs) h = absurd (grind (arith, h))

plain_parts : (r : Request) → is_plain r ≡ true → IsPlain r
plain_parts r h = record {
  reads = grind (arith, h);
  attributes = none_of r.attributes (grind (arith, h));
  inputs = none_of r.inputs (grind (arith, h));
}

pub old_members : (e : Entry) → object (put (codes "v") (number (unsigned 1)) (with_answer e.answer (with_request e.request no_members))) ≡ old_data e
old_members e = refl

body_written : (b : Body) → IsWritten (body_data b)
body_written (Bytes bytes) = string_written (encode_lower bytes)
body_written Long = null_written

pair_written : (name : List ℕ) (d : Data) → IsWritten d → IsWritten (pair_data name d)
pair_written name d w = record { exact = rw w.exact refl; no_nul = text_nul (pair_data name d) }

seen_written : (file : Seen) → IsWritten (seen_data file)
seen_written file = pair_written file.name (body_data file.body) (body_written file.body)

laid_written : (file : Laid) → IsWritten (laid_data file)
laid_written file = pair_written file.name (hex_data file.body) (string_written (encode_lower file.body))

attribute_written : (a : Attribute) → IsWritten (attribute_data a)
attribute_written a = pair_written a.name (string a.value) (string_written a.value)

plain_written : (e : Entry) → IsWritten (plain_data e)
plain_written e = object_written (
    member_written (codes "attempt") (number_written e.request.attempt) (
    member_written (codes "command") (string_written e.request.command) (
    member_written (codes "dir") (string_written e.request.dir) (
    member_written (codes "err") (body_written e.answer.err) (
    member_written (codes "files") (list_written seen_data seen_written e.answer.files) (
    member_written (codes "laid") (list_written laid_data laid_written e.request.files) (
    member_written (codes "out") (body_written e.answer.out) (
    member_written (codes "place") (string_written (place_text e.request.place)) (
    member_written (codes "status") (number_written e.answer.status) (
    member_written (codes "v") (number_written 2) none_written))))))))))

full_written : (e : Entry) → IsWritten (full_data e)
full_written e = object_written (
    member_written (codes "attempt") (number_written e.request.attempt) (
    member_written (codes "attributes") (list_written attribute_data attribute_written e.request.attributes) (
    member_written (codes "command") (string_written e.request.command) (
    member_written (codes "dir") (string_written e.request.dir) (
    member_written (codes "err") (body_written e.answer.err) (
    member_written (codes "files") (list_written seen_data seen_written e.answer.files) (
    member_written (codes "inputs") (list_written string string_written e.request.inputs) (
    member_written (codes "laid") (list_written laid_data laid_written e.request.files) (
    member_written (codes "out") (body_written e.answer.out) (
    member_written (codes "place") (string_written (place_text e.request.place)) (
    member_written (codes "reads") (boolean_written e.request.reads) (
    member_written (codes "status") (number_written e.answer.status) (
    member_written (codes "v") (number_written 3) none_written)))))))))))))

pub new_written : (e : Entry) → IsWritten (row_data e)
new_written e = by_plain IsWritten e (λ h. plain_written e) (λ h. full_written e)

pub old_written : (e : Entry) → IsWritten (old_data e)
old_written e = object_written (
    member_written (codes "command") (string_written e.request.command) (
    member_written (codes "dir") (string_written e.request.dir) (
    member_written (codes "err") (body_written e.answer.err) (
    member_written (codes "files") (list_written seen_data seen_written e.answer.files) (
    member_written (codes "out") (body_written e.answer.out) (
    member_written (codes "place") (string_written (place_text e.request.place)) (
    member_written (codes "status") (number_written e.answer.status) (
    member_written (codes "v") (number_written 1) none_written))))))))

body_read : (n : ℕ) (b : Body) → IsRead n (body_data b)
body_read n (Bytes bytes) = string_read n (encode_lower bytes)
body_read n Long = null_read n

pair_read : (name : List ℕ) (d : Data) → IsRead 0 d → IsRead 1 (pair_data name d)
pair_read name d r = record { numbers = (tt, (r.numbers, tt)); same = rw r.same refl; shallow = let below = r.shallow in omega (arith, below) }

seen_read : (file : Seen) → IsRead 1 (seen_data file)
seen_read file = pair_read file.name (body_data file.body) (body_read 0 file.body)

laid_read : (file : Laid) → IsRead 1 (laid_data file)
laid_read file = pair_read file.name (hex_data file.body) (string_read 0 (encode_lower file.body))

attribute_read : (a : Attribute) → IsRead 1 (attribute_data a)
attribute_read a = pair_read a.name (string a.value) (string_read 0 a.value)

plain_read : (e : Entry) → e.request.attempt < 2 ^ 64 → e.answer.status < 2 ^ 64 → read (compact_text (plain_data e)) ≡ Some (plain_data e)
plain_read e a s = read_back 3 (plain_data e) (omega arith) (object_read (
    member_read (codes "attempt") (number_read 2 e.request.attempt a) (
    member_read (codes "command") (string_read 2 e.request.command) (
    member_read (codes "dir") (string_read 2 e.request.dir) (
    member_read (codes "err") (body_read 2 e.answer.err) (
    member_read (codes "files") (list_read seen_data 1 seen_read e.answer.files) (
    member_read (codes "laid") (list_read laid_data 1 laid_read e.request.files) (
    member_read (codes "out") (body_read 2 e.answer.out) (
    member_read (codes "place") (string_read 2 (place_text e.request.place)) (
    member_read (codes "status") (number_read 2 e.answer.status s) (
    member_read (codes "v") (number_read 2 2 (omega arith)) (none_read 2))))))))))) refl)

full_read : (e : Entry) → e.request.attempt < 2 ^ 64 → e.answer.status < 2 ^ 64 → read (compact_text (full_data e)) ≡ Some (full_data e)
full_read e a s = read_back 3 (full_data e) (omega arith) (object_read (
    member_read (codes "attempt") (number_read 2 e.request.attempt a) (
    member_read (codes "attributes") (list_read attribute_data 1 attribute_read e.request.attributes) (
    member_read (codes "command") (string_read 2 e.request.command) (
    member_read (codes "dir") (string_read 2 e.request.dir) (
    member_read (codes "err") (body_read 2 e.answer.err) (
    member_read (codes "files") (list_read seen_data 1 seen_read e.answer.files) (
    member_read (codes "inputs") (list_read string 1 (string_read 1) e.request.inputs) (
    member_read (codes "laid") (list_read laid_data 1 laid_read e.request.files) (
    member_read (codes "out") (body_read 2 e.answer.out) (
    member_read (codes "place") (string_read 2 (place_text e.request.place)) (
    member_read (codes "reads") (boolean_read 2 e.request.reads) (
    member_read (codes "status") (number_read 2 e.answer.status s) (
    member_read (codes "v") (number_read 2 3 (omega arith)) (none_read 2)))))))))))))) refl)

new_read : (e : Entry) → e.request.attempt < 2 ^ 64 → e.answer.status < 2 ^ 64 → read (compact_text (row_data e)) ≡ Some (row_data e)
new_read e a s = by_plain (λ d. read (compact_text d) ≡ Some d) e (λ h. plain_read e a s) (λ h. full_read e a s)

pub old_read : (e : Entry) → e.answer.status < 2 ^ 64 → read (compact_text (old_data e)) ≡ Some (old_data e)
old_read e s = read_back 3 (old_data e) (omega arith) (object_read (
    member_read (codes "command") (string_read 2 e.request.command) (
    member_read (codes "dir") (string_read 2 e.request.dir) (
    member_read (codes "err") (body_read 2 e.answer.err) (
    member_read (codes "files") (list_read seen_data 1 seen_read e.answer.files) (
    member_read (codes "out") (body_read 2 e.answer.out) (
    member_read (codes "place") (string_read 2 (place_text e.request.place)) (
    member_read (codes "status") (number_read 2 e.answer.status s) (
    member_read (codes "v") (number_read 2 1 (omega arith)) (none_read 2))))))))) refl)

-- ---- the members of a row

pub row_answer : (e : Entry) → HasAnswer (row_data e) e.answer
row_answer e = by_plain (λ d. HasAnswer d e.answer) e
    (λ h. record { status = refl; out = refl; err = refl; files = refl })
    (λ h. record { status = refl; out = refl; err = refl; files = refl })

pub row_request : (e : Entry) → HasRequest (row_data e) e.request
row_request e = by_plain (λ d. HasRequest d e.request) e
    (λ h. let p = plain_parts e.request h in record {
      place = refl;
      dir = refl;
      command = refl;
      attempt = refl;
      laid = refl;
      attributes = p.attributes;
      inputs = p.inputs;
      reads = p.reads;
    })
    (λ h. record { place = refl; dir = refl; command = refl; attempt = refl; laid = refl; attributes = refl; inputs = refl; reads = refl })

pub old_answer : (e : Entry) → HasAnswer (old_data e) e.answer
old_answer e = record { status = refl; out = refl; err = refl; files = refl }

pub old_request : (e : Entry) → is_first e.request ≡ true → HasRequest (old_data e) e.request
old_request e h =
    let p = plain_parts e.request (grind (arith, h)) in
    record {
      place = refl;
      dir = refl;
      command = refl;
      attempt = grind (arith, h);
      laid = none_of e.request.files (grind (arith, h));
      attributes = p.attributes;
      inputs = p.inputs;
      reads = p.reads;
    }

-- ---- the source is no part of the text

pub kept_text : (e : Entry) → row_text e ≡ row_text (kept_row e)
unfolding row_text
kept_text e = refl

kept_old_text : (e : Entry) → old_text e ≡ old_text (kept_row e)
unfolding old_text
kept_old_text e = refl

pub kept_old : (s : List ℕ) (e : Entry) → IsOldRow s e → IsOldRow s (kept_row e)
kept_old s e old = record { text = old.text ∙ kept_old_text e; first = old.first }

-- ---- a row's text is read

pub new_text_read : (s : List ℕ) (e : Entry) → IsEntry e → s ≡ row_text e → read s ≡ Some (row_data e)
unfolding row_text
new_text_read s e is h =
    let a = is.request.attempt in
    let b = is.answer.status in
    ap read h ∙ new_read e (omega arith) (omega arith)

pub old_text_read : (s : List ℕ) (e : Entry) → IsEntry e → s ≡ old_text e → read s ≡ Some (old_data e)
unfolding old_text
old_text_read s e is h = let b = is.answer.status in ap read h ∙ old_read e (omega arith)

pub readable : (s : List ℕ) (e : Entry) → IsEntry e → IsRowOf s e → read s ≡ None → ⊥
readable s e is (inl text) none = let some = new_text_read s e is text in grind (arith, some, none)
readable s e is (inr old) none = let some = old_text_read s e is old.text in grind (arith, some, none)

pub no_row : (s : List ℕ) (r : Result Entry RowFault) → ((e : Entry) → IsEntry e → IsRowOf s e → Gives r (kept_row e)) → IsErrOf r NotARow → IsNoRow s
no_row s r reads refused e is row = given (reads e is row) where
  given : Gives r (kept_row e) → ⊥
  given (inl ok) = grind (arith, ok, refused)
  given (inr memory) = grind (arith, memory, refused)
