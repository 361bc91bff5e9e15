-- What is written for a value is read back.
use Rattle.std.proofs.Common.{◌≡◌, ℕ, ℤ, pos, negsuc, Bool, true, false, not, cond, ◌&&◌, ◌||◌, List, [], ◌∷◌, map, Option, Some, None, option_map, option_and_then, Result, Ok, Err, Ordering, Less, Equal, Greater, nat_cmp, is_eq, bytes_eq, refl, sym, ap, ◌∙◌, subst}
use Rattle.std.proofs.lemmas.Bool.{false≢true, true≢false, and_parts, and_from, not-true}
use Rattle.std.proofs.lemmas.Bool.Decides.{Decides-int_eq}
use Rattle.std.proofs.lemmas.Cmp.{nat_list_cmp_total}
use Rattle.std.proofs.lemmas.Fmt.{parse-signed_decimal}
use Rattle.std.proofs.lemmas.Map.Text.{is_eq-slice_cmp}
use Rattle.std.proofs.lemmas.Slice.Eq.{bytes_eq-Decides}
use Rattle.std.specs.Cmp.Lexicographic.{slice_cmp}
use Rattle.std.specs.Fmt.{signed_decimal}
use Rattle.std.specs.Ordering.{is_lt, match_ordering, ordering_reverse, int_eq}
use Rattle.std.specs.Str.Parse.{ParsesSigned, signed_digits_value}
use mir.Syntax.{w64}
use Rattle.serde_json.specs.Data.{Data, Members, no_members, member, put}
use Rattle.serde_json.specs.Find.{of_integer, as_i64, get_member}
use Rattle.serde_json.proofs.Views.{get_member-put, get_member-put_other}
use Rattle.wdl_base.specs.Plain.{has_nul}
use Rattle.wdl_value.specs.declared.ty.Member.{Member}
use Rattle.wdl_value.specs.declared.ty.Ty.{Ty, Ty-F, out-Ty}
use Rattle.wdl_value.specs.declared.ty.Ty.TheOpen as type
use Rattle.wdl_value.specs.declared.value.Field.{Field}
use Rattle.wdl_value.specs.declared.value.MapRow.{MapRow}
use Rattle.wdl_value.specs.declared.value.Value.{Value, Value-F, out-Value, roll-Value, roll-out-Value, map-Value, ind-Value, fold-roll-Value, fold_out-Value}
use Rattle.wdl_value.specs.declared.value.Value.TheVariants as v
use Rattle.wdl_value.specs.declared.value.Value.TheOpen as layer
use Rattle.wdl_value.specs.Bare.{bare, is_optional}
use Rattle.wdl_value.specs.Fits.{Structs, Test, is_int, int_fits, members_of, takes, takes_all, takes_list, takes_rows, takes_fields, takes_at, takes_step, fields_fit_some}
use Rattle.wdl_value.specs.Kinds.{absent_at}
use Rattle.wdl_value.specs.ValueText.{has_text_at, text_at, text_of, bool_text}
use Rattle.wdl_value.proofs.FitsLemmas.{tests, takes_out}
use Rattle.wdl_value.proofs.ValueLayers.{Known, plain, firsts, first_rows, first_fields}
use Rattle.json_values.specs.Formed.{Form, all_formed, before_rows, rows_formed, is_new, fields_formed, formed_at, form_step, form}
use Rattle.json_values.specs.Ordered.{is_before}
use Rattle.json_values.specs.Reading.{Reader, reads, item_readers, member_readers, null_read, bool_read, number_read, int_of, string_read, str_of, file_of, key_read, key_at, bool_key, int_key, is_decimal, all_read, list_read, array_read, object_read, reader_of, pair_read, rows_read, is_declared, all_declared, names_of, member_at, field_of, fields_read, struct_in}
use Rattle.json_values.specs.Writing.{Written, written, written_step, data_at, json_of, all_items, rows_put, fields_put, pair_members}
use Rattle.json_values.proofs.JsonViews.{written_text}
use Rattle.json_values.proofs.Numerals.{fits_mag, fits_word}

-- ---- decimals

-- the number that the sign and the digits of a decimal say
signed_value : (n : ℤ) → is_int n ≡ true → signed_digits_value 10 (signed_decimal n) ≡ n
signed_value n h = by_test (int_eq (signed_digits_value 10 (signed_decimal n)) n) refl
  where
    k : List ℕ
    k = signed_decimal n

    by_test : (b : Bool) → int_eq (signed_digits_value 10 k) n ≡ b → signed_digits_value 10 k ≡ n
    by_test true e = (Decides-int_eq (signed_digits_value 10 k) n).0 e
    by_test false e =
        let other : signed_digits_value 10 k ≡ n → ⊥ = λ same. false≢true (sym e ∙ (Decides-int_eq (signed_digits_value 10 k) n).1 same) in
        let none : ParsesSigned {E = ℕ} w64 10 k (Err 0) = λ numeral.
        other (ok_same (Ok (signed_digits_value 10 k)) (signed_digits_value 10 k) n refl (parse-signed_decimal w64 n k (Ok (signed_digits_value 10 k)) (fits_word n h) (fits_mag n h) refl (numeral, refl))) in
        absurd (never (Err 0) 0 n refl (parse-signed_decimal w64 n k (Err 0) (fits_word n h) (fits_mag n h) refl none))
      where
        ok_same : (r : Result ℤ ℕ) (a b : ℤ) → r ≡ Ok a → r ≡ Ok b → a ≡ b
        ok_same r a b p q = cc

        never : (r : Result ℤ ℕ) (x : ℕ) (a : ℤ) → r ≡ Err x → r ≡ Ok a → ⊥
        never r x a p q = cc

decimal_of : (n : ℤ) → is_int n ≡ true → int_key (signed_decimal n) ≡ Some (v.Int n)
decimal_of n h =
    let k = signed_decimal n in
    let value = signed_value n h in
    let own : is_decimal n k ≡ true = and_from (is_int n) (bytes_eq k k) h ((bytes_eq-Decides k k).1 refl) in
    ap (λ (z : ℤ). cond (is_decimal z k) (Some (v.Int z)) None) value ∙ ap (λ b. cond b (Some (v.Int n)) None) own

int_given : (n : ℤ) → is_int n ≡ true → option_and_then int_of (as_i64 (of_integer n)) ≡ Some (v.Int n)
unfolding is_int
int_given (pos n) h = ap (λ b. option_and_then int_of (cond b (Some (pos n)) None)) h ∙ ap (λ b. cond b (Some (v.Int (pos n))) None) h
int_given (negsuc n) h = ap (λ b. cond b (Some (v.Int (negsuc n))) None) h

str_given : (s : List ℕ) → not (has_nul s) ≡ true → str_of s ≡ Some (v.Str s)
str_given s h = ap (λ b. cond b None (Some (v.Str s))) (not-true (has_nul s) h)

file_given : (s : List ℕ) → not (has_nul s) ≡ true → file_of s ≡ Some (v.File s)
file_given s h = ap (λ b. cond b None (Some (v.File s))) (not-true (has_nul s) h)

module _ (structs : Structs) where
  -- ---- scalars, at a type without question marks

  bool_back : (b : Bool) (z : Ty-F Ty) → takes_at structs (layer.Bool b) z ≡ true → bool_read b z ≡ Some (v.Bool b)
  bool_back b type.Bool h = refl
  bool_back b z h = absurd (false≢true h)

  int_back : (n : ℤ) (z : Ty-F Ty) → int_fits n z ≡ true → number_read (of_integer n) z ≡ Some (v.Int n)
  int_back n type.Int h = int_given n h
  int_back n z h = absurd (false≢true h)

  str_back : (s : List ℕ) (z : Ty-F Ty) → takes_at structs (layer.Str s) z ≡ true → not (has_nul s) ≡ true → string_read s z ≡ Some (v.Str s)
  str_back s type.Str h f = str_given s f
  str_back s z h f = absurd (false≢true h)

  file_back : (s : List ℕ) (z : Ty-F Ty) → takes_at structs (layer.File s) z ≡ true → not (has_nul s) ≡ true → string_read s z ≡ Some (v.File s)
  file_back s type.File h f = file_given s f
  file_back s z h f = absurd (false≢true h)

  absent_back : (t : Ty) → is_optional (out-Ty t) || takes_at structs layer.Absent (out-Ty (bare t)) ≡ true → null_read t ≡ Some v.Absent
  absent_back t h = ap (λ b. cond b (Some v.Absent) None) (by_test (is_optional (out-Ty t)) (out-Ty (bare t)) h)
    where
      by_test : (b : Bool) (z : Ty-F Ty) → b || takes_at structs layer.Absent z ≡ true → b || absent_at z ≡ true
      by_test true z k = refl
      by_test false type.Absent k = refl
      by_test false z k = absurd (false≢true k)

  -- ---- keys

  bool_again : (b : Bool) → bool_key (bool_text b) ≡ Some (v.Bool b)
  bool_again true = refl
  bool_again false = refl

  key_layer : (l : Value-F Value) (z : Ty-F Ty) → takes_at structs (tests structs l) z ≡ true → has_text_at l ≡ true → formed_at (map-Value Value Form form l) ≡ true → key_at (text_at l) z ≡ Some (roll-Value l)
  key_layer (layer.Bool b) type.Bool h k f = bool_again b ∙ ap Some (sym (v.rolls-Bool b))
  key_layer (layer.Int n) type.Int h k f = decimal_of n h ∙ ap Some (sym (v.rolls-Int n))
  key_layer (layer.Str s) type.Str h k f = str_given s f ∙ ap Some (sym (v.rolls-Str s))
  key_layer (layer.File s) type.File h k f = file_given s f ∙ ap Some (sym (v.rolls-File s))
  key_layer (layer.Bool b) z h k f = absurd (false≢true h)
  key_layer (layer.Int b) z h k f = absurd (false≢true h)
  key_layer (layer.Str b) z h k f = absurd (false≢true h)
  key_layer (layer.File b) z h k f = absurd (false≢true h)
  key_layer l z h k f = absurd (false≢true k)

  with_text : (l : Value-F Value) (t : Ty) → has_text_at l ≡ true → takes_step structs (tests structs l) t ≡ takes_at structs (tests structs l) (out-Ty (bare t))
  with_text (layer.Bool b) t k = refl
  with_text (layer.Int b) t k = refl
  with_text (layer.Str b) t k = refl
  with_text (layer.File b) t k = refl
  with_text l t k = absurd (false≢true k)

  same_has : (l : Value-F Value) → has_text_at (map-Value Value Form form l) ≡ has_text_at l
  same_has (layer.Bool b) = refl
  same_has (layer.Int b) = refl
  same_has (layer.Str b) = refl
  same_has (layer.File b) = refl
  same_has (layer.List b) = refl
  same_has (layer.Pair a b) = refl
  same_has (layer.Map b) = refl
  same_has (layer.Struct a b) = refl
  same_has layer.Absent = refl

  same_text : (l : Value-F Value) → text_at (map-Value Value Form form l) ≡ text_at l
  same_text (layer.Bool b) = refl
  same_text (layer.Int b) = refl
  same_text (layer.Str b) = refl
  same_text (layer.File b) = refl
  same_text (layer.List b) = refl
  same_text (layer.Pair a b) = refl
  same_text (layer.Map b) = refl
  same_text (layer.Struct a b) = refl
  same_text layer.Absent = refl

  form_out : (x : Value) → form x ≡ form_step (map-Value Value Form form (out-Value x))
  form_out x = fold_out-Value Form form_step x

  form_text : (x : Value) → (form x).text ≡ text_of x
  form_text x = ap (λ (f : Form). f.text) (form_out x) ∙ same_text (out-Value x)

  key_back : (x : Value) (t : Ty) → takes structs x t ≡ true → (form x).has_text ≡ true → (form x).formed ≡ true → key_read (text_of x) t ≡ Some x
  key_back x t h k f =
      let has : has_text_at (out-Value x) ≡ true = sym (ap (λ (f : Form). f.has_text) (form_out x) ∙ same_has (out-Value x)) ∙ k in
      key_layer (out-Value x) (out-Ty (bare t)) (sym (takes_out structs x t ∙ with_text (out-Value x) t has) ∙ h) has (sym (ap (λ (f : Form). f.formed) (form_out x)) ∙ f)
      ∙ ap Some (roll-out-Value x)

  -- ---- what the induction says of a value

  abbrev Back : Value → Type 0
  Back x = (t : Ty) → takes structs x t ≡ true → (form x).formed ≡ true → reads structs (json_of x) t ≡ Some x

  abbrev Child : Type 0
  Child = Known Back

  all_back : (ks : List Child) (t : Ty) → takes_all structs (firsts Back ks) t ≡ true → all_formed (map form (firsts Back ks)) ≡ true → all_read (item_readers structs (all_items (map written (firsts Back ks)))) t ≡ Some (firsts Back ks)
  all_back [] t h f = refl
  all_back (k ∷ ks) t h f =
      let p = and_parts (takes structs k.0 t) (takes_all structs (firsts Back ks) t) h in
      let q = and_parts (form k.0).formed (all_formed (map form (firsts Back ks))) f in
      let later = all_read (item_readers structs (all_items (map written (firsts Back ks)))) t in
      ap (option_and_then (λ x. option_map (λ xs. x ∷ xs) later)) (k.1 t p.0 q.0) ∙ ap (option_map (λ xs. k.0 ∷ xs)) (all_back ks t p.1 q.1)

  list_back : (ks : List Child) (t : Ty) (some : Bool) → takes_list structs (firsts Back ks) t some ≡ true → all_formed (map form (firsts Back ks)) ≡ true
      → list_read (item_readers structs (all_items (map written (firsts Back ks)))) t some ≡ Some (v.List (firsts Back ks))
  list_back [] t true h f = absurd (false≢true h)
  list_back [] t false h f = refl
  list_back (k ∷ ks) t some h f = ap (option_map v.List) (all_back (k ∷ ks) t h f)

  -- ---- pairs

  pair_back : (a b : Child) (t u : Ty) → takes structs a.0 t && takes structs b.0 u ≡ true → (form a.0).formed && (form b.0).formed ≡ true
      → pair_read (member_readers structs (pair_members (json_of a.0) (json_of b.0))) t u ≡ Some (v.Pair a.0 b.0)
  pair_back a b t u h f =
      let p = and_parts (takes structs a.0 t) (takes structs b.0 u) h in
      let q = and_parts (form a.0).formed (form b.0).formed f in
      ap (λ o. option_and_then (λ x. option_map (λ y. v.Pair x y) (reads structs (json_of b.0) u)) o) (a.1 t p.0 q.0) ∙ ap (option_map (λ y. v.Pair a.0 y)) (b.1 u p.1 q.1)

  -- ---- maps

  abbrev ends_before : Members → List ℕ → Bool
  ends_before no_members k = true
  ends_before (member l e ms) k = is_before l k && ends_before ms k

  abbrev behind : Members → Members → Members
  behind no_members ns = ns
  behind (member l e ms) ns = member l e (behind ms ns)

  less : (o : Ordering) → is_lt o ≡ true → o ≡ Less
  less Less h = refl
  less Equal h = absurd (false≢true h)
  less Greater h = absurd (false≢true h)

  put_end : (k : List ℕ) (d : Data) (ms : Members) → ends_before ms k ≡ true → put k d ms ≡ behind ms (member k d no_members)
  put_end k d no_members h = refl
  put_end k d (member l e ms) h =
      let p = and_parts (is_before l k) (ends_before ms k) h in
      let above : slice_cmp nat_cmp k l ≡ Greater = nat_list_cmp_total.antisymm k l ∙ ap ordering_reverse (less (slice_cmp nat_cmp l k) p.0) in
      ap (λ o. match_ordering o (member k d (member l e ms)) (member l d ms) (member l e (put k d ms))) above ∙ ap (member l e) (put_end k d ms p.1)

  behind_behind : (ms : Members) (k : List ℕ) (d : Data) (ns : Members) → behind (behind ms (member k d no_members)) ns ≡ behind ms (member k d ns)
  behind_behind no_members k d ns = refl
  behind_behind (member l e ms) k d ns = ap (member l e) (behind_behind ms k d ns)

  ends_more : (ms : Members) (k : List ℕ) (d : Data) (n : List ℕ) → ends_before ms n ≡ true → is_before k n ≡ true → ends_before (behind ms (member k d no_members)) n ≡ true
  ends_more no_members k d n h i = and_from (is_before k n) true i refl
  ends_more (member l e ms) k d n h i =
      let p = and_parts (is_before l n) (ends_before ms n) h in
      and_from (is_before l n) (ends_before (behind ms (member k d no_members)) n) p.0 (ends_more ms k d n p.1 i)

  abbrev row_json : MapRow Value → MapRow Written
  row_json r = record { key = written r.key; value = written r.value }

  abbrev row_form : MapRow Value → MapRow Form
  row_form r = record { key = form r.key; value = form r.value }

  abbrev as_members : List (MapRow Child) → Members
  as_members [] = no_members
  as_members (r ∷ rows) = member (written r.key.0).text (json_of r.value.0) (as_members rows)

  abbrev ends_rows : Members → List (MapRow Child) → Type 0
  ends_rows ms [] = Unit {0}
  ends_rows ms (r ∷ rows) = (ends_before ms (written r.key.0).text ≡ true) × ends_rows ms rows

  first_ends : (rows : List (MapRow Child)) → ends_rows no_members rows
  first_ends [] = tt
  first_ends (r ∷ rows) = (refl, first_ends rows)

  key_text : (x : Value) → (form x).text ≡ (written x).text
  key_text x = form_text x ∙ sym (written_text x)

  more_ends : (ms : Members) (k : Value) (d : Data) (rows : List (MapRow Child)) → ends_rows ms rows → before_rows (form k).text (map row_form (first_rows Back rows)) ≡ true
      → ends_rows (behind ms (member (written k).text d no_members)) rows
  more_ends ms k d [] h b = tt
  more_ends ms k d (r ∷ rows) h b =
      let p = and_parts (is_before (form k).text (form r.key.0).text) (before_rows (form k).text (map row_form (first_rows Back rows))) b in
      let i : is_before (written k).text (written r.key.0).text ≡ true = sym (ap (λ n. is_before n (form r.key.0).text) (key_text k) ∙ ap (is_before (written k).text) (key_text r.key.0)) ∙ p.0 in
      (ends_more ms (written k).text d (written r.key.0).text h.0 i, more_ends ms k d rows h.1 p.1)

  rows_behind : (rows : List (MapRow Child)) (ms : Members) → ends_rows ms rows → rows_formed (map row_form (first_rows Back rows)) ≡ true
      → rows_put (map row_json (first_rows Back rows)) ms ≡ behind ms (as_members rows)
  rows_behind [] ms h f = ends ms
    where
      ends : (ms : Members) → ms ≡ behind ms no_members
      ends no_members = refl
      ends (member l e ms) = ap (member l e) (ends ms)
  rows_behind (r ∷ rows) ms h f =
      let k = (written r.key.0).text in
      let d = json_of r.value.0 in
      let p = and_parts _ (rows_formed (map row_form (first_rows Back rows))) f in
      let q = and_parts _ (before_rows (form r.key.0).text (map row_form (first_rows Back rows))) p.0 in
      ap (rows_put (map row_json (first_rows Back rows))) (put_end k d ms h.0)
      ∙ rows_behind rows (behind ms (member k d no_members)) (more_ends ms r.key.0 d rows h.1 q.1) p.1
      ∙ behind_behind ms k d (as_members rows)

  rows_back : (rows : List (MapRow Child)) (t u : Ty) → takes_rows structs (first_rows Back rows) t u ≡ true → rows_formed (map row_form (first_rows Back rows)) ≡ true
      → rows_read (member_readers structs (as_members rows)) t u ≡ Some (first_rows Back rows)
  rows_back [] t u h f = refl
  rows_back (r ∷ rows) t u h f =
      let a = and_parts _ (rows_formed (map row_form (first_rows Back rows))) f in
      let b = and_parts _ (before_rows (form r.key.0).text (map row_form (first_rows Back rows))) a.0 in
      let c = and_parts ((form r.key.0).has_text && (form r.key.0).formed) (form r.value.0).formed b.0 in
      let d = and_parts (form r.key.0).has_text (form r.key.0).formed c.0 in
      let p = and_parts (takes structs r.key.0 t && takes structs r.value.0 u) (takes_rows structs (first_rows Back rows) t u) h in
      let q = and_parts (takes structs r.key.0 t) (takes structs r.value.0 u) p.0 in
      let key : key_read (written r.key.0).text t ≡ Some r.key.0 = ap (λ n. key_read n t) (written_text r.key.0) ∙ key_back r.key.0 t q.0 d.0 d.1 in
      let value = r.value.1 u q.1 c.1 in
      let later = rows_read (member_readers structs (as_members rows)) t u in
      let row : MapRow Value = record { key = r.key.0; value = r.value.0 } in
      ap (option_and_then (λ j. option_and_then (with_value later j) (reads structs (json_of r.value.0) u))) key
      ∙ ap (option_and_then (with_value later r.key.0)) value
      ∙ ap (option_map (λ rs. row ∷ rs)) (rows_back rows t u p.1 a.1)
    where
      with_value : Option (List (MapRow Value)) → Value → Value → Option (List (MapRow Value))
      with_value later j z = option_map (λ rs. record { key = j; value = z } ∷ rs) later

  map_back : (rows : List (MapRow Child)) (t u : Ty) → takes_rows structs (first_rows Back rows) t u ≡ true → rows_formed (map row_form (first_rows Back rows)) ≡ true
      → option_map v.Map (rows_read (member_readers structs (rows_put (map row_json (first_rows Back rows)) no_members)) t u) ≡ Some (v.Map (first_rows Back rows))
  map_back rows t u h f =
      ap (λ ms. option_map v.Map (rows_read (member_readers structs ms) t u)) (rows_behind rows no_members (first_ends rows) f) ∙ ap (option_map v.Map) (rows_back rows t u h f)

  -- ---- structs

  reader_got : (name : List ℕ) (ms : Members) → reader_of name (member_readers structs ms) ≡ option_map (reads structs) (get_member name ms)
  reader_got name no_members = refl
  reader_got name (member l e ms) = by_order (slice_cmp nat_cmp name l) (bytes_eq name l) (is_eq-slice_cmp name l) (reader_got name ms)
    where
      by_order : (o : Ordering) (b : Bool) → is_eq o ≡ b → reader_of name (member_readers structs ms) ≡ option_map (reads structs) (get_member name ms)
          → cond b (Some (reads structs e)) (reader_of name (member_readers structs ms)) ≡ option_map (reads structs) (match_ordering o (get_member name ms) (Some e) (get_member name ms))
      by_order Less false e rest = rest
      by_order Equal true e rest = refl
      by_order Greater false e rest = rest
      by_order Less true e rest = cc
      by_order Equal false e rest = cc
      by_order Greater true e rest = cc

  abbrev field_json : Field Value → Field Written
  field_json f = record { name = f.name; value = written f.value }

  abbrev field_form : Field Value → Field Form
  field_form f = record { name = f.name; value = form f.value }

  abbrev fields_in : List (Field Child) → Members → Members
  fields_in fs = fields_put (map field_json (first_fields Back fs))

  got_before : (name : List ℕ) (fs : List (Field Child)) (ms : Members) → is_new name (map field_form (first_fields Back fs)) ≡ true → get_member name (fields_in fs ms) ≡ get_member name ms
  got_before name [] ms h = refl
  got_before name (f ∷ fs) ms h =
      let p = and_parts (not (bytes_eq name f.name)) (is_new name (map field_form (first_fields Back fs))) h in
      let other : name ≡ f.name → ⊥ = λ same. true≢false (sym ((bytes_eq-Decides name f.name).1 same) ∙ not-true (bytes_eq name f.name) p.0) in
      got_before name fs (put f.name (json_of f.value.0) ms) p.1 ∙ get_member-put_other name f.name (json_of f.value.0) ms other

  abbrev AllGot : Members → List (Field Child) → Type 0
  AllGot ms [] = Unit {0}
  AllGot ms (f ∷ fs) = (get_member f.name ms ≡ Some (json_of f.value.0)) × AllGot ms fs

  all_got : (fs : List (Field Child)) (ms : Members) → fields_formed (map field_form (first_fields Back fs)) ≡ true → AllGot (fields_in fs ms) fs
  all_got [] ms h = tt
  all_got (f ∷ fs) ms h =
      let p = and_parts ((form f.value.0).formed && is_new f.name (map field_form (first_fields Back fs))) (fields_formed (map field_form (first_fields Back fs))) h in
      let q = and_parts (form f.value.0).formed (is_new f.name (map field_form (first_fields Back fs))) p.0 in
      let now = put f.name (json_of f.value.0) ms in
      (got_before f.name fs now q.1 ∙ get_member-put f.name (json_of f.value.0) ms, all_got fs now p.1)

  fields_back : (fs : List (Field Child)) (ds : List Member) (ms : Members) → AllGot ms fs → takes_fields structs (first_fields Back fs) ds ≡ true → fields_formed (map field_form (first_fields Back fs)) ≡ true
      → fields_read (member_readers structs ms) ds ≡ Some (first_fields Back fs)
  fields_back [] [] ms g h f = refl
  fields_back [] (d ∷ ds) ms g h f = absurd (false≢true h)
  fields_back (k ∷ fs) [] ms g h f = absurd (false≢true h)
  fields_back (k ∷ fs) (d ∷ ds) ms g h f =
      let p = and_parts (bytes_eq k.name d.name && takes structs k.value.0 d.ty) (takes_fields structs (first_fields Back fs) ds) h in
      let q = and_parts (bytes_eq k.name d.name) (takes structs k.value.0 d.ty) p.0 in
      let a = and_parts ((form k.value.0).formed && is_new k.name (map field_form (first_fields Back fs))) (fields_formed (map field_form (first_fields Back fs))) f in
      let b = and_parts (form k.value.0).formed (is_new k.name (map field_form (first_fields Back fs))) a.0 in
      let same : k.name ≡ d.name = (bytes_eq-Decides k.name d.name).0 q.0 in
      let found : reader_of d.name (member_readers structs ms) ≡ Some (reads structs (json_of k.value.0)) =
      ap (λ n. reader_of n (member_readers structs ms)) (sym same) ∙ reader_got k.name ms ∙ ap (option_map (reads structs)) g.0 in
      let later = fields_read (member_readers structs ms) ds in
      let here : Field Value = record { name = k.name; value = k.value.0 } in
      ap (option_and_then (λ x. option_map (λ gs. field_of d.name x ∷ gs) later)) (ap (λ (o : Option Reader). member_at o d.ty) found ∙ k.value.1 d.ty q.1 b.0)
      ∙ ap (λ n. option_map (λ gs. field_of n k.value.0 ∷ gs) later) (sym same)
      ∙ ap (option_map (λ gs. here ∷ gs)) (fields_back fs ds ms g.1 p.1 a.1)

  -- the members are declared
  abbrev declared : List Member → Members → Bool
  declared ds ms = all_declared (names_of (member_readers structs ms)) ds

  put_declared : (ds : List Member) (k : List ℕ) (d : Data) (ms : Members) → is_declared k ds ≡ true → declared ds ms ≡ true → declared ds (put k d ms) ≡ true
  put_declared ds k d no_members h i = and_from (is_declared k ds) true h refl
  put_declared ds k d (member l e ms) h i =
      let p = and_parts (is_declared l ds) (declared ds ms) i in
      by_order (slice_cmp nat_cmp k l) p.0 (put_declared ds k d ms h p.1)
    where
      by_order : (o : Ordering) → is_declared l ds ≡ true → declared ds (put k d ms) ≡ true → declared ds (match_ordering o (member k d (member l e ms)) (member l d ms) (member l e (put k d ms))) ≡ true
      by_order Less own rest = and_from (is_declared k ds) (declared ds (member l e ms)) h i
      by_order Equal own rest = i
      by_order Greater own rest = and_from (is_declared l ds) (declared ds (put k d ms)) own rest

  abbrev EachDeclared : List Member → List (Field Child) → Type 0
  EachDeclared ds [] = Unit {0}
  EachDeclared ds (f ∷ fs) = (is_declared f.name ds ≡ true) × EachDeclared ds fs

  more_declared : (d : Member) (ds : List Member) (fs : List (Field Child)) → EachDeclared ds fs → EachDeclared (d ∷ ds) fs
  more_declared d ds [] h = tt
  more_declared d ds (f ∷ fs) h = (or_true (bytes_eq f.name d.name) (is_declared f.name ds) h.0, more_declared d ds fs h.1)
    where
      or_true : (a b : Bool) → b ≡ true → a || b ≡ true
      or_true true b e = refl
      or_true false b e = e

  each_declared : (fs : List (Field Child)) (ds : List Member) → takes_fields structs (first_fields Back fs) ds ≡ true → EachDeclared ds fs
  each_declared [] ds h = tt
  each_declared (k ∷ fs) [] h = absurd (false≢true h)
  each_declared (k ∷ fs) (d ∷ ds) h =
      let p = and_parts (bytes_eq k.name d.name && takes structs k.value.0 d.ty) (takes_fields structs (first_fields Back fs) ds) h in
      (ap (λ b. b || is_declared k.name ds) (and_parts (bytes_eq k.name d.name) (takes structs k.value.0 d.ty) p.0).0, more_declared d ds fs (each_declared fs ds p.1))

  fields_declared : (ds : List Member) (fs : List (Field Child)) (ms : Members) → EachDeclared ds fs → declared ds ms ≡ true → declared ds (fields_in fs ms) ≡ true
  fields_declared ds [] ms h i = i
  fields_declared ds (f ∷ fs) ms h i = fields_declared ds fs (put f.name (json_of f.value.0) ms) h.1 (put_declared ds f.name (json_of f.value.0) ms h.0 i)

  struct_back : (name n : List ℕ) (fs : List (Field Child)) → bytes_eq name n && fields_fit_some (map (λ (f : Field Value). record { name = f.name; value = takes structs f.value }) (first_fields Back fs)) (members_of structs n) ≡ true
      → fields_formed (map field_form (first_fields Back fs)) ≡ true
      → struct_in n (member_readers structs (fields_in fs no_members)) (members_of structs n) ≡ Some (v.Struct name (first_fields Back fs))
  struct_back name n fs h f =
      let p = and_parts (bytes_eq name n) (fields_fit_some (map (λ (f : Field Value). record { name = f.name; value = takes structs f.value }) (first_fields Back fs)) (members_of structs n)) h in
      by_members (members_of structs n) p.1 ∙ ap (λ m. Some (v.Struct m (first_fields Back fs))) (sym ((bytes_eq-Decides name n).0 p.0))
    where
      by_members : (o : Option (List Member)) → fields_fit_some (map (λ (f : Field Value). record { name = f.name; value = takes structs f.value }) (first_fields Back fs)) o ≡ true
          → struct_in n (member_readers structs (fields_in fs no_members)) o ≡ Some (v.Struct n (first_fields Back fs))
      by_members None k = absurd (false≢true k)
      by_members (Some ds) k =
          let ms = fields_in fs no_members in
          ap (λ b. cond b (option_map (v.Struct n) (fields_read (member_readers structs ms) ds)) None) (fields_declared ds fs no_members (each_declared fs ds k) refl)
          ∙ ap (option_map (v.Struct n)) (fields_back fs ds ms (all_got fs no_members f) k f)

  -- ---- all values

  abbrev read_at : Value-F Child → Ty → Option Value
  read_at l t = reads structs (data_at (map-Value Value Written written (plain Back l))) t

  list_at : (ks : List Child) (z : Ty-F Ty) (t : Ty) → out-Ty (bare t) ≡ z → takes_at structs (layer.List (map (takes structs) (firsts Back ks))) z ≡ true → all_formed (map form (firsts Back ks)) ≡ true
      → read_at (layer.List ks) t ≡ Some (v.List (firsts Back ks))
  list_at ks (type.Array u some) t is h f = ap (array_of ks) is ∙ list_back ks u some h f
    where
      array_of : List Child → Ty-F Ty → Option Value
      array_of ks z = array_read (item_readers structs (all_items (map written (firsts Back ks)))) z
  list_at ks z t is h f = absurd (false≢true h)

  pair_at : (a b : Child) (z : Ty-F Ty) (t : Ty) → out-Ty (bare t) ≡ z → takes_at structs (layer.Pair (takes structs a.0) (takes structs b.0)) z ≡ true → (form a.0).formed && (form b.0).formed ≡ true
      → read_at (layer.Pair a b) t ≡ Some (v.Pair a.0 b.0)
  pair_at a b (type.Pair u w) t is h f = ap (object_read structs (member_readers structs (pair_members (json_of a.0) (json_of b.0)))) is ∙ pair_back a b u w h f
  pair_at a b z t is h f = absurd (false≢true h)

  map_at : (rows : List (MapRow Child)) (z : Ty-F Ty) (t : Ty) → out-Ty (bare t) ≡ z
      → takes_at structs (layer.Map (map (λ (r : MapRow Value). record { key = takes structs r.key; value = takes structs r.value }) (first_rows Back rows))) z ≡ true → rows_formed (map row_form (first_rows Back rows)) ≡ true
      → read_at (layer.Map rows) t ≡ Some (v.Map (first_rows Back rows))
  map_at rows (type.Map u w) t is h f = ap (object_read structs (member_readers structs (rows_put (map row_json (first_rows Back rows)) no_members))) is ∙ map_back rows u w h f
  map_at rows z t is h f = absurd (false≢true h)

  struct_at : (name : List ℕ) (fs : List (Field Child)) (z : Ty-F Ty) (t : Ty) → out-Ty (bare t) ≡ z
      → takes_at structs (layer.Struct name (map (λ (f : Field Value). record { name = f.name; value = takes structs f.value }) (first_fields Back fs))) z ≡ true → fields_formed (map field_form (first_fields Back fs)) ≡ true
      → read_at (layer.Struct name fs) t ≡ Some (v.Struct name (first_fields Back fs))
  struct_at name fs (type.Struct n) t is h f = ap (object_read structs (member_readers structs (fields_in fs no_members))) is ∙ struct_back name n fs h f
  struct_at name fs z t is h f = absurd (false≢true h)

  layer_back : (l : Value-F Child) (t : Ty) → takes_step structs (map-Value Value Test (takes structs) (plain Back l)) t ≡ true → formed_at (map-Value Value Form form (plain Back l)) ≡ true
      → read_at l t ≡ Some (roll-Value (plain Back l))
  layer_back (layer.Bool b) t h f = bool_back b (out-Ty (bare t)) h ∙ ap Some (sym (v.rolls-Bool b))
  layer_back (layer.Int n) t h f = int_back n (out-Ty (bare t)) h ∙ ap Some (sym (v.rolls-Int n))
  layer_back (layer.Str s) t h f = str_back s (out-Ty (bare t)) h f ∙ ap Some (sym (v.rolls-Str s))
  layer_back (layer.File s) t h f = file_back s (out-Ty (bare t)) h f ∙ ap Some (sym (v.rolls-File s))
  layer_back (layer.List ks) t h f = list_at ks (out-Ty (bare t)) t refl h f ∙ ap Some (sym (v.rolls-List (firsts Back ks)))
  layer_back (layer.Pair a b) t h f = pair_at a b (out-Ty (bare t)) t refl h f ∙ ap Some (sym (v.rolls-Pair a.0 b.0))
  layer_back (layer.Map rows) t h f = map_at rows (out-Ty (bare t)) t refl h f ∙ ap Some (sym (v.rolls-Map (first_rows Back rows)))
  layer_back (layer.Struct name fs) t h f = struct_at name fs (out-Ty (bare t)) t refl h f ∙ ap Some (sym (v.rolls-Struct name (first_fields Back fs)))
  layer_back layer.Absent t h f = absent_back t h ∙ ap Some (sym v.rolls-Absent)

  pub written_back : (x : Value) → Back x
  written_back = ind-Value Back (λ l y is. subst (λ (z : Value-F Value). Back (roll-Value z)) is (λ t h f.
      let p = plain Back y in
      ap (λ (w : Written). reads structs w.json t) (fold-roll-Value Written written_step p)
      ∙ layer_back y t (sym (ap (λ (g : Test). g t) (fold-roll-Value Test (takes_step structs) p)) ∙ h) (sym (ap (λ (g : Form). g.formed) (fold-roll-Value Form form_step p)) ∙ f)))
