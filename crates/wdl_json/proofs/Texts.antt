-- The outputs as JSON, and their text: no float, and no NUL.
use Rattle.std.proofs.Common.{◌≡◌, ℕ, ℤ, pos, negsuc, false, ◌||◌, List, [], ◌∷◌, map, codes, Ordering, Less, Equal, Greater, nat_cmp, refl, ap, ◌∙◌, subst}
use Rattle.std.proofs.lemmas.Bool.{or_parts, or_from}
use Rattle.std.specs.Cmp.Lexicographic.{slice_cmp}
use Rattle.std.specs.Ordering.{match_ordering}
use Rattle.serde_json.specs.Data.{Data, Members, no_members, member, put}
use Rattle.serde_json.specs.Find.{of_integer, is_float}
use Rattle.serde_json.specs.Written.{has_float, items_have_float, members_have_float}
use Rattle.wdl_value.specs.declared.env.Bind.{Bind}
use Rattle.wdl_value.specs.declared.value.Field.{Field}
use Rattle.wdl_value.specs.declared.value.MapRow.{MapRow}
use Rattle.wdl_value.specs.declared.value.Value.{Value, Value-F, ind-Value, roll-Value, map-Value, fold-roll-Value}
use Rattle.wdl_value.specs.declared.value.Value.TheOpen as layer
use Rattle.wdl_value.proofs.ValueLayers.{Known, plain, firsts, first_rows, first_fields}
use Rattle.json_values.specs.Writing.{Written, written, written_step, data_at, json_of, all_items, rows_put, fields_put}
use Rattle.wdl_json.specs.Outputs.{output_name, with_outputs, outputs_json}

-- ---- no floats

put_at : (o : Ordering) (k l : List ℕ) (d e : Data) (ms : Members) → has_float d ≡ false → has_float e || members_have_float ms ≡ false → members_have_float (put k d ms) ≡ false
    → members_have_float (match_ordering o (member k d (member l e ms)) (member l d ms) (member l e (put k d ms))) ≡ false
put_at Less k l d e ms h i more = or_from (has_float d) (has_float e || members_have_float ms) h i
put_at Equal k l d e ms h i more = or_from (has_float d) (members_have_float ms) h (or_parts (has_float e) (members_have_float ms) i).1
put_at Greater k l d e ms h i more = or_from (has_float e) (members_have_float (put k d ms)) (or_parts (has_float e) (members_have_float ms) i).0 more

pub put_float : (k : List ℕ) (d : Data) (ms : Members) → has_float d ≡ false → members_have_float ms ≡ false → members_have_float (put k d ms) ≡ false
put_float k d no_members h i = or_from (has_float d) false h refl
put_float k d (member l e ms) h i = put_at (slice_cmp nat_cmp k l) k l d e ms h i (put_float k d ms h (or_parts (has_float e) (members_have_float ms) i).1)

abbrev Exact : Value → Type 0
Exact x = has_float (json_of x) ≡ false

abbrev as_written : Value-F (Known Exact) → Value-F Written
as_written l = map-Value Value Written written (plain Exact l)

items_exact : (ks : List (Known Exact)) → items_have_float (all_items (map written (firsts Exact ks))) ≡ false
items_exact [] = refl
items_exact (k ∷ ks) = or_from (has_float (json_of k.0)) _ k.1 (items_exact ks)

rows_exact : (ks : List (MapRow (Known Exact))) (ms : Members) → members_have_float ms ≡ false
    → members_have_float (rows_put (map (λ (r : MapRow Value). record { key = written r.key; value = written r.value }) (first_rows Exact ks)) ms) ≡ false
rows_exact [] ms h = h
rows_exact (k ∷ ks) ms h = rows_exact ks (put (written k.key.0).text (json_of k.value.0) ms) (put_float (written k.key.0).text (json_of k.value.0) ms k.value.1 h)

fields_exact : (ks : List (Field (Known Exact))) (ms : Members) → members_have_float ms ≡ false
    → members_have_float (fields_put (map (λ (f : Field Value). record { name = f.name; value = written f.value }) (first_fields Exact ks)) ms) ≡ false
fields_exact [] ms h = h
fields_exact (k ∷ ks) ms h = fields_exact ks (put k.name (json_of k.value.0) ms) (put_float k.name (json_of k.value.0) ms k.value.1 h)

pub integer_exact : (n : ℤ) → is_float (of_integer n) ≡ false
integer_exact (pos n) = refl
integer_exact (negsuc n) = refl

layer_exact : (l : Value-F (Known Exact)) → has_float (data_at (as_written l)) ≡ false
layer_exact (layer.Bool b) = refl
layer_exact (layer.Int n) = integer_exact n
layer_exact (layer.Str s) = refl
layer_exact (layer.File s) = refl
layer_exact (layer.List ks) = items_exact ks
layer_exact (layer.Pair a b) =
    put_float (codes "right") (json_of b.0) (put (codes "left") (json_of a.0) no_members) b.1 (put_float (codes "left") (json_of a.0) no_members a.1 refl)
layer_exact (layer.Map ks) = rows_exact ks no_members refl
layer_exact (layer.Struct name ks) = fields_exact ks no_members refl
layer_exact layer.Absent = refl

-- a value is written without a float
pub value_exact : (x : Value) → has_float (json_of x) ≡ false
value_exact = ind-Value Exact (λ l y is. subst (λ (z : Value-F Value). Exact (roll-Value z)) is (
    ap (λ (w : Written). has_float w.json) (fold-roll-Value Written written_step (plain Exact y)) ∙ layer_exact y))

outputs_put : (flow : List ℕ) (bs : List Bind) (ms : Members) → members_have_float ms ≡ false → members_have_float (with_outputs flow bs ms) ≡ false
outputs_put flow [] ms h = h
outputs_put flow (b ∷ bs) ms h = outputs_put flow bs (put (output_name flow b.key) (json_of b.value) ms) (put_float (output_name flow b.key) (json_of b.value) ms (value_exact b.value) h)

pub outputs_exact : (flow : List ℕ) (bs : List Bind) → has_float (outputs_json flow bs) ≡ false
outputs_exact flow bs = outputs_put flow bs no_members refl
