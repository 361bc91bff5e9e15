-- JSON and values, seen one level at a time.
use Rattle.std.proofs.Common.{◌≡◌, ap, ◌∙◌, refl, String, Vec, BTreeMap, Global}
use Rattle.serde_json.specs.Data.{array, object}
use Rattle.serde_json.specs.View.{view, items_view, members_view}
use Rattle.serde_json.specs.declared.value.Value.{Array, Object}
use Rattle.serde_json.specs.declared.value.Value as json
use Rattle.serde_json.proofs.Views.{view-Array, view-Object}
use Rattle.wdl_value.specs.declared.value.Value.{Value, Value-F, out-Value, map-Value, fold_out-Value}
use Rattle.wdl_value.specs.declared.value.Value.TheOpen as layer
use Rattle.wdl_value.specs.ValueText.{text_at, text_of}
use Rattle.json_values.specs.Writing.{Written, written, written_step}

pub array_view : (v : Vec json.Value Global) → view (Array v) ≡ array (items_view v.items)
array_view v = view-Array v

pub object_view : (m : BTreeMap (String Global) json.Value) → view (Object m) ≡ object (members_view m.entries)
object_view m = view-Object m

text_stays : (x : Value-F Value) → text_at (map-Value Value Written written x) ≡ text_at x
text_stays (layer.Bool b) = refl
text_stays (layer.Int n) = refl
text_stays (layer.Str s) = refl
text_stays (layer.File s) = refl
text_stays (layer.List xs) = refl
text_stays (layer.Pair a b) = refl
text_stays (layer.Map rows) = refl
text_stays (layer.Struct name fields) = refl
text_stays layer.Absent = refl

-- a key is written as its text
pub written_text : (x : Value) → (written x).text ≡ text_of x
written_text x = ap (λ (w : Written). w.text) (fold_out-Value Written written_step x) ∙ text_stays (out-Value x)
