-- What is found at the end of a path of members, by the words of the flow and by those of the document.
use Rattle.std.proofs.Common.{◌≡◌, ℕ, Bool, true, false, cond, List, [], ◌∷◌, Some, Ok, ap, ◌∙◌}
use Rattle.std.specs.Str.{bytes_eq}
use Rattle.std.proofs.lemmas.Option.{same_Some}
use Rattle.wdl_value.specs.declared.value.Field.{Field}
use Rattle.wdl_value.specs.declared.value.Value.{Value, Value-F, out-Value}
use Rattle.wdl_value.specs.declared.value.Value.TheOpen as value
use Rattle.wdl_typed.specs.Evaluation.{Met, field_among, member_at, then_}
use Rattle.record_laws.specs.Given.{along_path}
use Rattle.cwl_records.specs.Wide.{field_at, field_in, field_of, through}
use Rattle.wdl_base.proofs.Options.{then_parts}

field_met : (fields : List (Field Value)) (name : List ℕ) (x : Value) → field_in fields name ≡ Some x → field_among fields name ≡ Ok x
field_met [] name x h = absurd (cc)
field_met (f ∷ fields) name x h = by_name (bytes_eq f.name name) h (field_met fields name x)
  where
    by_name : (b : Bool) → cond b (Some f.value) (field_in fields name) ≡ Some x → (field_in fields name ≡ Some x → field_among fields name ≡ Ok x) → cond b (Ok f.value) (field_among fields name) ≡ Ok x
    by_name true h rest = ap (λ (y : Value). Ok y) (same_Some _ _ h)
    by_name false h rest = rest h

member_met : (name : List ℕ) (z : Value-F Value) (x : Value) → field_at name z ≡ Some x → member_at name z ≡ Ok x
member_met name (value.Struct s fields) x h = field_met fields name x h
member_met name z x h = absurd (cc)

-- What is found through these members is met along them.
pub through_met : (path : List (List ℕ)) (x y : Value) → through path x ≡ Some y → along_path path x ≡ Ok y
through_met [] x y h = ap (λ (z : Value). Ok z) (same_Some _ _ h)
through_met (n ∷ path) x y h =
    let p = then_parts (through path) (field_of n x) y h in
    ap (λ (r : Met Value). then_ r (along_path path)) (member_met n (out-Value x) p.0 p.1) ∙ through_met path p.0 y p.2
