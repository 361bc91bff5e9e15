-- A list of values is read item by item.
use Rattle.std.proofs.Common.{◌≡◌, ℕ, suc, ◌+◌, ◌<◌, ◌≤◌, List, [], ◌∷◌, ◌++◌, map, length, get_or, drop, drop-cons, Ok, inl, inr, refl, sym, ap, ◌∙◌, subst, append_assoc, append-nil, add-one, arith}
use Rattle.std.proofs.lemmas.List.{drop_all}
use Rattle.std.specs.List.{AllByRecursion}
use Rattle.serde_json.specs.Data.{Data, Items, no_items, item}
use Rattle.serde_json.specs.View.{view, items_of, items_view}
use Rattle.serde_json.specs.declared.value.Value.{Value}
use Rattle.run_keeper.specs.Ahead.{IsAhead}
use Rattle.run_keeper.specs.Reads.{Gives}

-- the next value is that of the next item
pub record IsNext {T : Type 0} (data_of : T → Data) (IsT : T → Type 0) (value : Value) (values : List Value) (xs all : List T) : Type 0 where
  pub next : T
  pub sound : IsT next
  pub same : view value ≡ data_of next
  pub ahead : IsAhead data_of IsT values xs (all ++ next ∷ [])

same_item : (a b : Data) (as_ bs : Items) → item a as_ ≡ item b bs → (a ≡ b) × (as_ ≡ bs)
same_item a b as_ bs e = (ap (λ is. first is a) e, ap rest e) where
  first : Items → Data → Data
  first no_items d = d
  first (item c cs) d = c

  rest : Items → Items
  rest no_items = no_items
  rest (item c cs) = cs

next_of : {T : Type 0} (data_of : T → Data) (IsT : T → Type 0) (value : Value) (values : List Value) (xs all ys : List T) → xs ≡ all ++ ys → AllByRecursion IsT ys
    → item (view value) (items_view values) ≡ items_of (map data_of ys) → IsNext data_of IsT value values xs all
next_of data_of IsT value values xs all [] whole sound left = absurd (grind (arith, left))
next_of data_of IsT value values xs all (y ∷ ys) whole sound left =
    let parts = same_item (view value) (data_of y) (items_view values) (items_of (map data_of ys)) left in
    record {
      next = y;
      sound = sound.0;
      same = parts.0;
      ahead = record { rest = ys; whole = whole ∙ sym (append_assoc all (y ∷ []) ys); sound = sound.1; left = parts.1 };
    }

front_of : {T : Type 0} {data_of : T → Data} {IsT : T → Type 0} {value : Value} {values : List Value} {xs all : List T} → IsAhead data_of IsT (value ∷ values) xs all
    → IsNext data_of IsT value values xs all
front_of {T} {data_of} {IsT} {value} {values} {xs} {all} a = next_of data_of IsT value values xs all a.rest a.whole a.sound a.left

pub next_at : {T : Type 0} {data_of : T → Data} {IsT : T → Type 0} {xs all : List T} (values : List Value) (i : ℕ) (value : Value) → i < length values → value ≡ get_or values i value
    → IsAhead data_of IsT (drop i values) xs all → IsNext data_of IsT value (drop (i + 1) values) xs all
next_at {T} {data_of} {IsT} {xs} {all} values i value within is a =
    let front : drop i values ≡ value ∷ drop (i + 1) values =
    drop-cons values i value within ∙ ap (λ v. v ∷ drop (suc i) values) (sym is) ∙ ap (λ n. value ∷ drop n values) (sym (add-one i)) in
    front_of (subst (λ vs. IsAhead data_of IsT vs xs all) front a)

at_end : {T : Type 0} (data_of : T → Data) (ys : List T) → no_items ≡ items_of (map data_of ys) → ys ≡ []
at_end data_of [] e = refl
at_end data_of (y ∷ ys) e = absurd (grind (arith, e))

pub read_all : {T : Type 0} {data_of : T → Data} {IsT : T → Type 0} {xs all : List T} (values : List Value) (i : ℕ) → length values ≤ i → IsAhead data_of IsT (drop i values) xs all → all ≡ xs
read_all {T} {data_of} {IsT} {xs} {all} values i over a =
    let end : no_items ≡ items_of (map data_of a.rest) = ap items_view (sym (drop_all i values over)) ∙ a.left in
    sym (a.whole ∙ ap (λ ys. all ++ ys) (at_end data_of a.rest end) ∙ append-nil all)

-- ---- answers of calls

pub given_ok : {T : Type 0} (y x : T) → Gives (Ok y) x → y ≡ x
given_ok y x (inl e) = grind (arith, e)
given_ok y x (inr e) = absurd (grind (arith, e))
