-- What is landed fits its type: an induction by one layer of the value.
use Rattle.std.proofs.Common.{◌≡◌, ◌⊎◌, inl, inr, ℕ, Bool, true, false, cond, not, ◌&&◌, List, [], ◌∷◌, ◌++◌, map, Option, Some, None, Ok, Err, sym, ap, ◌∙◌, subst, refl}
use Rattle.std.specs.Str.{bytes_eq}
use Rattle.std.proofs.lemmas.Bool.{false≢true, true≢false, and_parts, and_from, not-true, or_parts, or_from}
use Rattle.std.proofs.lemmas.Slice.Eq.{bytes_eq-Decides}
use denote.Hole.Carrier.{hidden}
use Rattle.wdl_base.specs.Answers.{is_cut}
use Rattle.wdl_base.specs.declared.answer.Answer.{Answer}
use Rattle.wdl_base.specs.declared.fault.EvalCode.TheVariants.{BodyLong, RepeatedKey}
use Rattle.wdl_value.specs.declared.ty.Member.{Member}
use Rattle.wdl_value.specs.declared.ty.Ty.{Ty, Ty-F, out-Ty, roll-Ty, roll-out-Ty, more_of-Ty, end_of-Ty}
use Rattle.wdl_value.specs.declared.ty.Ty.TheVariants as ty
use Rattle.wdl_value.specs.declared.ty.Ty.TheOpen as type
use Rattle.wdl_value.specs.declared.ty.Ty.TheBlock.{shape-the_row-Ty-0, hidden-the_row-Ty-0}
use Rattle.wdl_value.specs.declared.value.Field.{Field}
use Rattle.wdl_value.specs.declared.value.MapRow.{MapRow}
use Rattle.wdl_value.specs.declared.value.Value.{Value, Value-F, out-Value, roll-Value, out-roll-Value, roll-out-Value, map-Value, ind-Value, fold_out-Value}
use Rattle.wdl_value.specs.declared.value.Value.TheVariants as v
use Rattle.wdl_value.specs.declared.value.Value.TheOpen as layer
use Rattle.wdl_value.specs.Bare.{bare, bare-Opt, is_optional}
use Rattle.wdl_value.specs.Files.{left_body, local_name}
use Rattle.wdl_value.specs.Fits.{Structs, fits, is_absent, members_of, takes, takes_all, takes_at, takes_fields, takes_list, takes_rows, takes_step, fields_fit_some}
use Rattle.wdl_value.specs.Keyed.{distinct_keys, has_key, keyed}
use Rattle.wdl_value.specs.Outcome.{Outcome, and_then}
use Rattle.wdl_value.specs.SameValue.{same_value}
use Rattle.wdl_value.proofs.FitsForms.{absent_fits, all_fit, bool_fits, file_fits, int_fits, list_fits, map_fits, opt_fits, pair_fits, rows_fit, some_fit, str_fits}
use Rattle.wdl_value.proofs.FitsLemmas.{takes_out, takes_plain, tests}
use Rattle.wdl_value.proofs.SameValueLemmas.{same_value-refl, same_value-true}
use Rattle.wdl_value.proofs.ValueLayers.{Known, plain, firsts, first_fields, first_rows}
use Rattle.wdl_typed.specs.KnownTypes.{is_some}
use Rattle.wdl_typed.specs.Requests.{Lander, is_outside, land_all, land_at, land_fields, land_members, land_rows, landed, landed_file, map_row, missing_file, named_file, unlisted_file}
use Rattle.wdl_eval.proofs.StructForms.{members_fit, struct_fits}
use Rattle.wdl_task.specs.Members.{field_landers, row_landers}

-- ---- outcomes

-- what goes on has what it goes on with
pub ok_in : {A B : Type 0} (o : Outcome A) (f : A → Outcome B) (b : B) → and_then o f ≡ Ok b → (a : A) × (o ≡ Ok a) × (f a ≡ Ok b)
ok_in (Ok a) f b h = (a, refl, h)
ok_in (Err c) f b h = cc

-- ---- types

module _ (structs : Structs) where
  -- an optional type takes what its inner type takes
  bare_fits : (t : Ty) (x : Value) → fits structs x (bare t) ≡ true → fits structs x t ≡ true
  unfolding shape-the_row-Ty-0 hidden-the_row-Ty-0 hidden
  bare_fits (ty.Opt' s (more_of-Ty t end_of-Ty)) x h = opt_fits structs x t (bare_fits t x (subst (λ (u : Ty). fits structs x u ≡ true) (bare-Opt t) h))
  bare_fits ty.Bool x h = h
  bare_fits ty.Int x h = h
  bare_fits ty.Str x h = h
  bare_fits ty.File x h = h
  bare_fits (ty.Array' s t some) x h = h
  bare_fits (ty.Map' s t z w) x h = h
  bare_fits (ty.Pair' s t z w) x h = h
  bare_fits (ty.Struct n) x h = h
  bare_fits ty.Absent x h = h
  bare_fits ty.Empty x h = h

  pub absent_at : (t : Ty) → is_optional (out-Ty t) ≡ true → fits structs v.Absent t ≡ true
  absent_at t h = by_layer (out-Ty t) refl h
    where
      by_layer : (z : Ty-F Ty) → out-Ty t ≡ z → is_optional z ≡ true → fits structs v.Absent t ≡ true
      by_layer (type.Opt u) e h = subst (λ (w : Ty). fits structs v.Absent w ≡ true) (sym (sym (roll-out-Ty t) ∙ ap roll-Ty e ∙ ty.rolls-Opt u)) (absent_fits structs u)
      by_layer z e h = absurd (false≢true h)

-- ---- keys

same_back : (x y : Value) → same_value x y ≡ false → same_value y x ≡ false
same_back x y h = by_test (same_value y x) refl
  where
    by_test : (b : Bool) → same_value y x ≡ b → same_value y x ≡ false
    by_test false e = e
    by_test true e =
        let same = same_value-true y x e in
        absurd (true≢false (sym (subst (λ (z : Value). same_value z y ≡ true) same (same_value-refl y)) ∙ h))

key_behind : (k : Value) (rows : List (MapRow Value)) (r : MapRow Value) → has_key k rows ≡ false → same_value k r.key ≡ false → has_key k (rows ++ r ∷ []) ≡ false
key_behind k [] r h n = or_from (same_value k r.key) false n refl
key_behind k (q ∷ rows) r h n =
    let p = or_parts (same_value k q.key) (has_key k rows) h in
    or_from (same_value k q.key) (has_key k (rows ++ r ∷ [])) p.0 (key_behind k rows r p.1 n)

-- a row behind others that have not its key
distinct_behind : (rows : List (MapRow Value)) (r : MapRow Value) → distinct_keys rows ≡ true → has_key r.key rows ≡ false → distinct_keys (rows ++ r ∷ []) ≡ true
distinct_behind [] r h n = refl
distinct_behind (q ∷ rows) r h n =
    let p = and_parts (not (has_key q.key rows)) (distinct_keys rows) h in
    let m = or_parts (same_value r.key q.key) (has_key r.key rows) n in
    and_from (not (has_key q.key (rows ++ r ∷ []))) (distinct_keys (rows ++ r ∷ []))
    (ap not (key_behind q.key rows r (not-true (has_key q.key rows) p.0) (same_back r.key q.key m.0)))
    (distinct_behind rows r p.1 m.1)

module _ (structs : Structs) (dir : List ℕ) (answer : Answer) where
  abbrev lands : Value → Lander
  lands x = landed structs dir answer x

  abbrev Fits : Value → Ty → Type 0
  Fits x t = fits structs x t ≡ true

  abbrev Holds : Value → Type 0
  Holds x = (t : Ty) → takes structs x t ≡ true → (y : Value) → lands x t ≡ Ok y → Fits y t

  rows_behind : (rows : List (MapRow Value)) (r : MapRow Value) (t u : Ty) → rows_fit structs rows t u ≡ true → Fits r.key t → Fits r.value u → rows_fit structs (rows ++ r ∷ []) t u ≡ true
  rows_behind [] r t u h k x = and_from (fits structs r.key t && fits structs r.value u) true (and_from (fits structs r.key t) (fits structs r.value u) k x) refl
  rows_behind (q ∷ rows) r t u h k x =
      let p = and_parts (fits structs q.key t && fits structs q.value u) (rows_fit structs rows t u) h in
      and_from (fits structs q.key t && fits structs q.value u) (rows_fit structs (rows ++ r ∷ []) t u) p.0 (rows_behind rows r t u p.1 k x)

  -- ---- lists

  items_landed : (ks : List (Known Holds)) (t : Ty) (ys : List Value) → takes_all structs (firsts Holds ks) t ≡ true → land_all (map lands (firsts Holds ks)) t ≡ Ok ys → all_fit structs ys t ≡ true
  items_landed [] t ys h e = let none : [] ≡ ys = cc in subst (λ (zs : List Value). all_fit structs zs t ≡ true) none refl
  items_landed (k ∷ ks) t ys h e =
      let p = and_parts (takes structs k.0 t) (takes_all structs (firsts Holds ks) t) h in
      let rest = land_all (map lands (firsts Holds ks)) t in
      let a = ok_in (lands k.0 t) (λ x. and_then rest (λ xs. Ok (x ∷ xs))) ys e in
      let b = ok_in rest (λ xs. Ok (a.0 ∷ xs)) ys a.2 in
      let made = b.2 in
      let same : (a.0 ∷ b.0) ≡ ys = cc in
      subst (λ (zs : List Value). all_fit structs zs t ≡ true) same (and_from (fits structs a.0 t) (all_fit structs b.0 t) (k.1 t p.0 a.0 a.1) (items_landed ks t b.0 p.1 b.1))

  none_fits : (t : Ty) (some : Bool) → not some ≡ true → Fits (v.List []) (ty.Array t some)
  none_fits t false h = list_fits structs [] t refl
  none_fits t true h = absurd (false≢true h)

  list_landed : (ks : List (Known Holds)) (t : Ty) (some : Bool) (ys : List Value) → takes_list structs (firsts Holds ks) t some ≡ true → land_all (map lands (firsts Holds ks)) t ≡ Ok ys → Fits (v.List ys) (ty.Array t some)
  list_landed [] t some ys h e = let none : [] ≡ ys = cc in subst (λ (zs : List Value). Fits (v.List zs) (ty.Array t some)) none (none_fits t some h)
  list_landed (k ∷ ks) t some ys h e =
      let rest = land_all (map lands (firsts Holds ks)) t in
      let a = ok_in (lands k.0 t) (λ x. and_then rest (λ xs. Ok (x ∷ xs))) ys e in
      let b = ok_in rest (λ xs. Ok (a.0 ∷ xs)) ys a.2 in
      let made = b.2 in
      let same : (a.0 ∷ b.0) ≡ ys = cc in
      let all = subst (λ (zs : List Value). all_fit structs zs t ≡ true) (sym same) (items_landed (k ∷ ks) t ys h e) in
      subst (λ (zs : List Value). Fits (v.List zs) (ty.Array t some)) same (some_fit structs a.0 b.0 t some all)

  -- ---- rows

  rows_landed : (ks : List (MapRow (Known Holds))) (t u : Ty) (done out : List (MapRow Value)) → takes_rows structs (first_rows Holds ks) t u ≡ true
      → rows_fit structs done t u ≡ true → distinct_keys done ≡ true → land_rows (row_landers structs dir answer (first_rows Holds ks)) t u done ≡ Ok out
      → (rows_fit structs out t u ≡ true) × (distinct_keys out ≡ true)
  rows_landed [] t u done out h f d e = let same : done ≡ out = cc in subst (λ (rs : List (MapRow Value)). (rows_fit structs rs t u ≡ true) × (distinct_keys rs ≡ true)) same (f, d)
  rows_landed (k ∷ ks) t u done out h f d e =
      let p = and_parts (takes structs k.key.0 t && takes structs k.value.0 u) (takes_rows structs (first_rows Holds ks) t u) h in
      let q = and_parts (takes structs k.key.0 t) (takes structs k.value.0 u) p.0 in
      let a = ok_in (lands k.key.0 t) then_value out e in
      by_key a.0 (k.key.1 t q.0 a.0 a.1) (has_key a.0 done) refl a.2 q.1 (λ more g n i. rows_landed ks t u more out p.1 g n i)
    where
      Result : Type 0
      Result = (rows_fit structs out t u ≡ true) × (distinct_keys out ≡ true)

      rest : List (MapRow Value) → Outcome (List (MapRow Value))
      rest more = land_rows (row_landers structs dir answer (first_rows Holds ks)) t u more

      then_value : Value → Outcome (List (MapRow Value))
      then_value a = cond (has_key a done) (Err RepeatedKey) (and_then (lands k.value.0 u) (λ x. rest (done ++ map_row a x ∷ [])))

      by_key : (a : Value) → Fits a t → (b : Bool) → has_key a done ≡ b → cond b (Err RepeatedKey) (and_then (lands k.value.0 u) (λ x. rest (done ++ map_row a x ∷ []))) ≡ Ok out
          → takes structs k.value.0 u ≡ true → ((more : List (MapRow Value)) → rows_fit structs more t u ≡ true → distinct_keys more ≡ true → rest more ≡ Ok out → Result) → Result
      by_key a fa true n e takes_value go_on = absurd (cc)
      by_key a fa false n e takes_value go_on =
          let x = ok_in (lands k.value.0 u) (λ x. rest (done ++ map_row a x ∷ [])) out e in
          go_on (done ++ map_row a x.0 ∷ [])
          (rows_behind done (map_row a x.0) t u f fa (k.value.1 u takes_value x.0 x.1))
          (distinct_behind done (map_row a x.0) d n) x.2

  -- ---- members

  fields_landed : (ks : List (Field (Known Holds))) (ms : List Member) (out : List (Field Value)) → takes_fields structs (first_fields Holds ks) ms ≡ true
      → land_fields (field_landers structs dir answer (first_fields Holds ks)) ms ≡ Ok out → members_fit structs out ms ≡ true
  fields_landed [] [] out h e = let none : [] ≡ out = cc in subst (λ (fs : List (Field Value)). members_fit structs fs [] ≡ true) none refl
  fields_landed [] (m ∷ ms) out h e = absurd (false≢true h)
  fields_landed (k ∷ ks) [] out h e = absurd (false≢true h)
  fields_landed (k ∷ ks) (m ∷ ms) out h e =
      let p = and_parts (bytes_eq k.name m.name && takes structs k.value.0 m.ty) (takes_fields structs (first_fields Holds ks) ms) h in
      let q = and_parts (bytes_eq k.name m.name) (takes structs k.value.0 m.ty) p.0 in
      let rest = land_fields (field_landers structs dir answer (first_fields Holds ks)) ms in
      let field : Value → Field Value = λ x. record { name = k.name; value = x } in
      let a = ok_in (lands k.value.0 m.ty) (λ x. and_then rest (λ xs. Ok (field x ∷ xs))) out e in
      let b = ok_in rest (λ xs. Ok (field a.0 ∷ xs)) out a.2 in
      let made = b.2 in
      let same : (field a.0 ∷ b.0) ≡ out = cc in
      subst (λ (fs : List (Field Value)). members_fit structs fs (m ∷ ms) ≡ true) same
      (and_from (bytes_eq k.name m.name && fits structs a.0 m.ty) (members_fit structs b.0 ms)
      (and_from (bytes_eq k.name m.name) (fits structs a.0 m.ty) q.0 (k.value.1 m.ty q.1 a.0 a.1)) (fields_landed ks ms b.0 p.1 b.1))

  struct_landed : (name n : List ℕ) (ks : List (Field (Known Holds))) (y : Value) → bytes_eq name n ≡ true → (o : Option (List Member)) → members_of structs n ≡ o
      → fields_fit_some (map (λ f. record { name = f.name; value = takes structs f.value }) (first_fields Holds ks)) o ≡ true
      → and_then (land_members (field_landers structs dir answer (first_fields Holds ks)) o) (λ fs. Ok (v.Struct name fs)) ≡ Ok y → Fits y (ty.Struct n)
  struct_landed name n ks y same None m h e = absurd (false≢true h)
  struct_landed name n ks y same (Some ms) m h e =
      let a = ok_in (land_fields (field_landers structs dir answer (first_fields Holds ks)) ms) (λ fs. Ok (v.Struct name fs)) y e in
      let made = a.2 in
      let is : v.Struct name a.0 ≡ y = cc in
      let names : name ≡ n = (bytes_eq-Decides name n).0 same in
      subst (λ (x : Value). Fits x (ty.Struct n)) is
      (subst (λ (s : List ℕ). Fits (v.Struct s a.0) (ty.Struct n)) (sym names) (struct_fits structs n a.0 ms m (fields_landed ks ms a.0 h a.1)))

  -- ---- one layer that is not Absent

  -- a value of the type, or Absent where a file need not be there
  abbrev Lands : Bool → Ty-F Ty → Value → Type 0
  Lands absent z y = (Fits y (roll-Ty z)) ⊎ ((absent ≡ true) × (y ≡ v.Absent))

  at_type : (t : Ty) (z : Ty-F Ty) (absent : Bool) (y : Value) → roll-Ty z ≡ t → Fits y t → Lands absent z y
  at_type t z absent y e h = inl (subst (λ (u : Ty). Fits y u) (sym e) h)

  file_landed : (path : List ℕ) (absent : Bool) (y : Value) → landed_file dir answer path absent ≡ Ok y → Lands absent type.File y
  file_landed path absent y e = by_place (is_outside dir path) (local_name dir path) e
    where
      is_file : (s : List ℕ) → v.File s ≡ y → Lands absent type.File y
      is_file s same = at_type ty.File type.File absent y ty.rolls-File (subst (λ (x : Value). Fits x ty.File) same (file_fits structs s))

      by_absence : (b : Bool) → absent ≡ b → missing_file b ≡ Ok y → Lands absent type.File y
      by_absence true a e = inr (a, cc)
      by_absence false a e = absurd (cc)

      by_names : (cut : Bool) → cond cut (Err BodyLong) (missing_file absent) ≡ Ok y → Lands absent type.File y
      by_names true e = absurd (cc)
      by_names false e = by_absence absent refl e

      by_presence : (name : List ℕ) (there : Bool) → cond there (Ok (v.File (dir ++ 47 ∷ name))) (unlisted_file answer absent) ≡ Ok y → Lands absent type.File y
      by_presence name true e = is_file (dir ++ 47 ∷ name) (cc)
      by_presence name false e = by_names (is_cut answer.files) e

      by_place : (outside : Bool) (name : Option (List ℕ)) → cond outside (Ok (v.File path)) (named_file dir answer absent name) ≡ Ok y → Lands absent type.File y
      by_place true name e = is_file path (cc)
      by_place false None e = by_absence absent refl e
      by_place false (Some name) e = by_presence name (is_some (left_body answer name)) e

  abbrev landers : Value-F Value → Value-F Lander
  landers = map-Value Value Lander lands

  layer_landed : (k : Value-F (Known Holds)) (z : Ty-F Ty) (absent : Bool) (y : Value) → is_absent (plain Holds k) ≡ false → takes_at structs (tests structs (plain Holds k)) z ≡ true
      → land_at structs dir answer (landers (plain Holds k)) absent z ≡ Ok y → Lands absent z y
  layer_landed (layer.Bool b) type.Bool absent y n h e = let same : v.Bool b ≡ y = cc in at_type ty.Bool type.Bool absent y ty.rolls-Bool (subst (λ (x : Value). Fits x ty.Bool) same (bool_fits structs b))
  layer_landed (layer.Int b) type.Int absent y n h e = let same : v.Int b ≡ y = cc in at_type ty.Int type.Int absent y ty.rolls-Int (subst (λ (x : Value). Fits x ty.Int) same (int_fits structs b h))
  layer_landed (layer.Str b) type.Str absent y n h e = let same : v.Str b ≡ y = cc in at_type ty.Str type.Str absent y ty.rolls-Str (subst (λ (x : Value). Fits x ty.Str) same (str_fits structs b))
  layer_landed (layer.File path) type.File absent y n h e = file_landed path absent y e
  layer_landed (layer.List ks) (type.Array t some) absent y n h e =
      let a = ok_in (land_all (map lands (firsts Holds ks)) t) (λ xs. Ok (v.List xs)) y e in
      let made = a.2 in
      let same : v.List a.0 ≡ y = cc in
      at_type (ty.Array t some) (type.Array t some) absent y (ty.rolls-Array t some) (subst (λ (x : Value). Fits x (ty.Array t some)) same (list_landed ks t some a.0 h a.1))
  layer_landed (layer.Pair j k) (type.Pair t u) absent y n h e =
      let p = and_parts (takes structs j.0 t) (takes structs k.0 u) h in
      let a = ok_in (lands j.0 t) (λ x. and_then (lands k.0 u) (λ w. Ok (v.Pair x w))) y e in
      let b = ok_in (lands k.0 u) (λ w. Ok (v.Pair a.0 w)) y a.2 in
      let made = b.2 in
      let same : v.Pair a.0 b.0 ≡ y = cc in
      at_type (ty.Pair t u) (type.Pair t u) absent y (ty.rolls-Pair t u)
      (subst (λ (x : Value). Fits x (ty.Pair t u)) same (pair_fits structs a.0 b.0 t u (j.1 t p.0 a.0 a.1) (k.1 u p.1 b.0 b.1)))
  layer_landed (layer.Map ks) (type.Map t u) absent y n h e =
      let a = ok_in (land_rows (row_landers structs dir answer (first_rows Holds ks)) t u []) (λ xs. Ok (v.Map xs)) y e in
      let made = a.2 in
      let same : v.Map a.0 ≡ y = cc in
      let rows = rows_landed ks t u [] a.0 h refl refl a.1 in
      at_type (ty.Map t u) (type.Map t u) absent y (ty.rolls-Map t u) (subst (λ (x : Value). Fits x (ty.Map t u)) same (map_fits structs a.0 t u rows.0 rows.1))
  layer_landed (layer.Struct name ks) (type.Struct m) absent y n h e =
      let some = fields_fit_some (map (λ f. record { name = f.name; value = takes structs f.value }) (first_fields Holds ks)) (members_of structs m) in
      let p = and_parts (bytes_eq name m) some h in
      let names : name ≡ m = (bytes_eq-Decides name m).0 p.0 in
      let land = subst (λ (s : List ℕ). and_then (land_members (field_landers structs dir answer (first_fields Holds ks)) (members_of structs s)) (λ fs. Ok (v.Struct name fs)) ≡ Ok y) names e in
      at_type (ty.Struct m) (type.Struct m) absent y (ty.rolls-Struct m) (struct_landed name m ks y p.0 (members_of structs m) refl p.1 land)
  layer_landed layer.Absent z absent y n h e = absurd (true≢false n)
  layer_landed k z absent y n h e = absurd (false≢true h)

  -- ---- the induction

  landed_out : (x : Value) (t : Ty) → lands x t ≡ land_at structs dir answer (landers (out-Value x)) (is_optional (out-Ty t)) (out-Ty (bare t))
  landed_out x t = ap (λ (f : Lander). f t) (fold_out-Value Lander (λ l u. land_at structs dir answer l (is_optional (out-Ty u)) (out-Ty (bare u))) x)

  lands_fits : (t : Ty) (y : Value) → Lands (is_optional (out-Ty t)) (out-Ty (bare t)) y → Fits y t
  lands_fits t y (inl h) = bare_fits structs t y (subst (λ (u : Ty). Fits y u) (roll-out-Ty (bare t)) h)
  lands_fits t y (inr h) = subst (λ (x : Value). Fits x t) (sym h.1) (absent_at structs t h.0)

  other_layer : (x : Value) (k : Value-F (Known Holds)) → out-Value x ≡ plain Holds k → is_absent (plain Holds k) ≡ false → is_absent (tests structs (plain Holds k)) ≡ false → Holds x
  other_layer x k is n m t h y e =
      let at : takes_at structs (tests structs (plain Holds k)) (out-Ty (bare t)) ≡ true =
      sym (takes_out structs x t ∙ ap (λ (l : Value-F Value). takes_step structs (tests structs l) t) is ∙ takes_plain structs (plain Holds k) t m) ∙ h in
      let land = sym (landed_out x t ∙ ap (λ (l : Value-F Value). land_at structs dir answer (landers l) (is_optional (out-Ty t)) (out-Ty (bare t))) is) ∙ e in
      lands_fits t y (layer_landed k (out-Ty (bare t)) (is_optional (out-Ty t)) y n at land)

  absent_layer : (x : Value) → out-Value x ≡ layer.Absent → Holds x
  absent_layer x is t h y e =
      let own : x ≡ v.Absent = sym (roll-out-Value x) ∙ ap roll-Value is ∙ v.rolls-Absent in
      let land = sym (landed_out x t ∙ ap (λ (l : Value-F Value). land_at structs dir answer (landers l) (is_optional (out-Ty t)) (out-Ty (bare t))) is) ∙ e in
      let same : v.Absent ≡ y = cc in
      let keys = and_parts (takes structs v.Absent (ty.Opt ty.Int)) (keyed v.Absent) (absent_fits structs ty.Int) in
      subst (λ (z : Value). Fits z t) same (and_from (takes structs v.Absent t) (keyed v.Absent) (subst (λ (z : Value). takes structs z t ≡ true) own h) keys.1)

  any_layer : (x : Value) (k : Value-F (Known Holds)) → out-Value x ≡ plain Holds k → Holds x
  any_layer x layer.Absent is = absent_layer x is
  any_layer x (layer.Bool b) is = other_layer x (layer.Bool b) is refl refl
  any_layer x (layer.Int b) is = other_layer x (layer.Int b) is refl refl
  any_layer x (layer.Str b) is = other_layer x (layer.Str b) is refl refl
  any_layer x (layer.File b) is = other_layer x (layer.File b) is refl refl
  any_layer x (layer.List b) is = other_layer x (layer.List b) is refl refl
  any_layer x (layer.Pair a b) is = other_layer x (layer.Pair a b) is refl refl
  any_layer x (layer.Map b) is = other_layer x (layer.Map b) is refl refl
  any_layer x (layer.Struct a b) is = other_layer x (layer.Struct a b) is refl refl

  takes_landed : (x : Value) → Holds x
  takes_landed = ind-Value Holds (λ l k is. any_layer (roll-Value l) k (out-roll-Value l ∙ sym is))

  -- what is landed of a value that fits a type fits it
  pub landed_fits : (x : Value) (t : Ty) → fits structs x t ≡ true → (y : Value) → landed structs dir answer x t ≡ Ok y → fits structs y t ≡ true
  landed_fits x t h y e = takes_landed x t (and_parts (takes structs x t) (keyed x) h).0 y e
