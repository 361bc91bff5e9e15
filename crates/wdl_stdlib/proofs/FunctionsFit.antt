-- The value of a function fits the result of its row.
use Rattle.std.proofs.Common.{◌≡◌, ℕ, Bool, true, false, cond, ◌&&◌, List, [], ◌∷◌, map, Option, Some, None, sym, subst, option_and_then}
use Rattle.std.proofs.lemmas.Bool.{false≢true, and_parts}
use Rattle.wdl_base.specs.declared.answer.Answer.{Answer}
use Rattle.wdl_value.specs.declared.operator.Func.{Func}
use Rattle.wdl_value.specs.declared.operator.Func.TheVariants as func
use Rattle.wdl_value.specs.declared.typing.FuncTyping.{FuncTyping}
use Rattle.wdl_value.specs.declared.ty.Ty.{Ty}
use Rattle.wdl_value.specs.declared.ty.Ty.TheVariants as ty
use Rattle.wdl_value.specs.declared.value.Value.{Value}
use Rattle.wdl_value.specs.Apply.{applied, apply}
use Rattle.wdl_value.specs.Coerces.{coerces}
use Rattle.wdl_value.specs.FunctionTypes.{array as array_of, item_type, known_type, nullary, unary, binary, taking, plain_only, part_types, entry_types, plain_first, quote_type, simple_type, unary_type, taking_both, texts_type, pairing_type, binary_type, nullary_type, function_type, writes}
use Rattle.wdl_value.specs.Reads.{trimmed, string_read, lines_read, tsv_read, int_read, boolean_read, map_read}
use Rattle.std.specs.Char.{to_ascii_lowercase}
use Rattle.wdl_value.specs.Fits.{Structs, fits}
use Rattle.wdl_value.specs.Functions.{zipped, is_defined}
use Rattle.wdl_value.specs.Outcome.{Outcome}
use Rattle.wdl_value.specs.Parts.{items_in, rows_in}
use Rattle.wdl_value.proofs.FitsForms.{bool_fits, str_fits, file_fits}
use Rattle.wdl_stdlib.specs.Laws.{IsOfType, args_fit}
use Rattle.wdl_stdlib.proofs.OperatorsFit.{limited_fits, int_of-fits}
use Rattle.wdl_stdlib.proofs.PartsFit.{Fits, array, entries_fit, items_fit}
use Rattle.wdl_stdlib.proofs.NumbersFit.{greatest_fits, least_fits, range_fits}
use Rattle.wdl_stdlib.proofs.ReadsFit.{glob_fits, lines_fit, map_read_fits, prefix_fits, quote_fits, read_fits, signed_fits, suffix_fits, tsv_fits, word_fits}
use Rattle.wdl_stdlib.proofs.ListsFit.{crossed_fit, defined_fit, first_fits, flat_fit, list_of, transpose_fits, unzip_fits, zipped_fit}
use Rattle.wdl_stdlib.proofs.MapsFit.{as_map_fits, collect_fits, keys_fit, pairs_fit}

module _ (structs : Structs) where
  abbrev Sound : FuncTyping → (List Value → Outcome Value) → Type 0
  Sound row o = (args : List Value) → args_fit structs args row.args ≡ true → IsOfType structs row.result (o args)

  with_some : {A : Type 0} (f : A → Option FuncTyping) (o : Option A) (row : FuncTyping) → option_and_then f o ≡ Some row → (x : A) × (f x ≡ Some row)
  with_some f None row h = cc
  with_some f (Some x) row h = (x, h)

  only_some : (b : Bool) (o : Option FuncTyping) (row : FuncTyping) → cond b o None ≡ Some row → o ≡ Some row
  only_some true o row h = h
  only_some false o row h = cc

  some_same : {A : Type 0} {x y : A} → Some x ≡ Some y → x ≡ y
  some_same h = cc

  none_sound : (result : Ty) (row : FuncTyping) (o : List Value → Outcome Value) → nullary result ≡ Some row → IsOfType structs result (o []) → Sound row o
  none_sound result row o h k = subst (λ (r : FuncTyping). Sound r o) (some_same h) by_args
    where
      by_args : Sound (record { args = []; result = result }) o
      by_args [] f = k
      by_args (x ∷ xs) f = absurd (false≢true f)

  one_sound : (param result : Ty) (row : FuncTyping) (o : List Value → Outcome Value) → unary param result ≡ Some row → ((x : Value) → Fits structs x param → IsOfType structs result (o (x ∷ []))) → Sound row o
  one_sound param result row o h k = subst (λ (r : FuncTyping). Sound r o) (some_same h) by_args
    where
      by_args : Sound (record { args = param ∷ []; result = result }) o
      by_args [] f = absurd (false≢true f)
      by_args (x ∷ []) f = k x (and_parts (fits structs x param) true f).0
      by_args (x ∷ y ∷ ys) f = absurd (false≢true (and_parts (fits structs x param) false f).1)

  two_sound : (first second result : Ty) (row : FuncTyping) (o : List Value → Outcome Value) → binary first second result ≡ Some row
      → ((x y : Value) → Fits structs x first → Fits structs y second → IsOfType structs result (o (x ∷ y ∷ []))) → Sound row o
  two_sound first second result row o h k = subst (λ (r : FuncTyping). Sound r o) (some_same h) by_args
    where
      by_args : Sound (record { args = first ∷ second ∷ []; result = result }) o
      by_args [] f = absurd (false≢true f)
      by_args (x ∷ []) f = absurd (false≢true (and_parts (fits structs x first) false f).1)
      by_args (x ∷ y ∷ []) f =
          let p = and_parts (fits structs x first) (fits structs y second && true) f in
          k x y p.0 (and_parts (fits structs y second) true p.1).0
      by_args (x ∷ y ∷ z ∷ zs) f =
          let p = and_parts (fits structs x first) (fits structs y second && false) f in
          absurd (false≢true (and_parts (fits structs y second) false p.1).1)

  module _ (dir : List ℕ) (answer : Option Answer) where
    abbrev call : Func → List Value → Outcome Value
    call f args = applied dir answer f args

    nullary_sound : (f : Func) (row : FuncTyping) → nullary_type f ≡ Some row → Sound row (call f)
    nullary_sound func.Stdout row h = none_sound ty.File row (call func.Stdout) h (file_fits structs _)
    nullary_sound func.Stderr row h = none_sound ty.File row (call func.Stderr) h (file_fits structs _)
    nullary_sound f row h = cc

    taken : (f : Func) (t param result : Ty) (row : FuncTyping) → taking t param result ≡ Some row → ((x : Value) → Fits structs x param → IsOfType structs result (call f (x ∷ []))) → Sound row (call f)
    taken f t param result row h = one_sound param result row (call f) (only_some (coerces t param) (unary param result) row h)

    simple_sound : (f : Func) (t : Ty) (row : FuncTyping) → simple_type f t ≡ Some row → writes f ≡ false → Sound row (call f)
    simple_sound func.Range t row h w = taken func.Range t ty.Int (ty.Array ty.Int false) row h (λ x k. range_fits structs x k)
    simple_sound func.Basename t row h w = taken func.Basename t ty.Str ty.Str row h (λ x k. str_fits structs _)
    simple_sound func.Glob t row h w = taken func.Glob t ty.Str (ty.Array ty.File false) row h (λ x k. glob_fits structs dir answer x)
    simple_sound func.ReadString t row h w = taken func.ReadString t ty.File ty.Str row h (λ x k. read_fits structs dir answer x ty.Str string_read (λ text. str_fits structs _))
    simple_sound func.ReadLines t row h w = taken func.ReadLines t ty.File (ty.Array ty.Str false) row h (λ x k. read_fits structs dir answer x (ty.Array ty.Str false) lines_read (lines_fit structs))
    simple_sound func.ReadInt t row h w = taken func.ReadInt t ty.File ty.Int row h (λ x k. read_fits structs dir answer x ty.Int int_read (λ text. signed_fits structs (trimmed text)))
    simple_sound func.ReadBoolean t row h w = taken func.ReadBoolean t ty.File ty.Bool row h (λ x k. read_fits structs dir answer x ty.Bool boolean_read (λ text. word_fits structs (map to_ascii_lowercase (trimmed text))))
    simple_sound func.ReadTsv t row h w = taken func.ReadTsv t ty.File (ty.Array (ty.Array ty.Str false) false) row h (λ x k. read_fits structs dir answer x (ty.Array (ty.Array ty.Str false) false) tsv_read (tsv_fits structs))
    simple_sound func.ReadMap t row h w = taken func.ReadMap t ty.File (ty.Map ty.Str ty.Str) row h (λ x k. read_fits structs dir answer x (ty.Map ty.Str ty.Str) map_read (map_read_fits structs))
    simple_sound func.WriteLines t row h w = absurd (false≢true (sym w))
    simple_sound func.WriteTsv t row h w = absurd (false≢true (sym w))
    simple_sound func.WriteMap t row h w = absurd (false≢true (sym w))
    simple_sound f t row h w = cc

    quote_sound : (f : Func) (t : Ty) (row : FuncTyping) → quote_type t ≡ Some row → ((x : Value) → IsOfType structs (ty.Array ty.Str false) (call f (x ∷ []))) → Sound row (call f)
    quote_sound f t row h k = let p = with_some (λ p. unary (array_of p) (array_of ty.Str)) (option_and_then plain_only (item_type t)) row h in one_sound (array_of p.0) (array_of ty.Str) row (call f) p.1 (λ x i. k x)

    unary_sound : (f : Func) (t : Ty) (row : FuncTyping) → unary_type f t ≡ Some row → writes f ≡ false → Sound row (call f)
    unary_sound func.Length t row h w = let p = with_some _ (item_type t) row h in one_sound _ ty.Int row (call func.Length) p.1 (λ x k. int_of-fits structs _)
    unary_sound func.Transpose t row h w = let p = with_some _ (option_and_then item_type (item_type t)) row h in one_sound _ _ row (call func.Transpose) p.1 (λ x k. transpose_fits structs x p.0 k)
    unary_sound func.Unzip t row h w =
        let p = with_some _ (option_and_then part_types (item_type t)) row h in
        one_sound _ _ row (call func.Unzip) p.1 (λ x k. unzip_fits structs x p.0.0 p.0.1 k)
    unary_sound func.Flatten t row h w = let p = with_some _ (option_and_then item_type (item_type t)) row h in one_sound _ _ row (call func.Flatten) p.1 (λ x k. array structs _ p.0 (flat_fit structs (items_in x) p.0 (items_fit structs x (ty.Array p.0 false) false k)))
    unary_sound func.Quote t row h w = quote_sound func.Quote t row h (quote_fits structs 34)
    unary_sound func.Squote t row h w = quote_sound func.Squote t row h (quote_fits structs 39)
    unary_sound func.AsPairs t row h w =
        let p = with_some _ (option_and_then plain_first (entry_types t)) row h in
        one_sound _ _ row (call func.AsPairs) p.1 (λ x k. array structs _ _ (pairs_fit structs (rows_in x) p.0.0 p.0.1 (entries_fit structs x p.0.0 p.0.1 k)))
    unary_sound func.AsMap t row h w =
        let p = with_some _ (option_and_then plain_first (option_and_then part_types (item_type t))) row h in
        one_sound _ _ row (call func.AsMap) p.1 (λ x k. as_map_fits structs x p.0.0 p.0.1 k)
    unary_sound func.Keys t row h w =
        let p = with_some _ (option_and_then plain_first (entry_types t)) row h in
        one_sound _ _ row (call func.Keys) p.1 (λ x k. array structs _ p.0.0 (keys_fit structs (rows_in x) p.0.0 p.0.1 (entries_fit structs x p.0.0 p.0.1 k)))
    unary_sound func.CollectByKey t row h w =
        let p = with_some _ (option_and_then plain_first (option_and_then part_types (item_type t))) row h in
        one_sound _ _ row (call func.CollectByKey) p.1 (λ x k. collect_fits structs x p.0.0 p.0.1 k)
    unary_sound func.Defined t row h w = one_sound t ty.Bool row (call func.Defined) h (λ x k. bool_fits structs (is_defined x))
    unary_sound func.SelectFirst t row h w = let p = with_some _ (item_type t) row h in one_sound _ _ row (call func.SelectFirst) p.1 (λ x k. first_fits structs (items_in x) (known_type p.0) (items_fit structs x _ false k))
    unary_sound func.SelectAll t row h w = let p = with_some _ (item_type t) row h in one_sound _ _ row (call func.SelectAll) p.1 (λ x k. array structs _ (known_type p.0) (defined_fit structs (items_in x) (known_type p.0) (items_fit structs x _ false k)))
    unary_sound f t row h w = simple_sound f t row h w

    texts_sound : (f : Func) (t u result : Ty) (row : FuncTyping) → texts_type t u result ≡ Some row → ((x y : Value) → IsOfType structs result (call f (x ∷ y ∷ []))) → Sound row (call f)
    texts_sound f t u result row h k =
        let p = with_some _ (option_and_then plain_only (item_type u)) row (only_some (coerces t ty.Str) _ row h) in
        two_sound ty.Str (array_of p.0) result row (call f) p.1 (λ x y i j. k x y)

    pairing_sound : (f : Func) (t u : Ty) (row : FuncTyping) → pairing_type t u ≡ Some row → ((x y : Value) (a b : Ty) → Fits structs x (ty.Array a false) → Fits structs y (ty.Array b false) → IsOfType structs (ty.Array (ty.Pair a b) false) (call f (x ∷ y ∷ []))) → Sound row (call f)
    pairing_sound f t u row h k =
        let p = with_some _ (item_type t) row h in
        let q = with_some _ (item_type u) row p.1 in
        two_sound _ _ _ row (call f) q.1 (λ x y i j. k x y p.0 q.0 i j)

    both_taken : (f : Func) (t u param result : Ty) (row : FuncTyping) → taking_both t u param result ≡ Some row → ((x y : Value) → Fits structs x param → Fits structs y param → IsOfType structs result (call f (x ∷ y ∷ []))) → Sound row (call f)
    both_taken f t u param result row h = two_sound param param result row (call f) (only_some (coerces t param && coerces u param) (binary param param result) row h)

    binary_sound : (f : Func) (t u : Ty) (row : FuncTyping) → binary_type f t u ≡ Some row → Sound row (call f)
    binary_sound func.Min t u row h = both_taken func.Min t u ty.Int ty.Int row h (least_fits structs)
    binary_sound func.Max t u row h = both_taken func.Max t u ty.Int ty.Int row h (greatest_fits structs)
    binary_sound func.Cross t u row h = pairing_sound func.Cross t u row h (λ x y a b i j. array structs _ (ty.Pair a b) (crossed_fit structs (items_in x) (items_in y) a b (items_fit structs x a false i) (items_fit structs y b false j)))
    binary_sound func.Zip t u row h = pairing_sound func.Zip t u row h (λ x y a b i j. list_of structs (ty.Pair a b) (zipped (items_in x) (items_in y)) (zipped_fit structs (items_in x) (items_in y) a b (items_fit structs x a false i) (items_fit structs y b false j)))
    binary_sound func.Prefix t u row h = texts_sound func.Prefix t u (ty.Array ty.Str false) row h (prefix_fits structs)
    binary_sound func.Suffix t u row h = texts_sound func.Suffix t u (ty.Array ty.Str false) row h (suffix_fits structs)
    binary_sound func.Sep t u row h = texts_sound func.Sep t u ty.Str row h (λ x y. str_fits structs _)
    binary_sound func.Basename t u row h = both_taken func.Basename t u ty.Str ty.Str row h (λ x y i j. str_fits structs _)
    binary_sound f t u row h = cc

    applied_sound : (f : Func) (types : List Ty) (row : FuncTyping) → function_type f types ≡ Some row → writes f ≡ false → Sound row (call f)
    applied_sound f [] row h w = nullary_sound f row h
    applied_sound f (t ∷ []) row h w = unary_sound f t row h w
    applied_sound f (t ∷ u ∷ []) row h w = binary_sound f t u row h
    applied_sound f (t ∷ u ∷ z ∷ more) row h w = cc

  pub functions_fit : (f : Func) (types : List Ty) (row : FuncTyping) → function_type f types ≡ Some row → writes f ≡ false
      → (args : List Value) → args_fit structs args row.args ≡ true → (dir : List ℕ) (answer : Option Answer) → IsOfType structs row.result (apply dir answer f args)
  functions_fit f types row h w args k dir answer = limited_fits structs row.result (applied dir answer f args) (applied_sound dir answer f types row h w args k)
