-- Functions of texts and files fit the results of their rows.
use Rattle.std.proofs.Common.{◌≡◌, ℕ, ◌==◌, Bool, true, false, cond, ◌&&◌, List, [], ◌∷◌, ◌++◌, Option, Ok, Err, ℤ, pos, refl, codes}
use Rattle.std.proofs.lemmas.Bool.{and_parts, and_from}
use Rattle.std.specs.Str.{chars, bytes_eq}
use Rattle.std.specs.Str.Lines.{lines}
use Rattle.wdl_base.specs.declared.answer.Answer.{Answer}
use Rattle.wdl_base.specs.declared.body.Seen.{Seen}
use Rattle.wdl_value.specs.declared.ty.Ty.{Ty}
use Rattle.wdl_value.specs.declared.ty.Ty.TheVariants as ty
use Rattle.wdl_value.specs.declared.value.Value.{Value}
use Rattle.wdl_value.specs.declared.value.Value.TheVariants as v
use Rattle.wdl_base.specs.declared.fault.EvalCode.TheVariants.{BodyLong, NotAnInteger, NotABoolean}
use Rattle.wdl_value.specs.Files.{file_text}
use Rattle.wdl_value.specs.Paths.{files_of, glob_of, in_directory, lacks_names, matching, path_matches}
use Rattle.wdl_value.specs.Reads.{cells, lines_read, row_read, tsv_read, digits_after, are_digits, numeral_read, minus, signed_read, word_read, pair_read, pairs_read, map_read}
use Rattle.wdl_value.specs.Fits.{Structs, is_int, fits}
use Rattle.wdl_value.specs.Functions.{prefix_of, suffix_of, quoted, quote_of, as_map_of}
use Rattle.wdl_value.specs.Outcome.{Outcome, and_then}
use Rattle.wdl_value.specs.Parts.{items_in}
use Rattle.wdl_value.specs.ValueText.{text_of}
use Rattle.wdl_value.proofs.FitsForms.{all_fit, bool_fits, int_fits, str_fits, file_fits, pair_fits}
use Rattle.wdl_stdlib.specs.Laws.{IsOfType}
use Rattle.wdl_stdlib.proofs.PartsFit.{AllFit, Fits, all_made, array}
use Rattle.wdl_stdlib.proofs.ListsFit.{AllOf, cons_all}
use Rattle.wdl_stdlib.proofs.MapsFit.{as_map_fits}

module _ (structs : Structs) where
  -- ---- texts

  pub prefix_fits : (before x : Value) → IsOfType structs (ty.Array ty.Str false) (prefix_of before x)
  prefix_fits before x = array structs _ ty.Str (all_made structs (λ item. v.Str (text_of before ++ text_of item)) ty.Str (λ y. str_fits structs _) (items_in x))

  pub suffix_fits : (after x : Value) → IsOfType structs (ty.Array ty.Str false) (suffix_of after x)
  suffix_fits after x = array structs _ ty.Str (all_made structs (λ item. v.Str (text_of item ++ text_of after)) ty.Str (λ y. str_fits structs _) (items_in x))

  pub quote_fits : (mark : ℕ) (x : Value) → IsOfType structs (ty.Array ty.Str false) (quote_of mark x)
  quote_fits mark x = array structs _ ty.Str (all_made structs (quoted mark) ty.Str (λ y. str_fits structs _) (items_in x))

  -- ---- files

  matching_fit : (dir pattern : List ℕ) (files : List Seen) → AllFit structs (matching dir pattern files) ty.File
  matching_fit dir pattern [] = refl
  matching_fit dir pattern (file ∷ files) =
      let rest = matching_fit dir pattern files in
      elim (path_matches pattern (chars file.name)) as (λ b. all_fit structs (cond b (in_directory dir file.name ∷ matching dir pattern files) (matching dir pattern files)) ty.File ≡ true) [
        | true ↦ and_from (fits structs (in_directory dir file.name) ty.File) _ (file_fits structs _) rest
        | false ↦ rest
      ]

  pub glob_fits : (dir : List ℕ) (answer : Option Answer) (pattern : Value) → IsOfType structs (ty.Array ty.File false) (glob_of dir answer pattern)
  glob_fits dir answer pattern =
      let files = array structs _ ty.File (matching_fit dir (chars (text_of pattern)) (files_of answer)) in
      elim (lacks_names answer) as (λ b. IsOfType structs (ty.Array ty.File false) (cond b (Err BodyLong) (Ok (v.List (matching dir (chars (text_of pattern)) (files_of answer)))))) [
        | true ↦ tt
        | false ↦ files
      ]

  pub lines_fit : (text : List ℕ) → IsOfType structs (ty.Array ty.Str false) (lines_read text)
  lines_fit text = array structs _ ty.Str (all_made structs v.Str ty.Str (str_fits structs) (lines text))

  row_fits : (line : List ℕ) → Fits structs (row_read line) (ty.Array ty.Str false)
  row_fits line = array structs _ ty.Str (all_made structs v.Str ty.Str (str_fits structs) (cells line))

  pub tsv_fits : (text : List ℕ) → IsOfType structs (ty.Array (ty.Array ty.Str false) false) (tsv_read text)
  tsv_fits text = array structs _ (ty.Array ty.Str false) (all_made structs row_read (ty.Array ty.Str false) row_fits (lines text))

  numeral_fits : (sign : ℕ → ℤ) (digits : List ℕ) → IsOfType structs ty.Int (numeral_read sign digits)
  numeral_fits sign digits = by_test (are_digits digits && is_int (sign (digits_after 0 digits))) refl
    where
      by_test : (b : Bool) → (are_digits digits && is_int (sign (digits_after 0 digits))) ≡ b → IsOfType structs ty.Int (cond b (Ok (v.Int (sign (digits_after 0 digits)))) (Err NotAnInteger))
      by_test true e = int_fits structs _ (and_parts (are_digits digits) _ e).1
      by_test false e = tt

  pub signed_fits : (text : List ℕ) → IsOfType structs ty.Int (signed_read text)
  signed_fits [] = tt
  signed_fits (c ∷ cs) =
      elim (c == 45) as (λ b. IsOfType structs ty.Int (cond b (numeral_read minus cs) (cond (c == 43) (numeral_read pos cs) (numeral_read pos (c ∷ cs))))) [
        | true ↦ numeral_fits minus cs
        | false ↦ elim (c == 43) as (λ b. IsOfType structs ty.Int (cond b (numeral_read pos cs) (numeral_read pos (c ∷ cs)))) [ true ↦ numeral_fits pos cs | false ↦ numeral_fits pos (c ∷ cs) ]
      ]

  pub word_fits : (word : List ℕ) → IsOfType structs ty.Bool (word_read word)
  word_fits word = by_tests (bytes_eq word (codes "true")) (bytes_eq word (codes "false"))
    where
      by_tests : (a b : Bool) → IsOfType structs ty.Bool (cond a (Ok (v.Bool true)) (cond b (Ok (v.Bool false)) (Err NotABoolean)))
      by_tests true b = bool_fits structs true
      by_tests false true = bool_fits structs false
      by_tests false false = tt

  pair_read_fits : (cs : List (List ℕ)) → IsOfType structs (ty.Pair ty.Str ty.Str) (pair_read cs)
  pair_read_fits (key ∷ value ∷ []) = pair_fits structs (v.Str key) (v.Str value) ty.Str ty.Str (str_fits structs key) (str_fits structs value)
  pair_read_fits [] = tt
  pair_read_fits (key ∷ []) = tt
  pair_read_fits (key ∷ value ∷ more ∷ rest) = tt

  next_pair_fits : (r : Outcome Value) (rs : Outcome (List Value)) (t : Ty) → IsOfType structs t r → AllOf structs t rs → AllOf structs t (and_then r (λ pair. and_then rs (λ pairs. Ok (pair ∷ pairs))))
  unfolding AllOf
  next_pair_fits (Ok x) rs t h k = cons_all structs x t rs h k
  next_pair_fits (Err c) rs t h k = tt

  pairs_read_fit : (ls : List (List ℕ)) → AllOf structs (ty.Pair ty.Str ty.Str) (pairs_read ls)
  unfolding AllOf
  pairs_read_fit [] = refl
  pairs_read_fit (line ∷ more) = next_pair_fits (pair_read (cells line)) (pairs_read more) (ty.Pair ty.Str ty.Str) (pair_read_fits (cells line)) (pairs_read_fit more)

  pub map_read_fits : (text : List ℕ) → IsOfType structs (ty.Map ty.Str ty.Str) (map_read text)
  unfolding AllOf
  map_read_fits text = by_pairs (pairs_read (lines text)) (pairs_read_fit (lines text))
    where
      by_pairs : (r : Outcome (List Value)) → AllOf structs (ty.Pair ty.Str ty.Str) r → IsOfType structs (ty.Map ty.Str ty.Str) (and_then r (λ pairs. as_map_of (v.List pairs)))
      by_pairs (Ok pairs) h = as_map_fits structs (v.List pairs) ty.Str ty.Str (array structs pairs (ty.Pair ty.Str ty.Str) h)
      by_pairs (Err c) h = tt

  pub read_fits : (dir : List ℕ) (answer : Option Answer) (path : Value) (t : Ty) (f : List ℕ → Outcome Value) → ((text : List ℕ) → IsOfType structs t (f text)) → IsOfType structs t (and_then (file_text dir answer (text_of path)) f)
  read_fits dir answer path t f h = by_text (file_text dir answer (text_of path))
    where
      by_text : (r : Outcome (List ℕ)) → IsOfType structs t (and_then r f)
      by_text (Ok text) = h text
      by_text (Err c) = tt
