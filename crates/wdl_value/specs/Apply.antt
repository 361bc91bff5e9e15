-- The values of the functions of the standard library, by the number of their arguments. The functions that write files
-- have no value here: a task lays their files down and knows their names. They, and any list of arguments that fits
-- no row of the table of functions, have the value Absent here.
use Rattle.std.specs.Prelude.{ℕ, List, [], ◌∷◌, Option, Ok}
use Rattle.wdl_base.specs.declared.answer.Answer.{Answer}
use Rattle.wdl_value.specs.declared.operator.Func.{Func}
use Rattle.wdl_value.specs.declared.operator.Func.TheVariants as f
use Rattle.wdl_value.specs.declared.value.Value.{Value}
use Rattle.wdl_value.specs.declared.value.Value.TheVariants as v
use Rattle.wdl_value.specs.Files.{file_text}
use Rattle.wdl_value.specs.Functions.{least, greatest, length_of, range_of, transpose_of, cross_of, zip_of, unzip_of, flatten_of, prefix_of, suffix_of, quote_of, sep_of, as_pairs_of, as_map_of, keys_of, collect_by_key_of, defined_of, select_first_of, select_all_of}
use Rattle.wdl_value.specs.Limits.{limited}
use Rattle.wdl_value.specs.Outcome.{Outcome, and_then}
use Rattle.wdl_value.specs.Paths.{basename_of, basename_without, stdout_of, stderr_of, glob_of}
use Rattle.wdl_value.specs.Reads.{string_read, lines_read, int_read, boolean_read, tsv_read, map_read}
use Rattle.wdl_value.specs.ValueText.{text_of}

abbrev pub applied_to_none : List ℕ → Func → Outcome Value
applied_to_none dir f.Stdout = stdout_of dir
applied_to_none dir f.Stderr = stderr_of dir
applied_to_none dir func = Ok v.Absent

-- what a file's text is read as
abbrev pub reading : Func → List ℕ → Outcome Value
reading f.ReadString text = string_read text
reading f.ReadLines text = lines_read text
reading f.ReadInt text = int_read text
reading f.ReadBoolean text = boolean_read text
reading f.ReadTsv text = tsv_read text
reading f.ReadMap text = map_read text
reading func text = Ok v.Absent

abbrev pub read_by : List ℕ → Option Answer → Func → Value → Outcome Value
read_by dir answer func path = and_then (file_text dir answer (text_of path)) (reading func)

abbrev pub applied_to_one : List ℕ → Option Answer → Func → Value → Outcome Value
applied_to_one dir answer f.Length x = length_of x
applied_to_one dir answer f.Range x = range_of x
applied_to_one dir answer f.Transpose x = transpose_of x
applied_to_one dir answer f.Unzip x = unzip_of x
applied_to_one dir answer f.Flatten x = flatten_of x
applied_to_one dir answer f.Quote x = quote_of 34 x
applied_to_one dir answer f.Squote x = quote_of 39 x
applied_to_one dir answer f.AsPairs x = as_pairs_of x
applied_to_one dir answer f.AsMap x = as_map_of x
applied_to_one dir answer f.Keys x = keys_of x
applied_to_one dir answer f.CollectByKey x = collect_by_key_of x
applied_to_one dir answer f.Defined x = defined_of x
applied_to_one dir answer f.SelectFirst x = select_first_of x
applied_to_one dir answer f.SelectAll x = select_all_of x
applied_to_one dir answer f.Basename x = basename_of x
applied_to_one dir answer f.Glob x = glob_of dir answer x
applied_to_one dir answer f.ReadString x = read_by dir answer f.ReadString x
applied_to_one dir answer f.ReadLines x = read_by dir answer f.ReadLines x
applied_to_one dir answer f.ReadInt x = read_by dir answer f.ReadInt x
applied_to_one dir answer f.ReadBoolean x = read_by dir answer f.ReadBoolean x
applied_to_one dir answer f.ReadTsv x = read_by dir answer f.ReadTsv x
applied_to_one dir answer f.ReadMap x = read_by dir answer f.ReadMap x
applied_to_one dir answer func x = Ok v.Absent

abbrev pub applied_to_two : Func → Value → Value → Outcome Value
applied_to_two f.Min x y = least x y
applied_to_two f.Max x y = greatest x y
applied_to_two f.Cross x y = cross_of x y
applied_to_two f.Zip x y = zip_of x y
applied_to_two f.Prefix x y = prefix_of x y
applied_to_two f.Suffix x y = suffix_of x y
applied_to_two f.Sep x y = sep_of x y
applied_to_two f.Basename x y = basename_without x y
applied_to_two func x y = Ok v.Absent

abbrev pub applied : List ℕ → Option Answer → Func → List Value → Outcome Value
applied dir answer func [] = applied_to_none dir func
applied dir answer func (x ∷ []) = applied_to_one dir answer func x
applied dir answer func (x ∷ y ∷ []) = applied_to_two func x y
applied dir answer func (x ∷ y ∷ z ∷ more) = Ok v.Absent

-- the value of a function, where it keeps the limits of values
abbrev pub apply : List ℕ → Option Answer → Func → List Value → Outcome Value
apply dir answer func args = and_then (applied dir answer func args) limited
