-- The functions by their names (OpenWDL 1.1, "Standard Library").
use Rattle.std.specs.Prelude.{ℕ, Bool, not, ◌&&◌, List, [], ◌∷◌, Option, Some, None, if◌then◌else◌, codes}
use Rattle.std.specs.Str.{bytes_eq}
use Rattle.wdl_value.specs.declared.operator.Func.{Func}
use Rattle.wdl_value.specs.declared.operator.Func.TheVariants as func
use Rattle.wdl_value.specs.FunctionTypes.{reads}

abbrev pub func_among : List (List ℕ × Func) → List ℕ → Option Func
func_among [] name = None
func_among (f ∷ fs) name = if bytes_eq f.0 name then Some f.1 else func_among fs name

unfoldable pub functions : List (List ℕ × Func)
functions =
    (codes "min", func.Min) ∷ (codes "max", func.Max) ∷ (codes "length", func.Length) ∷ (codes "range", func.Range)
    ∷ (codes "transpose", func.Transpose) ∷ (codes "cross", func.Cross) ∷ (codes "zip", func.Zip) ∷ (codes "unzip", func.Unzip)
    ∷ (codes "flatten", func.Flatten) ∷ (codes "prefix", func.Prefix) ∷ (codes "suffix", func.Suffix) ∷ (codes "quote", func.Quote)
    ∷ (codes "squote", func.Squote) ∷ (codes "sep", func.Sep) ∷ (codes "as_pairs", func.AsPairs) ∷ (codes "as_map", func.AsMap)
    ∷ (codes "keys", func.Keys) ∷ (codes "collect_by_key", func.CollectByKey) ∷ (codes "defined", func.Defined)
    ∷ (codes "select_first", func.SelectFirst) ∷ (codes "select_all", func.SelectAll) ∷ (codes "basename", func.Basename)
    ∷ (codes "stdout", func.Stdout) ∷ (codes "stderr", func.Stderr) ∷ (codes "glob", func.Glob)
    ∷ (codes "read_string", func.ReadString) ∷ (codes "read_lines", func.ReadLines) ∷ (codes "read_int", func.ReadInt)
    ∷ (codes "read_boolean", func.ReadBoolean) ∷ (codes "read_tsv", func.ReadTsv) ∷ (codes "read_map", func.ReadMap)
    ∷ (codes "write_lines", func.WriteLines) ∷ (codes "write_tsv", func.WriteTsv) ∷ (codes "write_map", func.WriteMap) ∷ []

abbrev pub func_of : List ℕ → Option Func
func_of = func_among functions

-- functions that see what a command left may stand in task outputs alone
abbrev pub reads_early : Bool → Func → Bool
reads_early outputs f = reads f && not outputs
