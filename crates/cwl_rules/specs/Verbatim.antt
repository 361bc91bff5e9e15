-- What is left of a command, behind characters that were read.
use Rattle.std.specs.Prelude.{ℕ, Bool, false, not, ◌&&◌, List, Option, Some, None, map}
use Rattle.std.specs.List.{list_any}
use Rattle.wdl_typed.specs.declared.expr.TExpr.{TExpr}
use Rattle.wdl_typed.specs.declared.expr.TPart.{TPart}
use Rattle.cwl_image.specs.Subset.{command_marks, is_dark, is_verbatim, opens}

-- nothing is broken from here on, where the last character was `$` or another one
abbrev pub goes_on : Bool → List (Option ℕ) → Bool
goes_on dollar ms = not (dollar && opens ms) && is_verbatim ms

-- the same where something may be broken already
abbrev pub resumed : Option Bool → List (Option ℕ) → Bool
resumed None ms = false
resumed (Some dollar) ms = goes_on dollar ms

abbrev pub chars : List ℕ → List (Option ℕ)
chars s = map (λ (c : ℕ). Some c) s

abbrev pub has_dark : List (TPart TExpr) → Bool
has_dark parts = list_any is_dark (command_marks parts)

abbrev pub parts_go_on : Bool → List (TPart TExpr) → Bool
parts_go_on dollar parts = goes_on dollar (command_marks parts)
