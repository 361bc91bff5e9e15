-- The characters of commands.
use Rattle.std.proofs.Common.{◌≡◌, ◌||◌, ◌++◌, ℕ, List, Option}
use Rattle.std.specs.List.{list_any}
use Rattle.std.proofs.lemmas.List.Folds.{list_any-append}
use Rattle.cwl_image.specs.Subset.{is_dark}

pub dark_append : (xs ys : List (Option ℕ)) → list_any is_dark (xs ++ ys) ≡ (list_any is_dark xs || list_any is_dark ys)
dark_append xs ys = list_any-append is_dark xs ys
