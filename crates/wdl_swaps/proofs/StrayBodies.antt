-- The path of a body.
use Rattle.std.proofs.Common.{◌≡◌, ℕ, List, ◌++◌, length, take, ap, ◌∙◌}
use Rattle.std.proofs.Math.Seq.{take-append_seam}

-- a path that grew, cut back
pub path_kept : {A : Type 0} (start more path : List A) (count : ℕ) → path ≡ start ++ more → count ≡ length start → take count path ≡ start
path_kept start more path count grown is =
    ap (λ k. take k path) is ∙ ap (take (length start)) grown ∙ take-append_seam start more
