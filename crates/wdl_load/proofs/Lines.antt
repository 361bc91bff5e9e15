-- The lines of the calls.
use Rattle.std.proofs.Common.{◌≡◌, ℕ, suc, ◌+◌, ◌-◌, ◌<◌, List, ◌++◌, map, ap, sym, ◌∙◌, append_assoc, arith}
use Rattle.std.specs.List.{concat, range_with_len}
use Rattle.wdl_load.specs.Loads.{call_line}

abbrev pub lines_from : ℕ → ℕ → List ℕ
lines_from k n = concat (map call_line (range_with_len k (n - k)))

-- the line of a call and those behind it
pub next_line : (k n : ℕ) → k < n → lines_from k n ≡ call_line k ++ lines_from (k + 1) n
next_line k n h = let e : n - k ≡ suc (n - (k + 1)) = omega arith in ap (λ m. concat (map call_line (range_with_len k m))) e

-- one line more
pub one_line : (k n : ℕ) (old new initial : List ℕ) → k < n → new ≡ old ++ call_line k → old ++ lines_from k n ≡ initial → new ++ lines_from (k + 1) n ≡ initial
one_line k n old new initial h e f =
    ap (λ x. x ++ lines_from (k + 1) n) e ∙ append_assoc old (call_line k) (lines_from (k + 1) n) ∙ ap (λ x. old ++ x) (sym (next_line k n h)) ∙ f
