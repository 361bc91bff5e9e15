use Rattle.std.proofs.Common.{◌≡◌, ◌++◌, IfOk, Some, None, cond, codes, string_bytes, List, ℕ, Option, rules, ap, sym, ◌∙◌, subst}
use Rattle.std.specs.Fmt.{signed_decimal}
use Rattle.std.specs.Option.{option_map}
use Rattle.wdl_value.proofs.ValueTextLemmas.{is_int-fits}
use Rattle.wdl_eval.specs.Marks.{int_mark}
use Rattle.wdl_eval.proofs.keys.int_mark.Goals as goal

pub returns : goal.returns
returns c =
    let n = c.args.n in
    let text : c.as_str.result.now ≡ signed_decimal n = search rules in
    let mark : Some (codes "i" ++ c.as_str.result.now) ≡ int_mark n =
    ap (λ (s : List ℕ). Some (codes "i" ++ s)) text ∙ sym (ap (λ b. cond b (Some (codes "i" ++ signed_decimal n)) None) (is_int-fits n c.ranges.n)) in
    subst (λ (m : Option (List ℕ)). IfOk c.marked.result (λ o. option_map string_bytes o ≡ m)) mark c.marked.ensures
