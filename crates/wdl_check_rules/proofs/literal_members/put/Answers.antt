use Rattle.std.proofs.Common.{◌≡◌, List, ℕ, Option, Some, ap, cond, ◌∙◌, string_bytes, rules}
use Rattle.std.specs.BTreeMap.{get_by_text}
use Rattle.std.specs.Str.{bytes_eq}
use Rattle.std.proofs.lemmas.Map.Text.{btree_map_updates_text}
use Rattle.wdl_check_rules.specs.declared.literal_members.MemberValue.{MemberValue}
use Rattle.wdl_check_rules.proofs.literal_members.put.Goals as goal

pub returns : goal.returns
returns c = λ q.
    let same : string_bytes c.in_ok-name.name ≡ c.args.given.name = search rules in
    let put = btree_map_updates_text (string_bytes c.in_ok-name.name) c.args.names.now c.insert.new.self (Some c.args.given) c.in_ok-insert.ensures.updates q in
    put ∙ ap (λ (bytes : List ℕ). cond {A = Option MemberValue} (bytes_eq bytes q) (Some c.args.given) (get_by_text c.args.names.now q)) same
