use Rattle.std.proofs.Common.{◌≡◌, List, ℕ, String, Some, None, cond, string_bytes, rules, sym, ap, ◌∙◌}
use Rattle.std.specs.BTreeMap.{BTreeMap, get_by_text}
use Rattle.std.specs.Global.{Global}
use Rattle.std.specs.Str.{bytes_eq}
use Rattle.std.proofs.lemmas.Map.Text.{btree_map_updates_text}
use Rattle.wdl_names.specs.declared.name_places.NamePlaces.{NamePlaces}
use Rattle.wdl_names.proofs.KeyLemmas.{output_put, output_put_err, output_put_ok, second_place}
use Rattle.wdl_names.proofs.key_places.KeyPlaces.put_output.Goals as goal

pub returns-in-Some-clause-ok : goal.returns-in-Some-clause-ok
returns-in-Some-clause-ok c =
    let old = c.args.self.now.outputs in
    let more = c.put.new.self in
    let text = c.as_str.result.now in
    let new = c.get_mut.follows.lender more in
    output_put_ok c.args.self.now.alone more old new c.args.first.now
    (λ name.
    btree_map_updates_text text old new (Some more) ((c.get_mut.follows.holds more).3 (search rules)) name
    ∙ ap (λ (bytes : List ℕ). cond (bytes_eq bytes name) (Some more) (get_by_text old name)) c.as_str.ensures.value)
    c.put.result c.in-Some.outputs.now c.args.second.now c.args.place (ap (get_by_text old) (sym c.as_str.ensures.value) ∙ sym c.in-Some.ensures.value) c.put.ensures.ok

pub returns-in-Some-clause-err : goal.returns-in-Some-clause-err
returns-in-Some-clause-err c =
    let old = c.args.self.now.outputs in
    let more = c.put.new.self in
    let text = c.as_str.result.now in
    let new = c.get_mut.follows.lender more in
    output_put_err c.args.self.now.alone more old new text
    (λ name. btree_map_updates_text text old new (Some more) ((c.get_mut.follows.holds more).3 (search rules)) name)
    c.put.result c.in-Some.outputs.now (sym c.in-Some.ensures.value) c.put.ensures.err

pub returns-clause-ok : goal.returns-clause-ok
returns-clause-ok c =
    let old = c.args.self.now.outputs in
    let left = c.get_mut.follows.lender-at-none in
    let more = c.put-2.new.self in
    let key = c.in_ok-text.text in
    let first = c.args.first.now in
    let second = c.args.second.now in
    let same : string_bytes key ≡ first = search rules in
    let kept : left ≡ old = c.get_mut.follows.holds-at-none in
    let none : get_by_text old first ≡ None = ap (get_by_text old) (sym c.as_str.ensures.value) ∙ sym c.in_default.ensures.value in
    output_put c.args.self.now.alone more old c.insert.new.self first
    (λ name.
    btree_map_updates_text (string_bytes key) left c.insert.new.self (Some more) c.in_ok-insert.ensures.updates name
    ∙ ap (λ (bytes : List ℕ). cond (bytes_eq bytes name) (Some more) (get_by_text left name)) same
    ∙ ap (λ (m : BTreeMap (String Global) NamePlaces). cond (bytes_eq first name) (Some more) (get_by_text m name)) kept)
    second c.args.place
    (λ name. c.in_ok-put.ensures.ok name ∙ ap (cond (bytes_eq second name) (Some c.args.place)) (c.empty-outputs.ensures name ∙ ap (second_place name) (sym none)))
