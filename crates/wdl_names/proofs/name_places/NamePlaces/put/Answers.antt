use Rattle.std.proofs.Common.{◌≡◌, Some, cond, string_bytes, rules, ap, ◌∙◌}
use Rattle.std.specs.BTreeMap.{get_by_text}
use Rattle.std.specs.Str.{bytes_eq}
use Rattle.std.proofs.lemmas.Map.Text.{btree_map_updates_text}
use Rattle.wdl_names.proofs.name_places.NamePlaces.put.Goals as goal

pub returns-clause-ok : goal.returns-clause-ok
returns-clause-ok c = λ other.
    let key = c.in_ok-text.text in
    let same : string_bytes key ≡ c.args.name.now = search rules in
    btree_map_updates_text (string_bytes key) c.args.self.now.places c.insert.new.self (Some c.args.place) c.in_ok-insert.ensures.updates other
    ∙ ap (λ bytes. cond (bytes_eq bytes other) (Some c.args.place) (get_by_text c.args.self.now.places other)) same
