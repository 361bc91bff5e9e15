use Rattle.std.proofs.Common.{◌≡◌, Some, None, option_map, refl, sym, ◌∙◌, rules}
use Rattle.serde_json.specs.View.{items_view, members_view}
use Rattle.wdl_value.specs.declared.value.Value.TheVariants as v
use Rattle.json_values.specs.Reading.{all_read, item_readers, member_readers}
use Rattle.json_values.proofs.Members.{reader_found, length-member_readers, list_read-some, row_step, no_pair, a_pair}
use Rattle.json_values.proofs.reading.+reading.Goals as goal

pub part_value-returns-in-Some : goal.part_value-returns-in-Some
part_value-returns-in-Some t c =
    let found = reader_found c.args.structs.now c.args.name.now c.args.name.now c.args.members.now.entries (Some c.in-Some.json.now) refl c.in-Some.ensures.value in
    rw found c.read_value.ensures.value

pub part_value-returns-in-None : goal.part_value-returns-in-None
part_value-returns-in-None t c =
    let found = reader_found c.args.structs.now c.args.name.now c.args.name.now c.args.members.now.entries None refl c.in-None.ensures.value in
    rw found refl

pub member_value-returns-in-Some : goal.member_value-returns-in-Some
member_value-returns-in-Some t c =
    let found = reader_found c.args.structs.now c.as_str.result.now c.args.member.now.name c.args.members.now.entries (Some c.in-Some.json.now) c.as_str.ensures.value c.in-Some.ensures.value in
    rw found c.read_value.ensures.value

pub member_value-returns-in-None : goal.member_value-returns-in-None
member_value-returns-in-None t c =
    let found = reader_found c.args.structs.now c.as_str.result.now c.args.member.now.name c.args.members.now.entries None c.as_str.ensures.value c.in-None.ensures.value in
    rw found c.left_out.ensures

pub list_value-returns-in_ok-item_values-in_default : goal.list_value-returns-in_ok-item_values-in_default
list_value-returns-in_ok-item_values-in_default t c =
    let read : c.map.result ≡ option_map v.List (all_read (item_readers c.args.structs.now (items_view c.args.items.now)) c.args.t.now) = search rules in
    read ∙ sym (list_read-some c.args.structs.now c.args.items.now c.args.t.now c.args.some c.in_default.len_at_least)

pub row_values-loop-name-preserved : goal.row_values-loop-name-preserved
row_values-loop-name-preserved t c =
    row_step c.args.structs.now c.args.t.now c.args.u.now c.loop-name.rows c.push.new.self c.loop-name.name-iterator c.next.new.self
    c.in-Some.name.now c.in-Some.json.now c.as_str.result.now c.in-Some-2.key c.in-Some-3.value
    c.in-Some.ensures.steps c.as_str.ensures.value (sym c.in-Some-2.is ∙ c.in_ok-key.ensures.value) (sym c.in-Some-3.is ∙ c.in_ok-value.ensures.value) c.in_ok-push.ensures.ok
    ∙ c.loop-name.invariant

pub pair_value-returns-then-len-ne2 : goal.pair_value-returns-then-len-ne2
pair_value-returns-then-len-ne2 t c =
    no_pair (member_readers c.args.structs.now (members_view c.args.members.now.entries)) c.args.t.now c.args.u.now c.len.result
    (length-member_readers c.args.structs.now c.args.members.now.entries ∙ sym c.len.ensures.len) c.if-len-ne2.true

pub pair_value-returns : goal.pair_value-returns
pair_value-returns t c =
    let left : c.in_ok-new.field-0 ≡ c.in-Some.left = search rules in
    let right : c.in_ok-new-2.field-0 ≡ c.in-Some-2.right = search rules in
    rw (left, right)
    (a_pair (member_readers c.args.structs.now (members_view c.args.members.now.entries)) c.args.t.now c.args.u.now c.len.result c.in-Some.left c.in-Some-2.right
    (length-member_readers c.args.structs.now c.args.members.now.entries ∙ sym c.len.ensures.len) c.if-len-ne2.false
    (sym c.in-Some.is ∙ c.in_ok-left.ensures) (sym c.in-Some-2.is ∙ c.in_ok-right.ensures))
