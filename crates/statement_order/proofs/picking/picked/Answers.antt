use Rattle.std.proofs.Common.{rules, ◌≡◌, ◌<◌, ◌++◌, ◌∷◌, [], ℕ, Some, None, length, get_or, slice_get, take, sym, ap, ◌∙◌, subst, append-nil}
use Rattle.std.proofs.lemmas.List.{get_or_default, length-map, length-set}
use Rattle.wdl_order.proofs.Numbers.{below_each, differ_at, has_at}
use Rattle.statement_order.proofs.Slots.{picked_more, slot_at, slots_left}
use Rattle.wdl_typed.specs.Order.{option_list, picked}
use Rattle.statement_order.proofs.picking.picked.Goals as goal

pub loop-at-init : goal.loop-at-init
loop-at-init g c = record {
  items = c.new-items.ensures;
  long = ap length c.in_ok-slots.ensures ∙ length-map c.args.list Some;
  slots = λ k h. ap (λ xs. get_or xs k None) c.in_ok-slots.ensures ∙ slot_at c.args.list k;
}

pub index_mut-requires : goal.index_mut-requires
index_mut-requires g c =
    let i : c.loop-at.at-index < length c.args.positions.now = search rules in
    let l : get_or c.args.positions.now c.loop-at.at-index 0 < length c.loop-at.slots.items =
    subst (λ n. get_or c.args.positions.now c.loop-at.at-index 0 < n) (sym c.loop-at.invariant.long)
    (below_each (length c.args.list) c.args.positions.now c.requires.below _ (has_at c.args.positions.now c.loop-at.at-index i)) in
    search rules

pub loop-at-preserved-in_default : goal.loop-at-preserved-in_default
loop-at-preserved-in_default g c =
    let i : c.loop-at.at-index < length c.args.positions.now = search rules in
    let at : ℕ = get_or c.args.positions.now c.loop-at.at-index 0 in
    let l : get_or c.args.positions.now c.loop-at.at-index 0 < length c.loop-at.slots.items =
    subst (λ n. get_or c.args.positions.now c.loop-at.at-index 0 < n) (sym c.loop-at.invariant.long)
    (below_each (length c.args.list) c.args.positions.now c.requires.below _ (has_at c.args.positions.now c.loop-at.at-index i)) in
    let read : c.take.result ≡ slice_get c.args.list at =
    c.take.ensures.value ∙ c.index_mut.ensures.value ∙ get_or_default c.loop-at.slots.items at c.index_mut.result.now None l
    ∙ c.loop-at.invariant.slots at (differ_at c.args.positions.now c.loop-at.at-index c.requires.differ i) in
    record {
      items = c.loop-at.invariant.items ∙ sym (append-nil (picked c.args.list (take c.loop-at.at-index c.args.positions.now)))
          ∙ ap (λ o. picked c.args.list (take c.loop-at.at-index c.args.positions.now) ++ option_list o) (sym c.in_default.is ∙ read)
          ∙ sym (picked_more c.args.list c.args.positions.now c.loop-at.at-index i);
      long = length-set c.loop-at.slots.items at c.take.new.self ∙ c.loop-at.invariant.long;
      slots = slots_left c.args.list c.loop-at.slots.items c.args.positions.now c.loop-at.at-index c.take.new.self i c.loop-at.invariant.slots;
    }

pub loop-at-preserved : goal.loop-at-preserved
loop-at-preserved g c =
    let i : c.loop-at.at-index < length c.args.positions.now = search rules in
    let at : ℕ = get_or c.args.positions.now c.loop-at.at-index 0 in
    let l : get_or c.args.positions.now c.loop-at.at-index 0 < length c.loop-at.slots.items =
    subst (λ n. get_or c.args.positions.now c.loop-at.at-index 0 < n) (sym c.loop-at.invariant.long)
    (below_each (length c.args.list) c.args.positions.now c.requires.below _ (has_at c.args.positions.now c.loop-at.at-index i)) in
    let read : c.take.result ≡ slice_get c.args.list at =
    c.take.ensures.value ∙ c.index_mut.ensures.value ∙ get_or_default c.loop-at.slots.items at c.index_mut.result.now None l
    ∙ c.loop-at.invariant.slots at (differ_at c.args.positions.now c.loop-at.at-index c.requires.differ i) in
    record {
      items = c.in_ok-push.ensures.ok ∙ ap (λ xs. xs ++ c.in-Some.item ∷ []) c.loop-at.invariant.items
          ∙ ap (λ o. picked c.args.list (take c.loop-at.at-index c.args.positions.now) ++ option_list o) (sym c.in-Some.is ∙ read)
          ∙ sym (picked_more c.args.list c.args.positions.now c.loop-at.at-index i);
      long = length-set c.loop-at.slots.items at c.take.new.self ∙ c.loop-at.invariant.long;
      slots = slots_left c.args.list c.loop-at.slots.items c.args.positions.now c.loop-at.at-index c.take.new.self i c.loop-at.invariant.slots;
    }
