use Rattle.std.proofs.Common.{◌≡◌, ◌&&◌, ◌+◌, not, true, false, List, [], ℕ, ap, sym, cond, take, drop, ◌∙◌}
use Rattle.std.specs.BTreeSet.{contains_text}
use Rattle.std.specs.Str.{bytes_eq}
use Rattle.std.proofs.lemmas.Map.Text.{btree_set_updates_text}
use Rattle.wdl_ast.specs.declared.leaf.Ident.{Ident}
use Rattle.wdl_check_rules.specs.Checked.{first_stray}
use Rattle.wdl_check_rules.specs.Members.{is_member, is_listed}
use Rattle.wdl_check_rules.specs.Typed.{idents}
use Rattle.wdl_check_rules.proofs.MemberLaws.{idents_front, idents_end, stray_found, stray_passed, left_less}
use Rattle.wdl_check_rules.proofs.literal_members.first_stray.Goals as goal

pub returns-then-not-remove : goal.returns-then-not-remove
returns-then-not-remove c =
    let es = c.args.entries.now in
    let i = c.loop-entry.entry-index in
    let e = c.entry-item.result in
    let n = e.item.name in
    let gone : contains_text c.loop-entry.left n.name ≡ false = ap (contains_text c.loop-entry.left) (sym c.as_str.ensures.value) ∙ sym c.remove.ensures.test ∙ c.if-not-remove.true in
    stray_found c.args.members.now (idents (take i es)) (idents (drop (i + 1) es)) n (first_stray c.args.members.now [] (idents es)) (contains_text c.loop-entry.left n.name) (c.loop-entry.invariant.left n.name) gone
    (ap (first_stray c.args.members.now (idents (take i es))) (sym (idents_front es i e c.loop-entry-test.true c.entry-item.is)) ∙ c.loop-entry.invariant.same)

pub loop-entry-preserved : goal.loop-entry-preserved
loop-entry-preserved c =
    let es = c.args.entries.now in
    let i = c.loop-entry.entry-index in
    let e = c.entry-item.result in
    let n = e.item.name in
    let ms = c.args.members.now in
    let before = idents (take i es) in
    let is_there : contains_text c.loop-entry.left n.name ≡ true = ap (contains_text c.loop-entry.left) (sym c.as_str.ensures.value) ∙ sym c.remove.ensures.test ∙ c.if-not-remove.false in
    let end = idents_end es i e c.loop-entry-test.true c.entry-item.is in
    record {
      left = λ q.
          let put = btree_set_updates_text c.as_str.result.now c.loop-entry.left c.remove.new.self false c.remove.ensures.updates q in
          left_less ms before n q (contains_text c.loop-entry.left q) (contains_text c.remove.new.self q)
          (put ∙ ap (λ (bytes : List ℕ). cond (bytes_eq bytes q) false (contains_text c.loop-entry.left q)) c.as_str.ensures.value) (c.loop-entry.invariant.left q)
          ∙ ap (λ (ns : List Ident). is_member ms q && not (is_listed ns q)) (sym end);
      same =
          ap (λ (ns : List Ident). first_stray ms ns (idents (drop (i + 1) es))) end
          ∙ stray_passed ms before (idents (drop (i + 1) es)) n (first_stray ms [] (idents es)) (contains_text c.loop-entry.left n.name) (c.loop-entry.invariant.left n.name) is_there
          (ap (first_stray ms before) (sym (idents_front es i e c.loop-entry-test.true c.entry-item.is)) ∙ c.loop-entry.invariant.same);
    }
