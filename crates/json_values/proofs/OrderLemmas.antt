-- The members of a text that is read as JSON are in byte order.
use Rattle.std.proofs.Common.{◌≡◌, ℕ, Bool, true, ◌&&◌, List, Some, option_map, option_and_then, Ordering, Less, Equal, Greater, nat_cmp, refl, sym, ap, ◌∙◌}
use Rattle.std.proofs.lemmas.Bool.{false≢true, and_parts, and_from}
use Rattle.std.proofs.lemmas.Cmp.{nat_list_cmp_total}
use Rattle.std.specs.Cmp.Lexicographic.{slice_cmp}
use Rattle.std.specs.Ordering.{is_lt, match_ordering, ordering_reverse}
use Rattle.json.specs.Json as json
use Rattle.json.specs.Lex.{tokens}
use Rattle.serde_json.specs.Data.{Data, null, boolean, number, string, array, object, Items, no_items, item, Members, no_members, member, put}
use Rattle.serde_json.specs.Read.{read, max_depth, of_json, of_items, of_members, number_of}
use Rattle.json_values.specs.Ordered.{is_before, is_first, is_ordered, items_ordered, members_ordered}
use Rattle.wdl_base.proofs.Options.{map_parts, then_parts}

less : (o : Ordering) → is_lt o ≡ true → o ≡ Less
less Less h = refl
less Equal h = absurd (false≢true h)
less Greater h = absurd (false≢true h)

before_trans : (k l m : List ℕ) → is_before k l ≡ true → is_before l m ≡ true → is_before k m ≡ true
before_trans k l m h i = ap is_lt (nat_list_cmp_total.trans k l m (less (slice_cmp nat_cmp k l) h) (less (slice_cmp nat_cmp l m) i))

-- what stands before a name stands before all that this name stands before
first_trans : (k l : List ℕ) (ms : Members) → is_before k l ≡ true → is_first l ms ≡ true → is_first k ms ≡ true
first_trans k l no_members h i = refl
first_trans k l (member m d ms) h i =
    let p = and_parts (is_before l m) (is_first l ms) i in
    and_from (is_before k m) (is_first k ms) (before_trans k l m h p.0) (first_trans k l ms h p.1)

first_put : (j k : List ℕ) (d : Data) (ms : Members) → is_before j k ≡ true → is_first j ms ≡ true → is_first j (put k d ms) ≡ true
first_put j k d no_members h i = and_from (is_before j k) true h refl
first_put j k d (member l e ms) h i = by_order (slice_cmp nat_cmp k l) (first_put j k d ms h (and_parts (is_before j l) (is_first j ms) i).1)
  where
    by_order : (o : Ordering) → is_first j (put k d ms) ≡ true → is_first j (match_ordering o (member k d (member l e ms)) (member l d ms) (member l e (put k d ms))) ≡ true
    by_order Less rest = and_from (is_before j k) (is_first j (member l e ms)) h i
    by_order Equal rest = i
    by_order Greater rest = and_from (is_before j l) (is_first j (put k d ms)) (and_parts (is_before j l) (is_first j ms) i).0 rest

after : (k l : List ℕ) → slice_cmp nat_cmp k l ≡ Greater → is_before l k ≡ true
after k l h = ap is_lt (nat_list_cmp_total.antisymm l k ∙ ap ordering_reverse h)

three : (a b c : Bool) → a && b && c ≡ true → (a ≡ true) × (b ≡ true) × (c ≡ true)
three a b c h = let p = and_parts (a && b) c h in let q = and_parts a b p.0 in (q.0, q.1, p.1)

of_three : (a b c : Bool) → a ≡ true → b ≡ true → c ≡ true → a && b && c ≡ true
of_three a b c h i j = and_from (a && b) c (and_from a b h i) j

pub put_ordered : (k : List ℕ) (d : Data) (ms : Members) → is_ordered d ≡ true → members_ordered ms ≡ true → members_ordered (put k d ms) ≡ true
put_ordered k d no_members h i = of_three true (is_ordered d) true refl h refl
put_ordered k d (member l e ms) h i =
    let p = three (is_first l ms) (is_ordered e) (members_ordered ms) i in
    by_order (slice_cmp nat_cmp k l) refl p.0 p.1 p.2 (put_ordered k d ms h p.2)
  where
    by_order : (o : Ordering) → slice_cmp nat_cmp k l ≡ o → is_first l ms ≡ true → is_ordered e ≡ true → members_ordered ms ≡ true → members_ordered (put k d ms) ≡ true
        → members_ordered (match_ordering o (member k d (member l e ms)) (member l d ms) (member l e (put k d ms))) ≡ true
    by_order Less is first own more rest =
        let before : is_before k l ≡ true = ap is_lt is in
        of_three (is_before k l && is_first k ms) (is_ordered d) (members_ordered (member l e ms)) (and_from (is_before k l) (is_first k ms) before (first_trans k l ms before first)) h i
    by_order Equal is first own more rest = of_three (is_first l ms) (is_ordered d) (members_ordered ms) first h more
    by_order Greater is first own more rest =
        of_three (is_first l (put k d ms)) (is_ordered e) (members_ordered (put k d ms)) (first_put l k d ms (after k l is) first) own rest

-- ---- what JSON is read as

mutual
  of_json_ordered : (j : json.Json) (d : Data) → of_json j ≡ Some d → is_ordered d ≡ true
  of_json_ordered json.null d h = let e : null ≡ d = cc in ap is_ordered (sym e)
  of_json_ordered (json.boolean b) d h = let e : boolean b ≡ d = cc in ap is_ordered (sym e)
  of_json_ordered (json.number s) d h = let p = map_parts number (number_of s) d h in ap is_ordered (sym p.2)
  of_json_ordered (json.string s) d h = let e : string s ≡ d = cc in ap is_ordered (sym e)
  of_json_ordered (json.array js) d h = let p = map_parts array (of_items js) d h in ap is_ordered (sym p.2) ∙ of_items_ordered js p.0 p.1
  of_json_ordered (json.object ms) d h = let p = map_parts object (of_members ms no_members) d h in ap is_ordered (sym p.2) ∙ of_members_ordered ms no_members p.0 refl p.1

  of_items_ordered : (js : json.Items) (ds : Items) → of_items js ≡ Some ds → items_ordered ds ≡ true
  of_items_ordered json.no_items ds h = let e : no_items ≡ ds = cc in ap items_ordered (sym e)
  of_items_ordered (json.item j js) ds h =
      let p = then_parts (λ d. option_map (item d) (of_items js)) (of_json j) ds h in
      let q = map_parts (item p.0) (of_items js) ds p.2 in
      ap items_ordered (sym q.2) ∙ and_from (is_ordered p.0) (items_ordered q.0) (of_json_ordered j p.0 p.1) (of_items_ordered js q.0 q.1)

  of_members_ordered : (js : json.Members) (found ms : Members) → members_ordered found ≡ true → of_members js found ≡ Some ms → members_ordered ms ≡ true
  of_members_ordered json.no_members found ms own h = let e : found ≡ ms = cc in ap members_ordered (sym e) ∙ own
  of_members_ordered (json.member k j js) found ms own h =
      let p = then_parts (λ d. of_members js (put k d found)) (of_json j) ms h in
      of_members_ordered js (put k p.0 found) ms (put_ordered k p.0 found (of_json_ordered j p.0 p.1) own) p.2

pub read_ordered : (text : List ℕ) (d : Data) → read text ≡ Some d → is_ordered d ≡ true
read_ordered text d h =
    let p = then_parts of_json (option_and_then (λ q. json.if_last q.0 q.1) (json.value max_depth (tokens text))) d h in
    of_json_ordered p.0 d p.2
