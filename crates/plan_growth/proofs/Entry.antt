-- What entering a body makes of a net: an instance behind all that was there.
use Rattle.std.proofs.Common.{◌≡◌, ℕ, ◌+◌, ◌<◌, ◌≤◌, List, [], ◌∷◌, ◌++◌, map, length, replicate, Option, Some, None, slice_get, arith, sym, ap, ◌∙◌, subst}
use Rattle.std.proofs.lemmas.List.{get_or_push, length-append, length-map, length-replicate, length-set}
use Rattle.std.proofs.lemmas.Option.{slice_get_within}
use Rattle.wdl_base.specs.declared.place.Segment.{Segment}
use Rattle.wdl_value.specs.declared.value.Value.{Value}
use Rattle.wdl_typed.specs.declared.flow.Statement.{Statement}
use Rattle.wdl_typed.specs.Bodies.{Library}
use Rattle.step_net.specs.Views.{Wants}
use Rattle.value_net.specs.Nets.{view_of, with_cells}
use Rattle.net_laws.specs.Growing as net
use Rattle.net_laws.specs.Growing.{body_given}
use Rattle.plan_moves.specs.Sheets.{Sheet}
use Rattle.plan_layout.specs.declared.layout.BodyLayout.{BodyLayout}
use Rattle.plan_layout.specs.declared.layout.Need.{Need}
use Rattle.plan_layout.specs.Laid as laid
use Rattle.plan_layout.specs.Laid.{Laid, Stand, beginning, behind_all}
use Rattle.plan_layout.specs.Sees.{Sees}
use Rattle.plan_growth.specs.Begun.{base_at}
use Rattle.plan_growth.specs.Entering.{Plot, Sown, with_instance, with_item}
use Rattle.plan_growth.specs.Growth.{IsEven, sheet_of}
use Rattle.plan_growth.specs.News.{New, new_code, new_means, new_wants, statement_news, with_news}
use Rattle.plan_growth.proofs.Instances.{Extends, IsEntered, Kept, entered_sheet, enters, enters_behind, instance_owners, owners_count}
use Rattle.plan_growth.proofs.Lists.{get_left, get_right, get_set, get_unset}
use Rattle.plan_growth.proofs.Sitting.{body_rules, call_owners, done_owners, name_owners}
use Rattle.plan_growth.proofs.Standing.{news_rules, news_steps, statements_added}

pub even_news : (v : Sown) (rules : List net.Rule) (owners : List ℕ) (ns : List New) → IsEven v rules owners → IsEven (with_news v ns) (rules ++ map new_means ns) owners
even_news v rules owners ns e =
    let a = length-append v.rules (map new_code ns) in
    let b = length-append v.steps (map new_wants ns) in
    let c = length-append rules (map new_means ns) in
    let d = length-map ns new_code in
    let f = length-map ns new_wants in
    let g = length-map ns new_means in
    let codes = e.codes in
    let too = e.rules_too in
    record { codes = omega (arith, a, b, d, f, codes); rules_too = omega (arith, b, c, f, g, too); owners_too = e.owners_too }

abbrev behind_befores : Library → List ℕ → ℕ → List Statement → List ℕ
behind_befores lib afters t ss = name_owners lib t ss ++ (afters ++ (call_owners lib t ss ++ done_owners lib t ss))

module _ (lib : Library) (number : ℕ) (bl : BodyLayout) (ss : List Statement) (outer : List ℕ) (place : List Segment) (befores afters : List ℕ) (names calls : List Need) (path : List ℕ) (deep : length path ≡ length outer)
    (flow : ℕ) (root : List Statement) (bodies : List BodyLayout) where
  abbrev pub stand : Stand
  stand = beginning names calls path (body_given lib ss) (length befores) (length afters)

  module _ (p : Laid (Sees lib) lib flow root bodies (laid.all ss stand bl.statements)) (cells : bl.cells ≡ (behind_all lib ss stand).next_done) (q : Plot) (rules : List net.Rule) (owners : List ℕ)
      (even : IsEven q.net rules owners) where
    abbrev pub base : ℕ
    base = length q.net.values

    abbrev pub first : ℕ
    first = length q.net.steps

    abbrev pub bases : List ℕ
    bases = outer ++ base ∷ []

    abbrev pub news : List New
    news = statement_news lib (length q.instances) bases place 0 ss stand bl.statements

    abbrev pub rules_now : List net.Rule
    rules_now = rules ++ map new_means news

    abbrev pub owners_now : List ℕ
    owners_now = owners ++ instance_owners lib befores afters first ss

    abbrev now : Plot
    now = with_instance number outer place bl q

    pub base_is : base_at bases stand ≡ base
    base_is = get_or_push outer base 0 (length path) (sym deep)

    pub cells_count : bl.cells ≡ length (instance_owners lib befores afters first ss)
    cells_count = cells ∙ owners_count lib befores afters first ss names calls path

    pub net_is : now.net ≡ with_news (with_cells q.net bl.cells) news
    net_is = statements_added lib (length q.instances) bases place flow root bodies p 0 (with_cells q.net bl.cells)

    pub values_are : now.net.values ≡ q.net.values ++ replicate bl.cells None
    values_are = ap (λ (v : Sown). v.values) net_is

    pub sheet_is : sheet_of now.net rules_now ≡ entered_sheet lib q.net.values rules q.net.steps owners bases place befores afters ss stand bl.statements
    sheet_is =
        ap (λ (v : Sown). view_of v.values rules_now v.steps) net_is
        ∙ ap (λ (n : ℕ). view_of (q.net.values ++ replicate n None) rules_now (q.net.steps ++ map new_wants news)) cells_count
        ∙ ap (λ (rs : List net.Rule). view_of (q.net.values ++ replicate (length (instance_owners lib befores afters first ss)) None) (rules ++ rs) (q.net.steps ++ map new_wants news))
        (news_rules lib (length q.instances) bases place 0 ss stand bl.statements)
        ∙ ap (λ (ws : List Wants). view_of (q.net.values ++ replicate (length (instance_owners lib befores afters first ss)) None) (rules ++ body_rules lib bases place ss stand bl.statements) (q.net.steps ++ ws))
        (news_steps lib (length q.instances) bases place flow root bodies p 0)

    pub is_entered : IsEntered lib (sheet_of now.net rules_now) owners_now bases place befores afters base first ss stand bl.statements
    is_entered =
        subst (λ (b : Sheet). IsEntered lib b owners_now bases place befores afters base first ss stand bl.statements) (sym sheet_is)
        (enters lib q.net.values rules q.net.steps owners bases place befores afters ss stand bl.statements even.rules_too even.owners_too)

    pub extends : Extends (sheet_of q.net rules) owners (sheet_of now.net rules_now) owners_now
    extends =
        subst (λ (b : Sheet). Extends (sheet_of q.net rules) owners b owners_now) (sym sheet_is)
        (enters_behind lib q.net.values rules q.net.steps owners bases place befores afters ss stand bl.statements)

    pub instance_there : slice_get now.instances (length q.instances) ≡ Some (record { body = number; bases = bases; place = place })
    instance_there =
        ap (slice_get now.instances) (omega arith) ∙ get_right q.instances (record { body = number; bases = bases; place = place } ∷ []) 0

    pub instances_kept : Kept q.instances now.instances
    instances_kept i x h = get_left q.instances (record { body = number; bases = bases; place = place } ∷ []) i x h

    pub even_now : IsEven now.net rules_now owners_now
    even_now =
        subst (λ (v : Sown). IsEven v rules_now owners_now) (sym net_is)
        (even_news (with_cells q.net bl.cells) rules owners_now news
        (record {
          codes = even.codes;
          rules_too = even.rules_too;
          owners_too =
              let a = length-append owners (instance_owners lib befores afters first ss) in
              let b = length-append q.net.values (replicate bl.cells None) in
              let c = length-replicate {A = Option Value} bl.cells None in
              let too = even.owners_too in
              let size = cells_count in
              omega (arith, a, b, c, too, size);
        }))

    -- ---- the same with the item set

    module _ (some : 1 ≤ length befores) (x : Value) where
      abbrev there : Plot
      there = with_item number outer place bl x q

      set_apart : (c : ℕ) → (c ≡ base → ⊥) → slice_get there.net.values c ≡ slice_get now.net.values c
      set_apart c n = get_unset now.net.values base c (Some x) n

      base_inside : base < length now.net.values
      base_inside =
          let a = ap length values_are in
          let b = length-append q.net.values (replicate bl.cells None) in
          let c = length-replicate {A = Option Value} bl.cells None in
          let size = cells_count in
          let owned = length-append befores (behind_befores lib afters first ss) in
          omega (arith, a, b, c, size, owned, some)

      pub item_there : slice_get there.net.values base ≡ Some (Some x)
      item_there = get_set now.net.values base (Some x) base_inside

      pub item_entered : IsEntered lib (sheet_of there.net rules_now) owners_now bases place befores afters base first ss stand bl.statements
      item_entered =
          record {
            rules = is_entered.rules;
            steps = is_entered.steps;
            owned = is_entered.owned;
            unset = λ j le lt. set_apart (base + j) (λ e. omega (arith, e, le, some)) ∙ is_entered.unset j le lt;
          }

      pub item_extends : Extends (sheet_of q.net rules) owners (sheet_of there.net rules_now) owners_now
      item_extends =
          record {
            rules = extends.rules;
            steps = extends.steps;
            owners = extends.owners;
            values = λ c o h.
                let inside = slice_get_within q.net.values c o h in
                set_apart c (λ e. omega (arith, e, inside)) ∙ extends.values c o h;
          }

      pub item_even : IsEven there.net rules_now owners_now
      item_even =
          record {
            codes = even_now.codes;
            rules_too = even_now.rules_too;
            owners_too = even_now.owners_too ∙ sym (length-set now.net.values base (Some x));
          }
