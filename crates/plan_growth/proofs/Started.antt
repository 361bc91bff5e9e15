-- A plan begins: the main workflow is entered, and nothing was done.
use Rattle.std.proofs.Common.{◌≡◌, ℕ, zero, suc, ◌+◌, ◌≤◌, true, List, [], ◌∷◌, length, Option, Some, slice_get, arith, sym, ap, ◌∙◌, subst, refl}
use Rattle.std.proofs.lemmas.List.{length-map}
use Rattle.std.proofs.lemmas.Option.{slice_get_within, same_Some}
use Rattle.wdl_value.specs.declared.env.Bind.{Bind}
use Rattle.wdl_value.specs.Tables.{Row}
use Rattle.wdl_typed.specs.declared.flow.FlowDef.{FlowDef}
use Rattle.wdl_typed.specs.declared.task.TDecl.{TDecl}
use Rattle.wdl_typed.specs.Bodies.{Library}
use Rattle.wdl_typed.specs.Declarations.{plain_key}
use Rattle.wdl_typed.specs.Journal.{keys_distinct}
use Rattle.wdl_typed.specs.Kept.{is_checked}
use Rattle.step_net.specs.Views.{Wants}
use Rattle.value_net.specs.Nets.{empty}
use Rattle.net_laws.specs.Growing as net
use Rattle.net_laws.specs.Growing.{whole}
use Rattle.net_laws.specs.Net.{Given, Resolved, Slot, find, no_work, slot_keys}
use Rattle.net_laws.specs.Planned.{counted}
use Rattle.plan_layout.specs.declared.layout.BodyLayout.{BodyLayout}
use Rattle.plan_layout.specs.declared.layout.FlowLayout.{FlowLayout}
use Rattle.plan_layout.specs.declared.layout.Layout.{Layout}
use Rattle.plan_layout.specs.declared.layout.Need.{Need}
use Rattle.plan_layout.specs.Cells.{slots_at}
use Rattle.plan_layout.specs.Laid.{IsLaidAs, IsLayout, body_seen}
use Rattle.plan_layout.specs.Sees.{FlowSees, Sees, with_outputs}
use Rattle.plan_growth.specs.declared.rule.Rule.{Rule}
use Rattle.plan_growth.specs.Entering.{Plot, flow_dones, with_flow}
use Rattle.plan_growth.specs.Growth.{IsEven, IsGrowing}
use Rattle.plan_growth.specs.News.{New, Stands, new_code, new_means, new_wants}
use Rattle.plan_growth.proofs.Adding.{hits_behind, hits_one, stand_get}
use Rattle.plan_growth.proofs.Instances.{Extends}
use Rattle.plan_growth.proofs.Moving.{mapped_back}
use Rattle.plan_growth.proofs.Told.{outputs_given}
use Rattle.plan_growth.proofs.Wholes as flows

-- where an output is found
found_at : (names : List Slot) (base k : ℕ) (ds : List TDecl) → Resolved names (outputs_given base k ds).names → (j : ℕ) (d : TDecl) → slice_get ds j ≡ Some d → find names (plain_key d.name) ≡ Some (base + (k + j))
found_at names base k [] h j d is = absurd (let z : ⊥ = cc in z)
found_at names base k (x ∷ xs) h zero d is =
    let same : x ≡ d = cc in
    let at : base + k ≡ base + (k + 0) = omega arith in
    ap (λ (y : TDecl). find names (plain_key y.name)) (sym same) ∙ h.0 ∙ ap (λ (c : ℕ). Some c) at
found_at names base k (x ∷ xs) h (suc j) d is =
    let at : base + (k + 1 + j) ≡ base + (k + suc j) = omega arith in
    found_at names base (k + 1) xs h.1 j d is ∙ ap (λ (c : ℕ). Some c) at

module _ (lib : Library) (layout : Layout) (site : List ℕ) (rows : List Row) (all_laid : IsLayout (Sees lib) lib layout) (main : Option ℕ) (checked : is_checked lib main ≡ true) (k : ℕ) (f : FlowDef)
    (flow_there : slice_get lib.flows k ≡ Some f) (sees : FlowSees lib f) (fl : FlowLayout) (fl_there : slice_get layout.flows k ≡ Some fl) (given : List Bind) where
  abbrev pub bare : Plot
  bare = record { net = empty; instances = [] }

  abbrev even : IsEven bare.net [] []
  even = record { codes = refl; rules_too = refl; owners_too = refl }

  flow_laid : IsLaidAs (Sees lib) lib layout.bodies k f fl
  flow_laid = let z = all_laid.flows k f flow_there in subst (λ (y : FlowLayout). IsLaidAs (Sees lib) lib layout.bodies k f y) (same_Some _ _ (sym z.there ∙ fl_there)) z.laid

  module _ (lay : IsLaidAs (Sees lib) lib layout.bodies k f fl) where
    abbrev plot : Plot
    plot = with_flow f given [] fl lay.body bare

    abbrev rules : List net.Rule
    rules = flows.rules_now lib layout site rows k f fl lay sees flow_there fl_there given [] bare [] [] even

    abbrev owners : List ℕ
    owners = flows.owners_now lib layout site rows k f fl lay sees flow_there fl_there given [] bare [] [] even

    abbrev names : Given
    names = flows.names_out lib layout site rows k f fl lay sees flow_there fl_there given [] bare [] [] even

    abbrev news : List New
    news = flows.news lib layout site rows k f fl lay sees flow_there fl_there given [] bare [] [] even

    same : Extends (flows.b lib layout site rows k f fl lay sees flow_there fl_there given [] bare [] [] even) owners (flows.b lib layout site rows k f fl lay sees flow_there fl_there given [] bare [] [] even) owners
    same = record { rules = λ i x h. h; steps = λ i x h. h; owners = λ i x h. h; values = λ i x h. h }

    steps_count : length plot.net.steps ≡ length news
    steps_count = ap length (flows.flow_steps lib layout site rows k f fl lay sees flow_there fl_there given [] bare [] [] even) ∙ length-map news new_wants

    stands : (u : ℕ) (r : Rule) (w : Wants) (m : net.Rule) → slice_get plot.net.rules u ≡ Some r → slice_get plot.net.steps u ≡ Some w → slice_get rules u ≡ Some m
        → Stands lib layout plot.instances (flows.b lib layout site rows k f fl lay sees flow_there fl_there given [] bare [] [] even) owners u r w m
    stands u r w m code step rule_ =
        let c = mapped_back new_code news u r (ap (λ (rs : List Rule). slice_get rs u) (sym (flows.flow_codes lib layout site rows k f fl lay sees flow_there fl_there given [] bare [] [] even)) ∙ code) in
        let s = mapped_back new_wants news u w (ap (λ (ws : List Wants). slice_get ws u) (sym (flows.flow_steps lib layout site rows k f fl lay sees flow_there fl_there given [] bare [] [] even)) ∙ step) in
        let d = mapped_back new_means news u m (ap (λ (rs : List net.Rule). slice_get rs u) (sym (flows.flow_rules lib layout site rows k f fl lay sees flow_there fl_there given [] bare [] [] even)) ∙ rule_) in
        let e : s.0 ≡ c.0 = same_Some _ _ (sym s.1 ∙ c.1) in
        let g : d.0 ≡ c.0 = same_Some _ _ (sym d.1 ∙ c.1) in
        let self : 0 + u ≡ u = omega arith in
        let h =
        stand_get lib layout plot.instances (flows.b lib layout site rows k f fl lay sees flow_there fl_there given [] bare [] [] even) owners 0 news
        (flows.news_stand lib layout site rows k f fl lay sees flow_there fl_there given [] bare [] [] even (flows.b lib layout site rows k f fl lay sees flow_there fl_there given [] bare [] [] even) owners plot.instances same (λ i x z. z)) u c.0
        c.1 in
        subst (λ (z : net.Rule). Stands lib layout plot.instances (flows.b lib layout site rows k f fl lay sees flow_there fl_there given [] bare [] [] even) owners u r w z) (sym (d.2 ∙ ap new_means g))
        (subst (λ (z : Wants). Stands lib layout plot.instances (flows.b lib layout site rows k f fl lay sees flow_there fl_there given [] bare [] [] even) owners u r z c.0.means) (sym (s.2 ∙ ap new_wants e))
        (subst (λ (z : Rule). Stands lib layout plot.instances (flows.b lib layout site rows k f fl lay sees flow_there fl_there given [] bare [] [] even) owners u z (new_wants c.0) c.0.means) (sym c.2)
        (subst (λ (z : ℕ). Stands lib layout plot.instances (flows.b lib layout site rows k f fl lay sees flow_there fl_there given [] bare [] [] even) owners z c.0.code (new_wants c.0) c.0.means) self h)))

    grows : (depth : ℕ) → 24 ≤ depth → IsGrowing lib layout site rows depth (whole f given [] names (flow_dones f fl lay.body 0)) plot.net plot.instances (counted (length f.body) no_work) [] (λ task. 0)
    grows depth deep =
        let p =
        flows.flow_begins lib layout site rows k f fl lay sees flow_there fl_there given [] bare [] [] even (flows.b lib layout site rows k f fl lay sees flow_there fl_there given [] bare [] [] even) owners plot.instances same (λ i x z. z)
        depth in
        let leaves =
        flows.leaves_are lib layout site rows k f fl lay sees flow_there fl_there given [] bare [] [] even (flows.b lib layout site rows k f fl lay sees flow_there fl_there given [] bare [] [] even) owners plot.instances same (λ i x z. z) in
        record {
          laid = all_laid;
          root =
              record {
                main = main;
                checked = checked;
                deep = deep;
                number = k;
                flow = f;
                found = flow_there;
                given = given;
                place = [];
                names = names;
                dones = flow_dones f fl lay.body 0;
                is = refl;
              };
          growth = record { rules = rules; owners = owners; grown = p.grown };
          even = flows.flow_even lib layout site rows k f fl lay sees flow_there fl_there given [] bare [] [] even;
          stands = stands;
          weighs = p.weighs;
          once = λ u m rule_ leaf left n.
              let inside = slice_get_within rules u m rule_ in
              let e = flows.flow_even lib layout site rows k f fl lay sees flow_there fl_there given [] bare [] [] even in
              let count = steps_count in
              let too = e.rules_too in
              p.leaves_are u n ∙ leaves u n ∙ hits_one u n 0 news (omega arith) (omega (arith, inside, too, count));
          fresh = λ u n le. let count = steps_count in p.leaves_are u n ∙ leaves u n ∙ hits_behind u n 0 news (omega (arith, le, count));
          asks = λ j u e. absurd (let z : ⊥ = cc in z);
          spends = λ task. omega arith;
        }

    -- its names are those of its layout
    names_laid : names.names ≡ slots_at (0 ∷ []) (with_outputs (body_seen lib f) f.outputs)
    names_laid =
        flows.names_are lib layout site rows k f fl lay sees flow_there fl_there given [] bare [] [] even
        ∙ ap (λ (s : List Need). slots_at (0 ∷ []) (with_outputs s f.outputs)) (sym (flows.seen_is lib layout site rows k f fl lay sees flow_there fl_there given [] bare [] [] even))

    names_differ : keys_distinct (slot_keys names.names) ≡ true
    names_differ = flows.names_differ lib layout site rows k f fl lay sees flow_there fl_there given [] bare [] [] even

    output_found : (j : ℕ) (d : TDecl) → slice_get f.outputs j ≡ Some d → find names.names (plain_key d.name) ≡ Some (fl.first_output + j)
    output_found j d is =
        let first = lay.first_output ∙ ap length (flows.seen_is lib layout site rows k f fl lay sees flow_there fl_there given [] bare [] [] even) in
        let at : 0 + (length (flows.seen_out lib layout site rows k f fl lay sees flow_there fl_there given [] bare [] [] even) + j) ≡ fl.first_output + j = omega (arith, first) in
        found_at names.names 0 (length (flows.seen_out lib layout site rows k f fl lay sees flow_there fl_there given [] bare [] [] even)) f.outputs
        (flows.outs_found lib layout site rows k f fl lay sees flow_there fl_there given [] bare [] [] even) j d is
        ∙ ap (λ (c : ℕ). Some c) at

  -- The plan begins as a net that grows of the main workflow.
  pub plan_starts : (depth : ℕ) → 24 ≤ depth → (own : BodyLayout) → slice_get layout.bodies fl.body ≡ Some own
      → (g : Given) × IsGrowing lib layout site rows depth (whole f given [] g (flow_dones f fl own 0)) (with_flow f given [] fl own bare).net (with_flow f given [] fl own bare).instances (counted (length f.body) no_work) [] (λ task. 0)
      × (g.names ≡ slots_at (0 ∷ []) (with_outputs (body_seen lib f) f.outputs)) × (keys_distinct (slot_keys g.names) ≡ true)
      × ((j : ℕ) (d : TDecl) → slice_get f.outputs j ≡ Some d → find g.names (plain_key d.name) ≡ Some (fl.first_output + j))
  plan_starts depth deep own there =
      subst (λ (z : BodyLayout). (g : Given) × IsGrowing lib layout site rows depth (whole f given [] g (flow_dones f fl z 0)) (with_flow f given [] fl z bare).net (with_flow f given [] fl z bare).instances (counted (length f.body) no_work) [] (λ task. 0)
      × (g.names ≡ slots_at (0 ∷ []) (with_outputs (body_seen lib f) f.outputs)) × (keys_distinct (slot_keys g.names) ≡ true)
      × ((j : ℕ) (d : TDecl) → slice_get f.outputs j ≡ Some d → find g.names (plain_key d.name) ≡ Some (fl.first_output + j)))
      (same_Some _ _ (sym flow_laid.there ∙ there)) (names flow_laid, grows flow_laid depth deep, names_laid flow_laid, names_differ flow_laid, output_found flow_laid)
