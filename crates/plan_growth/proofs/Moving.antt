-- A step of the plan that is taken, and what it keeps.
use Rattle.std.proofs.Common.{◌≡◌, ℕ, zero, suc, ◌+◌, ◌<◌, ◌≤◌, ◌⊎◌, inl, inr, Bool, true, false, ◌&&◌, is_some, List, [], ◌∷◌, ◌++◌, All, map, length, get_or, Option, Some, None, slice_get, slice_set, arith, sym, ap, ◌∙◌, subst, refl}
use Rattle.std.proofs.lemmas.Bool.{true≢false}
use Rattle.std.proofs.lemmas.List.{length-set}
use Rattle.std.proofs.lemmas.Option.{slice_get-get_or, slice_get_within}
use Rattle.wdl_value.specs.declared.value.Value.{Value}
use Rattle.wdl_typed.specs.declared.expr.TExpr.{TExpr}
use Rattle.wdl_typed.specs.declared.flow.FlowDef.{FlowDef}
use Rattle.wdl_typed.specs.Bodies.{Library}
use Rattle.wdl_typed.specs.KnownTypes as known
use Rattle.step_net.specs.Views.{Wants}
use Rattle.value_net.specs.Nets as values
use Rattle.value_net.specs.Nets.{joined, value_at}
use Rattle.net_laws.specs.Growing as net
use Rattle.net_laws.specs.Growing.{are_set}
use Rattle.plan_moves.specs.Sheets.{IsMove, state_of}
use Rattle.plan_layout.specs.declared.layout.BodyLayout.{BodyLayout}
use Rattle.plan_layout.specs.declared.layout.Layout.{Layout}
use Rattle.plan_layout.specs.declared.layout.Need.{Need}
use Rattle.plan_growth.specs.declared.instance.Instance.{Instance}
use Rattle.plan_growth.specs.declared.rule.Rule.{Rule}
use Rattle.plan_growth.specs.declared.rule.Rule.TheVariants as rule
use Rattle.plan_growth.specs.Begun.{IsFree}
use Rattle.plan_growth.specs.Entering.{Sown}
use Rattle.plan_growth.specs.Growth.{IsEven, sheet_of}
use Rattle.plan_growth.specs.Meaning.{IsInstance, Means, MeansDeclared, rule_cells}
use Rattle.plan_growth.specs.News.{AllStand, New, Stands, new_code, new_means, new_wants}
use Rattle.plan_growth.proofs.Adding.{apart, stand_get, step_at}
use Rattle.plan_growth.proofs.Instances.{Kept}
use Rattle.plan_growth.proofs.Lists.{get_left, get_set, get_split, get_unset}
use Rattle.plan_growth.proofs.There.{there_later}

-- What a step that is taken makes of a net, its meanings and owners: it adds steps, and sets or hands on cells of its own alone.
pub record Moves (t : ℕ) (v : Sown) (rules : List net.Rule) (owners : List ℕ) (is : List Instance) (w : Sown) (rules_now : List net.Rule) (owners_now : List ℕ) (js : List Instance) (news : List New) : Type 0 where
  pub step : Wants
  pub there : slice_get v.steps t ≡ Some step
  pub fresh : step.is_taken ≡ false
  pub ready : values.are_set v.values step.needs ≡ true
  pub codes : w.rules ≡ v.rules ++ map new_code news
  pub means : rules_now ≡ rules ++ map new_means news
  pub steps : w.steps ≡ slice_set v.steps t (record { needs = step.needs; is_taken = true }) ++ map new_wants news
  pub instances : Kept is js
  pub cells : length v.values ≤ length w.values
  pub others : (c u : ℕ) → slice_get owners c ≡ Some u → (u ≡ t → ⊥) → slice_get w.values c ≡ slice_get v.values c
  pub kept : (c : ℕ) (x : Value) → slice_get v.values c ≡ Some (Some x) → slice_get w.values c ≡ Some (Some x)
  pub owned : (c u : ℕ) → slice_get owners c ≡ Some u → (u ≡ t → ⊥) → slice_get owners_now c ≡ Some u
  pub even_now : IsEven w rules_now owners_now

module _ (t : ℕ) (v : Sown) (rules : List net.Rule) (owners : List ℕ) (is : List Instance) (w : Sown) (rules_now : List net.Rule) (owners_now : List ℕ) (js : List Instance) (news : List New)
    (m : Moves t v rules owners is w rules_now owners_now js news) (even : IsEven v rules owners) where
  abbrev taken_now : Wants
  taken_now = record { needs = m.step.needs; is_taken = true }

  pub step_now : slice_get w.steps t ≡ Some taken_now
  step_now =
      ap (λ (ws : List Wants). slice_get ws t) m.steps
      ∙ get_left (slice_set v.steps t taken_now) (map new_wants news) t taken_now (get_set v.steps t taken_now (slice_get_within v.steps t m.step m.there))

  pub step_other : (u : ℕ) (x : Wants) → (u ≡ t → ⊥) → slice_get v.steps u ≡ Some x → slice_get w.steps u ≡ Some x
  step_other u x n h =
      ap (λ (ws : List Wants). slice_get ws u) m.steps ∙ get_left (slice_set v.steps t taken_now) (map new_wants news) u x (get_unset v.steps t u taken_now n ∙ h)

  pub rule_kept : (u : ℕ) (r : net.Rule) → slice_get rules u ≡ Some r → slice_get rules_now u ≡ Some r
  rule_kept u r h = ap (λ (rs : List net.Rule). slice_get rs u) m.means ∙ get_left rules (map new_means news) u r h

  set_in : (o : Option (Option Value)) (x : Value) → joined o ≡ Some x → o ≡ Some (Some x)
  set_in None x h = absurd (let f : ⊥ = cc in f)
  set_in (Some o) x h = ap (λ (p : Option Value). Some p) h

  same_some : (o : Option Value) → is_some o ≡ known.is_some o
  same_some None = refl
  same_some (Some x) = refl

  same_set : (cs : List ℕ) → values.are_set v.values cs ≡ are_set (state_of (sheet_of v rules) owners) cs
  same_set [] = refl
  same_set (c ∷ cs) =
      ap (λ (b : Bool). b && values.are_set v.values cs) (same_some (value_at v.values c))
      ∙ ap (λ (b : Bool). known.is_some (value_at v.values c) && b) (same_set cs)

  pub is_move : IsMove t (sheet_of v rules) owners (sheet_of w rules_now) owners_now
  is_move =
      record {
        pairs = even.rules_too;
        step = m.step;
        there = m.there;
        fresh = m.fresh;
        ready = sym (same_set m.step.needs) ∙ m.ready;
        taken = step_now;
        steps = λ u x n h. step_other u x n h;
        rules = rule_kept;
        owners = m.owned;
        others = λ c u h n. ap joined (m.others c u h n);
        kept = λ c x h. ap joined (m.kept c x (set_in (slice_get v.values c) x h));
      }

  -- ---- what holds of the steps

  pub free_kept : (u : ℕ) (cs : List ℕ) → (u ≡ t → ⊥) → All (IsFree (sheet_of v rules) owners u) cs → All (IsFree (sheet_of w rules_now) owners_now u) cs
  free_kept u cs n h i d lt = let f = h i d lt in (m.owned (get_or cs i d) u f.0 n, m.others (get_or cs i d) u f.0 n ∙ f.1)

  below_kept : (cs : List ℕ) → All (λ (c : ℕ). c < length v.values) cs → All (λ (c : ℕ). c < length w.values) cs
  below_kept cs h i d lt =
      let inside = h i d lt in
      let more = m.cells in
      omega (arith, inside, more)

-- ---- meanings stay

declared_kept : (instance : Instance) (name : List ℕ) (e : TExpr) (needs : List Need) (slot n l : ℕ) (cells : List ℕ) (m : net.Rule) → n ≤ l → MeansDeclared instance name e needs slot n cells m → MeansDeclared instance name e needs slot l cells m
declared_kept instance name e needs slot n l cells m le h =
    record {
      base = h.base;
      bases = h.bases;
      cells_are = h.cells_are;
      seen = h.seen;
      all_seen = h.all_seen;
      distinct = h.distinct;
      names = there_later (h.base ∷ []) n l le h.seen h.names;
      needs_are = h.needs_are;
      scope = h.scope;
      scope_names = h.scope_names;
      scope_place = h.scope_place;
      means = h.means;
    }

module _ (lib : Library) (layout : Layout) (is js : List Instance) (kept : Kept is js) (n l : ℕ) (le : n ≤ l) where
  instance_kept : (i : ℕ) (instance : Instance) (body : BodyLayout) (flow : FlowDef) → IsInstance lib layout is i instance body flow → IsInstance lib layout js i instance body flow
  instance_kept i instance body flow h = record { there = kept i instance h.there; body_there = h.body_there; flow_there = h.flow_there }

  pub means_kept : (r : Rule) (needs : List ℕ) (m : net.Rule) → Means lib layout is n r needs m → Means lib layout js l r needs m
  means_kept (rule.Statement i k) needs m h =
      record {
        instance = h.instance;
        body = h.body;
        flow = h.flow;
        of_instance = instance_kept i h.instance h.body h.flow h.of_instance;
        statement = h.statement;
        statement_there = h.statement_there;
        line = h.line;
        line_there = h.line_there;
        cells_are = h.cells_are;
        stand = h.stand;
        sees = h.sees;
        laid = h.laid;
        depth = h.depth;
        names = there_later h.instance.bases n l le h.stand.names h.names;
        calls = there_later h.instance.bases n l le h.stand.calls h.calls;
        fits = h.fits;
        means = h.means;
      }
  means_kept (rule.Input i k) needs m h =
      record {
        instance = h.instance;
        body = h.body;
        flow = h.flow;
        of_instance = instance_kept i h.instance h.body h.flow h.of_instance;
        flow_layout = h.flow_layout;
        layout_there = h.layout_there;
        input = h.input;
        input_there = h.input_there;
        value = h.value;
        default_is = h.default_is;
        needs = h.needs;
        needs_there = h.needs_there;
        declared = declared_kept h.instance h.input.name h.value h.needs k n l needs m le h.declared;
      }
  means_kept (rule.Output i k) needs m h =
      record {
        instance = h.instance;
        body = h.body;
        flow = h.flow;
        of_instance = instance_kept i h.instance h.body h.flow h.of_instance;
        flow_layout = h.flow_layout;
        layout_there = h.layout_there;
        output = h.output;
        output_there = h.output_there;
        needs = h.needs;
        needs_there = h.needs_there;
        declared = declared_kept h.instance h.output.name h.output.value h.needs (h.flow_layout.first_output + k) n l needs m le h.declared;
      }
  means_kept (rule.Gathers c) needs m h = h
  means_kept (rule.Ends c) needs m h = h
  means_kept (rule.Copies c) needs m h = h

-- ---- what holds of each step behind the move

pub mapped_back : {A : Type 0} (f : New → A) (ns : List New) (j : ℕ) (x : A) → slice_get (map f ns) j ≡ Some x → (n : New) × (slice_get ns j ≡ Some n) × (x ≡ f n)
mapped_back f [] j x h = absurd (let e : ⊥ = cc in e)
mapped_back f (n ∷ ns) zero x h = let same : f n ≡ x = cc in (n, refl, sym same)
mapped_back f (n ∷ ns) (suc j) x h = mapped_back f ns j x h

-- Past the end there is nothing.
pub not_past : {A : Type 0} (xs : List A) (u j : ℕ) (x : A) → slice_get xs u ≡ Some x → u ≡ length xs + j → ⊥
not_past xs u j x h e = let inside = slice_get_within xs u x h in omega (arith, inside, e)

module _ (lib : Library) (layout : Layout) (t : ℕ) (v : Sown) (rules : List net.Rule) (owners : List ℕ) (is : List Instance) (w : Sown) (rules_now : List net.Rule) (owners_now : List ℕ) (js : List Instance) (news : List New)
    (m : Moves t v rules owners is w rules_now owners_now js news) (even : IsEven v rules owners) where
  abbrev OldStands : ℕ → Rule → Wants → net.Rule → Type 0
  OldStands u r x y = Stands lib layout is (sheet_of v rules) owners u r x y

  abbrev NewStands : ℕ → Rule → Wants → net.Rule → Type 0
  NewStands u r x y = Stands lib layout js (sheet_of w rules_now) owners_now u r x y

  other_stands : (u : ℕ) (r : Rule) (x : Wants) (y : net.Rule) → (u ≡ t → ⊥) → OldStands u r x y → NewStands u r x y
  other_stands u r x y n h =
      record {
        means = means_kept lib layout is js m.instances (length v.values) (length w.values) m.cells r x.needs y h.means;
        free = λ e. free_kept t v rules owners is w rules_now owners_now js news m even u (rule_cells y) n (h.free e);
        within = below_kept t v rules owners is w rules_now owners_now js news m even x.needs h.within;
      }

  own_stands : (r : Rule) (y : net.Rule) → OldStands t r m.step y → NewStands t r (taken_now t v rules owners is w rules_now owners_now js news m even) y
  own_stands r y h =
      record {
        means = means_kept lib layout is js m.instances (length v.values) (length w.values) m.cells r m.step.needs y h.means;
        free = λ e. absurd (true≢false e);
        within = below_kept t v rules owners is w rules_now owners_now js news m even m.step.needs h.within;
      }

  abbrev OldAll : Type 0
  OldAll = (u : ℕ) (r : Rule) (x : Wants) (y : net.Rule) → slice_get v.rules u ≡ Some r → slice_get v.steps u ≡ Some x → slice_get rules u ≡ Some y → OldStands u r x y

  same_inside : {A : Type 0} {x y : A} → Some x ≡ Some y → x ≡ y
  same_inside e = cc

  -- an old step
  old_step : (u : ℕ) (r : Rule) (x : Wants) (y : net.Rule) → OldAll → slice_get v.rules u ≡ Some r → slice_get w.steps u ≡ Some x → slice_get rules u ≡ Some y → NewStands u r x y
  old_step u r x y all code step rule_ = by_case (apart u t)
    where
      long : u < length v.steps
      long = let a = slice_get_within rules u y rule_ in let b = even.rules_too in omega (arith, a, b)

      before : Wants
      before = get_or v.steps u m.step

      was : slice_get v.steps u ≡ Some before
      was = slice_get-get_or v.steps u m.step long

      by_case : (u ≡ t) ⊎ (u ≡ t → ⊥) → NewStands u r x y
      by_case (inl e) =
          let here : slice_get v.steps u ≡ Some m.step = ap (slice_get v.steps) e ∙ m.there in
          let now : x ≡ taken_now t v rules owners is w rules_now owners_now js news m even = same_inside (sym step ∙ ap (slice_get w.steps) e ∙ step_now t v rules owners is w rules_now owners_now js news m even) in
          let old : OldStands t r m.step y = subst (λ (z : ℕ). OldStands z r m.step y) e (all u r m.step y code here rule_) in
          subst (λ (z : Wants). NewStands u r z y) (sym now)
          (subst (λ (z : ℕ). NewStands z r (taken_now t v rules owners is w rules_now owners_now js news m even) y) (sym e) (own_stands r y old))
      by_case (inr n) =
          let now : x ≡ before = same_inside (sym step ∙ step_other t v rules owners is w rules_now owners_now js news m even u before n was) in
          subst (λ (z : Wants). NewStands u r z y) (sym now) (other_stands u r before y n (all u r before y code was rule_))

  pub all_stand : OldAll → AllStand lib layout js (sheet_of w rules_now) owners_now (length v.steps) news
      → (u : ℕ) (r : Rule) (x : Wants) (y : net.Rule) → slice_get w.rules u ≡ Some r → slice_get w.steps u ≡ Some x → slice_get rules_now u ≡ Some y → NewStands u r x y
  all_stand all added u r x y code step rule_ =
      by_case (get_split v.rules (map new_code news) u r (ap (λ (rs : List Rule). slice_get rs u) (sym m.codes) ∙ code)) (get_split rules (map new_means news) u y (ap (λ (rs : List net.Rule). slice_get rs u) (sym m.means) ∙ rule_))
    where
      codes_same : length v.rules ≡ length v.steps
      codes_same = even.codes

      new_one : (i j : ℕ) → u ≡ length v.rules + i → slice_get (map new_code news) i ≡ Some r → u ≡ length rules + j → slice_get (map new_means news) j ≡ Some y → NewStands u r x y
      new_one i j e code_ f mean =
          let c = mapped_back new_code news i r code_ in
          let a = even.codes in
          let b = even.rules_too in
          let same : j ≡ i = omega (arith, e, f, a, b) in
          let d = mapped_back new_means news j y mean in
          let one : d.0 ≡ c.0 = same_inside (sym d.1 ∙ ap (slice_get news) same ∙ c.1) in
          let place : u ≡ length (slice_set v.steps t (taken_now t v rules owners is w rules_now owners_now js news m even)) + i =
          (let z = length-set v.steps t (taken_now t v rules owners is w rules_now owners_now js news m even) in omega (arith, e, a, z)) in
          let wants : x ≡ new_wants c.0 = same_inside
          (sym step ∙ ap (λ (ws : List Wants). slice_get ws u) m.steps ∙ step_at (slice_set v.steps t (taken_now t v rules owners is w rules_now owners_now js news m even)) news i u c.0 place c.1) in
          let at : length v.steps + i ≡ u = omega (arith, e, a) in
          let h = stand_get lib layout js (sheet_of w rules_now) owners_now (length v.steps) news added i c.0 c.1 in
          subst (λ (z : net.Rule). NewStands u r x z) (sym (d.2 ∙ ap new_means one))
          (subst (λ (z : Wants). NewStands u r z c.0.means) (sym wants)
          (subst (λ (z : Rule). NewStands u z (new_wants c.0) c.0.means) (sym c.2) (subst (λ (z : ℕ). NewStands z c.0.code (new_wants c.0) c.0.means) at h)))

      by_case : (slice_get v.rules u ≡ Some r) ⊎ ((i : ℕ) × (u ≡ length v.rules + i) × (slice_get (map new_code news) i ≡ Some r))
          → (slice_get rules u ≡ Some y) ⊎ ((j : ℕ) × (u ≡ length rules + j) × (slice_get (map new_means news) j ≡ Some y)) → NewStands u r x y
      by_case (inl c) (inl d) = old_step u r x y all c step d
      by_case (inl c) (inr (j, e, d)) = absurd (not_past v.rules u j r c (let a = even.codes in let b = even.rules_too in omega (arith, e, a, b)))
      by_case (inr (i, e, c)) (inl d) = absurd (not_past rules u i y d (let a = even.codes in let b = even.rules_too in omega (arith, e, a, b)))
      by_case (inr (i, e, c)) (inr (j, f, d)) = new_one i j e c f d
