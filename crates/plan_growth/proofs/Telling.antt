-- What entering a workflow adds beside its body: the values of its inputs, and the steps of defaults and outputs.
use Rattle.std.proofs.Common.{◌≡◌, ℕ, suc, ◌+◌, ◌<◌, List, [], ◌∷◌, ◌++◌, length, Option, Some, None, slice_get, slice_set, arith, sym, ap, ◌∙◌, subst, refl}
use Rattle.std.proofs.lemmas.List.{length-append, length-set}
use Rattle.std.proofs.lemmas.Option.{slice_get_within}
use Rattle.wdl_base.specs.declared.place.Segment.{Segment}
use Rattle.wdl_value.specs.declared.env.Bind.{Bind}
use Rattle.wdl_value.specs.declared.value.Value.{Value}
use Rattle.wdl_value.specs.declared.value.Value.TheVariants as v
use Rattle.wdl_value.specs.Tables.{Row}
use Rattle.wdl_typed.specs.declared.expr.TExpr.{TExpr}
use Rattle.wdl_typed.specs.declared.task.TDecl.{TDecl}
use Rattle.wdl_typed.specs.declared.task.TInput.{TInput}
use Rattle.wdl_typed.specs.Bodies.{Library}
use Rattle.wdl_typed.specs.Declarations.{plain_key}
use Rattle.wdl_typed.specs.Scope.{lookup}
use Rattle.value_net.specs.Nets.{view_of, with_step, with_value}
use Rattle.net_laws.specs.Growing.{declares}
use Rattle.net_laws.specs.Net.{Mark, Scope}
use Rattle.plan_moves.specs.Sheets.{Sheet}
use Rattle.plan_layout.specs.declared.layout.Need.{Need}
use Rattle.plan_layout.specs.Laid.{default_needs, input_needs, output_needs, with_plain}
use Rattle.plan_growth.specs.declared.rule.Rule.TheVariants as rule
use Rattle.plan_growth.specs.Begun.{IsFree, hits}
use Rattle.plan_growth.specs.Entering.{Sown, with_given, with_inputs, with_outputs}
use Rattle.plan_growth.specs.News.{New, left_wants, new_wants, with_news}
use Rattle.plan_growth.proofs.Adding.{hits_both, news_both}
use Rattle.plan_growth.proofs.Instances.{Extends}
use Rattle.plan_growth.proofs.Lists.{get_left, get_right, get_set, get_unset}
use Rattle.plan_growth.proofs.Standing.{news_next, news_none}
use Rattle.plan_growth.proofs.Told.{InputsSit, OutputsSit, ToldSits, input_news, inputs_leaves, one_news, output_news, told_cells, told_scope}

module _ (instance base : ℕ) (place : List Segment) (given : List Bind) where
  abbrev given_for : TInput → Option Value
  given_for i = lookup given (plain_key i.name)

  abbrev one_of : ℕ → TInput → List Need → List New
  one_of k i seen = one_news instance base place k i.name seen i.value (given_for i)

  -- ---- the values of inputs

  abbrev one_value : ℕ → Option TExpr → Option Value → List (Option Value) → List (Option Value)
  one_value c d (Some x) vs = slice_set vs c (Some x)
  one_value c None None vs = slice_set vs c (Some v.Absent)
  one_value c (Some e) None vs = vs

  abbrev pub input_values : ℕ → List TInput → List (Option Value) → List (Option Value)
  input_values k [] vs = vs
  input_values k (i ∷ is) vs = input_values (k + 1) is (one_value (base + k) i.value (given_for i) vs)

  one_other : (c : ℕ) (d : Option TExpr) (o : Option Value) (vs : List (Option Value)) (j : ℕ) → (j ≡ c → ⊥) → slice_get (one_value c d o vs) j ≡ slice_get vs j
  one_other c d (Some x) vs j n = get_unset vs c j (Some x) n
  one_other c None None vs j n = get_unset vs c j (Some v.Absent) n
  one_other c (Some e) None vs j n = refl

  one_length : (c : ℕ) (d : Option TExpr) (o : Option Value) (vs : List (Option Value)) → length (one_value c d o vs) ≡ length vs
  one_length c d (Some x) vs = length-set vs c (Some x)
  one_length c None None vs = length-set vs c (Some v.Absent)
  one_length c (Some e) None vs = refl

  pub values_other : (is : List TInput) (k : ℕ) (vs : List (Option Value)) (j : ℕ) → ((m : ℕ) → m < length is → j ≡ base + (k + m) → ⊥) → slice_get (input_values k is vs) j ≡ slice_get vs j
  values_other [] k vs j n = refl
  values_other (i ∷ is) k vs j n =
      values_other is (k + 1) (one_value (base + k) i.value (given_for i) vs) j (λ m lt e. n (suc m) (omega (arith, lt)) (omega (arith, e)))
      ∙ one_other (base + k) i.value (given_for i) vs j (λ e. n 0 (omega arith) (omega (arith, e)))

  pub values_length : (is : List TInput) (k : ℕ) (vs : List (Option Value)) → length (input_values k is vs) ≡ length vs
  values_length [] k vs = refl
  values_length (i ∷ is) k vs = values_length is (k + 1) (one_value (base + k) i.value (given_for i) vs) ∙ one_length (base + k) i.value (given_for i) vs

  -- ---- the net behind the inputs and outputs

  abbrev with_values : List (Option Value) → Sown → Sown
  with_values vs net = view_of vs net.rules net.steps

  one_added : (k : ℕ) (name : List ℕ) (seen : List Need) (d : Option TExpr) (o : Option Value) (net : Sown)
      → with_given (rule.Input instance k) (base + k) base (default_needs seen d) d o net
      ≡ with_news (with_values (one_value (base + k) d o net.values) net) (one_news instance base place k name seen d o)
  one_added k name seen d (Some x) net = news_none (with_value net (base + k) x)
  one_added k name seen None None net = news_none (with_value net (base + k) v.Absent)
  one_added k name seen (Some e) None net = refl

  rest_added : (n m : List New) (vs : List (Option Value)) (net : Sown) → with_news (with_values vs (with_news net n)) m ≡ with_news (with_values vs net) (n ++ m)
  rest_added n m vs net = news_both (with_values vs net) n m

  pub inputs_added : (is : List TInput) (k : ℕ) (seen : List Need) (net : Sown) → with_inputs given instance base k is (input_needs seen is) net
      ≡ with_news (with_values (input_values k is net.values) net) (input_news instance base place given k is seen)
  inputs_added [] k seen net = news_none net
  inputs_added (i ∷ is) k seen net =
      ap (with_inputs given instance base (k + 1) is (input_needs (with_plain seen i.name) is)) (one_added k i.name seen i.value (given_for i) net)
      ∙ inputs_added is (k + 1) (with_plain seen i.name) (with_news (with_values (one_value (base + k) i.value (given_for i) net.values) net) (one_of k i seen))
      ∙ rest_added (one_of k i seen) (input_news instance base place given (k + 1) is (with_plain seen i.name)) (input_values k (i ∷ is) net.values) net

  pub outputs_added : (calls : List Mark) (ds : List TDecl) (k : ℕ) (seen : List Need) (net : Sown) → with_outputs instance base k (output_needs seen ds) net ≡ with_news net (output_news instance base place calls k ds seen)
  outputs_added calls [] k seen net = news_none net
  outputs_added calls (d ∷ ds) k seen net =
      outputs_added calls ds (k + 1) (with_plain seen d.name) (with_step net (rule.Output instance k) (told_cells base seen d.value))
      ∙ news_next net
      (record { code = rule.Output instance k; needs = told_cells base seen d.value; means = declares d.name d.value (told_scope base place calls seen) (base + length seen) })
      (output_news instance base place calls (k + 1) ds (with_plain seen d.name))

  -- ---- the owners of the cells of inputs and outputs

  abbrev pub input_owners : ℕ → ℕ → List TInput → List Need → List ℕ
  input_owners u k [] seen = []
  input_owners u k (i ∷ is) seen = u ∷ input_owners (u + length (one_of k i seen)) (k + 1) is (with_plain seen i.name)

  pub input_owners_length : (u k : ℕ) (is : List TInput) (seen : List Need) → length (input_owners u k is seen) ≡ length is
  input_owners_length u k [] seen = refl
  input_owners_length u k (i ∷ is) seen = let rest = input_owners_length (u + length (one_of k i seen)) (k + 1) is (with_plain seen i.name) in omega (arith, rest)

  -- ---- where inputs are to be found

  module _ (lib : Library) (site : List ℕ) (rows : List Row) (b : Sheet) (owners : List ℕ) where
    abbrev News : ℕ → List New → Type 0
    News u ns = ((j : ℕ) (n : New) → slice_get ns j ≡ Some n → slice_get b.rules (u + j) ≡ Some n.means) × ((j : ℕ) (n : New) → slice_get ns j ≡ Some n → slice_get b.steps (u + j) ≡ Some (new_wants n))

    news_left : (u : ℕ) (ns ms : List New) → News u (ns ++ ms) → News u ns
    news_left u ns ms h = (λ j n e. h.0 j n (get_left ns ms j n e), λ j n e. h.1 j n (get_left ns ms j n e))

    news_right : (u w : ℕ) (ns ms : List New) → w ≡ u + length ns → News u (ns ++ ms) → News w ms
    news_right u w ns ms same h = (
      λ j n e. ap (slice_get b.rules) (let z : w + j ≡ u + (length ns + j) = omega (arith, same) in z) ∙ h.0 (length ns + j) n (get_right ns ms j ∙ e),
      λ j n e. ap (slice_get b.steps) (let z : w + j ≡ u + (length ns + j) = omega (arith, same) in z) ∙ h.1 (length ns + j) n (get_right ns ms j ∙ e),
    )

    pub record InputsPut (u k : ℕ) (is : List TInput) (seen : List Need) (vs : List (Option Value)) : Type 0 where
      pub news : News u (input_news instance base place given k is seen)
      pub owned : (j w : ℕ) → slice_get (input_owners u k is seen) j ≡ Some w → slice_get owners (base + (k + j)) ≡ Some w
      pub after : (j : ℕ) → j < length is → slice_get b.values (base + (k + j)) ≡ slice_get (input_values k is vs) (base + (k + j))
      pub unset : (j : ℕ) → j < length is → slice_get vs (base + (k + j)) ≡ Some None

    module _ (u k : ℕ) (i : TInput) (is : List TInput) (seen : List Need) (vs : List (Option Value)) (h : InputsPut u k (i ∷ is) seen vs) where
      here_now : slice_get b.values (base + k) ≡ slice_get (one_value (base + k) i.value (given_for i) vs) (base + k)
      here_now =
          ap (slice_get b.values) (omega arith) ∙ h.after 0 (omega arith)
          ∙ ap (slice_get (input_values k (i ∷ is) vs)) (omega arith)
          ∙ values_other is (k + 1) (one_value (base + k) i.value (given_for i) vs) (base + k) (λ m lt e. omega (arith, e))

      was_unset : slice_get vs (base + k) ≡ Some None
      was_unset = ap (slice_get vs) (omega arith) ∙ h.unset 0 (omega arith)

      own_here : slice_get owners (base + k) ≡ Some u
      own_here = ap (slice_get owners) (omega arith) ∙ h.owned 0 u refl

      abbrev OneSits : Option TExpr → Option Value → Type 0
      OneSits d (Some x) = slice_get b.values (base + k) ≡ Some (Some x)
      OneSits None None = slice_get b.values (base + k) ≡ Some (Some v.Absent)
      OneSits (Some e) None = ToldSits b owners u i.name e (told_scope base place [] seen) (base + k) (told_cells base seen e)

      one_sits : (d : Option TExpr) (o : Option Value) → slice_get b.values (base + k) ≡ slice_get (one_value (base + k) d o vs) (base + k) → News u (one_news instance base place k i.name seen d o) → OneSits d o
      one_sits d (Some x) e n = e ∙ get_set vs (base + k) (Some x) (slice_get_within vs (base + k) None was_unset)
      one_sits None None e n = e ∙ get_set vs (base + k) (Some v.Absent) (slice_get_within vs (base + k) None was_unset)
      one_sits (Some x) None e n =
          let one : New = record { code = rule.Input instance k; needs = told_cells base seen x; means = declares i.name x (told_scope base place [] seen) (base + k) } in
          record {
            rule_at = ap (slice_get b.rules) (omega arith) ∙ n.0 0 one refl;
            step_at = ap (slice_get b.steps) (omega arith) ∙ n.1 0 one refl;
            free = (own_here, e ∙ was_unset);
          }

      first_sits : OneSits i.value (given_for i)
      first_sits = one_sits i.value (given_for i) here_now (news_left u (one_of k i seen) (input_news instance base place given (k + 1) is (with_plain seen i.name)) h.news)

      rest_put : InputsPut (u + length (one_of k i seen)) (k + 1) is (with_plain seen i.name) (one_value (base + k) i.value (given_for i) vs)
      rest_put =
          record {
            news = news_right u (u + length (one_of k i seen)) (one_of k i seen) (input_news instance base place given (k + 1) is (with_plain seen i.name)) refl h.news;
            owned = λ j w e. ap (slice_get owners) (omega arith) ∙ h.owned (suc j) w e;
            after = λ j lt.
                let same : base + (k + 1 + j) ≡ base + (k + suc j) = omega arith in
                ap (slice_get b.values) same ∙ h.after (suc j) (omega (arith, lt)) ∙ ap (slice_get (input_values k (i ∷ is) vs)) (sym same);
            unset = λ j lt.
                let same : base + (k + 1 + j) ≡ base + (k + suc j) = omega arith in
                one_other (base + k) i.value (given_for i) vs (base + (k + 1 + j)) (λ e. omega (arith, e)) ∙ ap (slice_get vs) same ∙ h.unset (suc j) (omega (arith, lt));
          }

    pub inputs_sit : (is : List TInput) (u k : ℕ) (seen : List Need) (vs : List (Option Value)) → InputsPut u k is seen vs → InputsSit lib site rows b owners instance base place given u k is seen
    inputs_sit [] u k seen vs h = tt
    inputs_sit (i ∷ is) u k seen vs h =
        (first_sits u k i is seen vs h, inputs_sit is (u + length (one_of k i seen)) (k + 1) (with_plain seen i.name) (one_value (base + k) i.value (given_for i) vs) (rest_put u k i is seen vs h))

    -- ---- where outputs are to be found

    pub record OutputsPut (calls : List Mark) (u k : ℕ) (ds : List TDecl) (seen : List Need) : Type 0 where
      pub news : News u (output_news instance base place calls k ds seen)
      pub free : (j : ℕ) → j < length ds → IsFree b owners (u + j) (base + (length seen + j))

    pub outputs_sit : (calls : List Mark) (ds : List TDecl) (u k : ℕ) (seen : List Need) → OutputsPut calls u k ds seen → OutputsSit lib site rows b owners instance base place calls u ds seen
    outputs_sit calls [] u k seen h = tt
    outputs_sit calls (d ∷ ds) u k seen h =
        let one : New = record { code = rule.Output instance k; needs = told_cells base seen d.value; means = declares d.name d.value (told_scope base place calls seen) (base + length seen) } in
        let more = length-append seen (record { key = plain_key d.name; level = 0; slot = length seen } ∷ []) in
        let at : base + (length seen + 0) ≡ base + length seen = omega arith in
        let self : u + 0 ≡ u = omega arith in (
          record {
            rule_at = ap (slice_get b.rules) (omega arith) ∙ h.news.0 0 one refl;
            step_at = ap (slice_get b.steps) (omega arith) ∙ h.news.1 0 one refl;
            free = subst (λ (c : ℕ). IsFree b owners u c) at (subst (λ (w : ℕ). IsFree b owners w (base + (length seen + 0))) self (h.free 0 (omega arith)));
          },
          outputs_sit calls ds (u + 1) (k + 1) (with_plain seen d.name)
              (record {
                news = news_right u (u + 1) (one ∷ []) (output_news instance base place calls (k + 1) ds (with_plain seen d.name)) refl h.news;
                free = λ j lt.
                    let here : base + (length seen + suc j) ≡ base + (length (with_plain seen d.name) + j) = omega (arith, more) in
                    let step : u + suc j ≡ u + 1 + j = omega arith in
                    subst (λ (c : ℕ). IsFree b owners (u + 1 + j) c) here (subst (λ (w : ℕ). IsFree b owners w (base + (length seen + suc j))) step (h.free (suc j) (omega (arith, lt))));
              }),
        )

    -- ---- leaves

    pub input_hits : (is : List TInput) (w n u k : ℕ) (seen : List Need) → inputs_leaves lib site rows b owners instance base place given w n u k is seen ≡ hits w n u (input_news instance base place given k is seen)
    input_hits [] w n u k seen = refl
    input_hits (i ∷ is) w n u k seen =
        let rest = input_hits is w n (u + length (one_of k i seen)) (k + 1) (with_plain seen i.name) in
        let both = hits_both w n u (u + length (one_of k i seen)) (one_of k i seen) (input_news instance base place given (k + 1) is (with_plain seen i.name)) refl in
        omega (arith, rest, both)

pub output_news_length : (instance base : ℕ) (place : List Segment) (calls : List Mark) (k : ℕ) (ds : List TDecl) (seen : List Need) → length (output_news instance base place calls k ds seen) ≡ length ds
output_news_length instance base place calls k [] seen = refl
output_news_length instance base place calls k (d ∷ ds) seen = let rest = output_news_length instance base place calls (k + 1) ds (with_plain seen d.name) in omega (arith, rest)

-- ---- what is added later leaves inputs and outputs

told_later : (b c : Sheet) (mine theirs : List ℕ) → Extends b mine c theirs → (u : ℕ) (name : List ℕ) (e : TExpr) (s : Scope) (d : ℕ) (cells : List ℕ) → ToldSits b mine u name e s d cells → ToldSits c theirs u name e s d cells
told_later b c mine theirs x u name e s d cells h =
    record {
      rule_at = x.rules u (declares name e s d) h.rule_at;
      step_at = x.steps u (left_wants cells) h.step_at;
      free = (x.owners d u h.free.0, x.values d None h.free.1);
    }

module _ (lib : Library) (site : List ℕ) (rows : List Row) (b c : Sheet) (mine theirs : List ℕ) (x : Extends b mine c theirs) (instance base : ℕ) (place : List Segment) where
  module _ (given : List Bind) where
    abbrev OneAt : Sheet → List ℕ → ℕ → ℕ → List ℕ → List Need → Option TExpr → Option Value → Type 0
    OneAt d own u k name seen e (Some y) = slice_get d.values (base + k) ≡ Some (Some y)
    OneAt d own u k name seen None None = slice_get d.values (base + k) ≡ Some (Some v.Absent)
    OneAt d own u k name seen (Some e) None = ToldSits d own u name e (told_scope base place [] seen) (base + k) (told_cells base seen e)

    one_later : (u k : ℕ) (name : List ℕ) (seen : List Need) (d : Option TExpr) (o : Option Value) → OneAt b mine u k name seen d o → OneAt c theirs u k name seen d o
    one_later u k name seen d (Some y) h = x.values (base + k) (Some y) h
    one_later u k name seen None None h = x.values (base + k) (Some v.Absent) h
    one_later u k name seen (Some e) None h = told_later b c mine theirs x u name e (told_scope base place [] seen) (base + k) (told_cells base seen e) h

    pub inputs_later : (is : List TInput) (u k : ℕ) (seen : List Need) → InputsSit lib site rows b mine instance base place given u k is seen → InputsSit lib site rows c theirs instance base place given u k is seen
    inputs_later [] u k seen h = tt
    inputs_later (i ∷ is) u k seen h = (
      one_later u k i.name seen i.value (lookup given (plain_key i.name)) h.0,
      inputs_later is (u + length (one_news instance base place k i.name seen i.value (lookup given (plain_key i.name)))) (k + 1) (with_plain seen i.name) h.1,
    )

  pub outputs_later : (calls : List Mark) (ds : List TDecl) (u : ℕ) (seen : List Need) → OutputsSit lib site rows b mine instance base place calls u ds seen → OutputsSit lib site rows c theirs instance base place calls u ds seen
  outputs_later calls [] u seen h = tt
  outputs_later calls (d ∷ ds) u seen h =
      (told_later b c mine theirs x u d.name d.value (told_scope base place calls seen) (base + length seen) (told_cells base seen d.value) h.0, outputs_later calls ds (u + 1) (with_plain seen d.name) h.1)
