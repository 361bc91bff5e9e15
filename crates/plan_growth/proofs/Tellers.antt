-- What holds of the steps of defaults and outputs of a workflow that is entered.
use Rattle.std.proofs.Common.{◌≡◌, ℕ, suc, ◌+◌, ◌<◌, List, [], ◌∷◌, All, map, length, Option, Some, None, slice_get, arith, sym, ap, ◌∙◌, refl}
use Rattle.std.proofs.lemmas.List.{length-append}
use Rattle.std.proofs.lemmas.List.Elements.{All-append, All-cons, All-nil}
use Rattle.std.proofs.lemmas.Option.{slice_get_within}
use Rattle.wdl_base.specs.declared.place.Segment.{Segment}
use Rattle.wdl_value.specs.declared.env.Bind.{Bind}
use Rattle.wdl_value.specs.declared.value.Value.{Value}
use Rattle.wdl_value.specs.declared.value.Value.TheVariants as v
use Rattle.wdl_value.specs.Tables.{Row}
use Rattle.wdl_typed.specs.declared.expr.TExpr.{TExpr}
use Rattle.wdl_typed.specs.declared.flow.FlowDef.{FlowDef}
use Rattle.wdl_typed.specs.declared.task.TDecl.{TDecl}
use Rattle.wdl_typed.specs.declared.task.TInput.{TInput}
use Rattle.wdl_typed.specs.Bodies.{Library}
use Rattle.wdl_typed.specs.Declarations.{plain_key}
use Rattle.wdl_typed.specs.Scope.{lookup, names_of}
use Rattle.net_laws.specs.Growing.{declares}
use Rattle.net_laws.specs.Net.{Mark}
use Rattle.plan_moves.specs.Sheets.{Sheet}
use Rattle.plan_layout.specs.declared.layout.BodyLayout.{BodyLayout}
use Rattle.plan_layout.specs.declared.layout.FlowLayout.{FlowLayout}
use Rattle.plan_layout.specs.declared.layout.Layout.{Layout}
use Rattle.plan_layout.specs.declared.layout.Need.{Need}
use Rattle.plan_layout.specs.Cells.{cell_at}
use Rattle.plan_layout.specs.Laid.{default_needs, input_needs, output_needs, with_inputs, with_plain}
use Rattle.plan_layout.specs.Sees.{DefaultSees, ExprSees, InputsSee, OutputsSee}
use Rattle.plan_layout.specs.Spots.{needs_of}
use Rattle.plan_growth.specs.declared.instance.Instance.{Instance}
use Rattle.plan_growth.specs.Begun.{IsFree}
use Rattle.plan_growth.specs.Meaning.{AreThere, IsInstance, MeansDeclared}
use Rattle.plan_growth.specs.News.{AllStand, New}
use Rattle.plan_growth.proofs.Adding.{stand_both}
use Rattle.plan_growth.proofs.There.{needs_below, there_both}
use Rattle.plan_growth.proofs.Told.{InputsSit, OutputsSit, ToldSits, input_news, one_news, output_news, told_cells, told_scope}

module _ (lib : Library) (layout : Layout) (site : List ℕ) (rows : List Row) (is : List Instance) (b : Sheet) (owners : List ℕ) (number base : ℕ) (place : List Segment) (body : BodyLayout) (flow : FlowDef) (fl : FlowLayout)
    (one : Instance) (bases : one.bases ≡ base ∷ []) (place_is : one.place ≡ place) (of_instance : IsInstance lib layout is number one body flow) (layout_there : slice_get layout.flows body.flow ≡ Some fl) where
  abbrev size : ℕ
  size = length b.values

  plain_there : (seen : List Need) (name : List ℕ) → AreThere (base ∷ []) size seen → base + length seen < size → AreThere (base ∷ []) size (with_plain seen name)
  plain_there seen name h lt = there_both (base ∷ []) size seen (record { key = plain_key name; level = 0; slot = length seen } ∷ []) h (omega arith, lt, tt)

  declared : (name : List ℕ) (e : TExpr) (seen : List Need) (calls : List Mark) (slot c : ℕ) → ExprSees seen e → AreThere (base ∷ []) size seen → c ≡ base + slot
      → MeansDeclared one name e (needs_of seen (names_of e)) slot size (told_cells base seen e) (declares name e (told_scope base place calls seen) c)
  declared name e seen calls slot c sees there at =
      record {
        base = base;
        bases = bases;
        cells_are = refl;
        seen = seen;
        all_seen = sees.names;
        distinct = sees.distinct;
        names = there;
        needs_are = refl;
        scope = told_scope base place calls seen;
        scope_names = refl;
        scope_place = sym place_is;
        means = ap (declares name e (told_scope base place calls seen)) at;
      }

  cells_inside : (e : TExpr) (seen : List Need) → AreThere (base ∷ []) size seen → All (λ (c : ℕ). c < size) (told_cells base seen e)
  cells_inside e seen there =
      All-append (λ (c : ℕ). c < size) (map (cell_at (base ∷ [])) (needs_of seen (names_of e))) [] (needs_below (base ∷ []) size seen there (names_of e)) (All-nil (λ (c : ℕ). c < size))

  abbrev Here : ℕ → List New → Type 0
  Here u ns = AllStand lib layout is b owners u ns

  abbrev Within : {A : Type 0} → List A → ℕ → List A → Type 0
  Within {A} xs k ys = (j : ℕ) (x : A) → slice_get xs j ≡ Some x → slice_get ys (k + j) ≡ Some x

  within_first : {A : Type 0} (x : A) (xs : List A) (k : ℕ) (ys : List A) → Within (x ∷ xs) k ys → slice_get ys k ≡ Some x
  within_first x xs k ys h = ap (slice_get ys) (omega arith) ∙ h 0 x refl

  within_rest : {A : Type 0} (x : A) (xs : List A) (k : ℕ) (ys : List A) → Within (x ∷ xs) k ys → Within xs (k + 1) ys
  within_rest x xs k ys h j z e = ap (slice_get ys) (omega arith) ∙ h (suc j) z e

  -- ---- inputs

  module _ (given : List Bind) where
    abbrev OneSits : ℕ → ℕ → List ℕ → List Need → Option TExpr → Option Value → Type 0
    OneSits u k name seen d (Some x) = slice_get b.values (base + k) ≡ Some (Some x)
    OneSits u k name seen None None = slice_get b.values (base + k) ≡ Some (Some v.Absent)
    OneSits u k name seen (Some e) None = ToldSits b owners u name e (told_scope base place [] seen) (base + k) (told_cells base seen e)

    one_inside : (u k : ℕ) (name : List ℕ) (seen : List Need) (d : Option TExpr) (o : Option Value) → OneSits u k name seen d o → base + k < size
    one_inside u k name seen d (Some x) h = slice_get_within b.values (base + k) (Some x) h
    one_inside u k name seen None None h = slice_get_within b.values (base + k) (Some v.Absent) h
    one_inside u k name seen (Some e) None h = slice_get_within b.values (base + k) None h.free.1

    one_stands : (u k : ℕ) (i : TInput) (seen : List Need) (d : Option TExpr) (o : Option Value) → i.value ≡ d → OneSits u k i.name seen d o → DefaultSees seen d → AreThere (base ∷ []) size seen
        → slice_get flow.inputs k ≡ Some i → slice_get fl.inputs k ≡ Some (default_needs seen d) → Here u (one_news number base place k i.name seen d o)
    one_stands u k i seen d (Some x) e h sees there at line = tt
    one_stands u k i seen None None e h sees there at line = tt
    one_stands u k i seen (Some x) None e h sees there at line = (
      record {
        means =
            record {
              instance = one;
              body = body;
              flow = flow;
              of_instance = of_instance;
              flow_layout = fl;
              layout_there = layout_there;
              input = i;
              input_there = at;
              value = x;
              default_is = e;
              needs = needs_of seen (names_of x);
              needs_there = line;
              declared = declared i.name x seen [] k (base + k) sees there refl;
            };
        free = λ z. All-cons (IsFree b owners u) (base + k) [] h.free (All-nil (IsFree b owners u));
        within = cells_inside x seen there;
      },
      tt,
    )

    pub inputs_stand : (xs : List TInput) (seen : List Need) (u k : ℕ) → k ≡ length seen → InputsSit lib site rows b owners number base place given u k xs seen → InputsSee seen xs → AreThere (base ∷ []) size seen
        → Within xs k flow.inputs → Within (input_needs seen xs) k fl.inputs → Here u (input_news number base place given k xs seen)
    inputs_stand [] seen u k same sit sees there at line = tt
    inputs_stand (i ∷ xs) seen u k same sit sees there at line =
        let o = lookup given (plain_key i.name) in
        let inside = one_inside u k i.name seen i.value o sit.0 in
        let more = length-append seen (record { key = plain_key i.name; level = 0; slot = length seen } ∷ []) in
        stand_both lib layout is b owners u (u + length (one_news number base place k i.name seen i.value o)) (one_news number base place k i.name seen i.value o) (input_news number base place given (k + 1) xs (with_plain seen i.name)) refl
        (one_stands u k i seen i.value o refl sit.0 sees.0 there (within_first i xs k flow.inputs at)
        (within_first (default_needs seen i.value) (input_needs (with_plain seen i.name) xs) k fl.inputs line))
        (inputs_stand xs (with_plain seen i.name) (u + length (one_news number base place k i.name seen i.value o)) (k + 1) (omega (arith, more, same)) sit.1 sees.1
        (plain_there seen i.name there (omega (arith, inside, same))) (within_rest i xs k flow.inputs at)
        (within_rest (default_needs seen i.value) (input_needs (with_plain seen i.name) xs) k fl.inputs line))

    pub inputs_there : (xs : List TInput) (seen : List Need) (u k : ℕ) → k ≡ length seen → InputsSit lib site rows b owners number base place given u k xs seen → AreThere (base ∷ []) size seen
        → AreThere (base ∷ []) size (with_inputs seen xs)
    inputs_there [] seen u k same sit there = there
    inputs_there (i ∷ xs) seen u k same sit there =
        let o = lookup given (plain_key i.name) in
        let inside = one_inside u k i.name seen i.value o sit.0 in
        let more = length-append seen (record { key = plain_key i.name; level = 0; slot = length seen } ∷ []) in
        inputs_there xs (with_plain seen i.name) (u + length (one_news number base place k i.name seen i.value o)) (k + 1) (omega (arith, more, same)) sit.1 (plain_there seen i.name there (omega (arith, inside, same)))

  -- ---- outputs

  pub outputs_stand : (calls : List Mark) (ds : List TDecl) (seen : List Need) (u k : ℕ) → fl.first_output + k ≡ length seen → OutputsSit lib site rows b owners number base place calls u ds seen → OutputsSee seen ds
      → AreThere (base ∷ []) size seen → Within ds k flow.outputs → Within (output_needs seen ds) k fl.outputs → Here u (output_news number base place calls k ds seen)
  outputs_stand calls [] seen u k same sit sees there at line = tt
  outputs_stand calls (d ∷ ds) seen u k same sit sees there at line =
      let inside = slice_get_within b.values (base + length seen) None sit.0.free.1 in
      let more = length-append seen (record { key = plain_key d.name; level = 0; slot = length seen } ∷ []) in (
        record {
          means =
              record {
                instance = one;
                body = body;
                flow = flow;
                of_instance = of_instance;
                flow_layout = fl;
                layout_there = layout_there;
                output = d;
                output_there = within_first d ds k flow.outputs at;
                needs = needs_of seen (names_of d.value);
                needs_there = within_first (needs_of seen (names_of d.value)) (output_needs (with_plain seen d.name) ds) k fl.outputs line;
                declared = declared d.name d.value seen calls (fl.first_output + k) (base + length seen) sees.0 there (omega (arith, same));
              };
          free = λ z. All-cons (IsFree b owners u) (base + length seen) [] sit.0.free (All-nil (IsFree b owners u));
          within = cells_inside d.value seen there;
        },
        outputs_stand calls ds (with_plain seen d.name) (u + 1) (k + 1) (omega (arith, more, same)) sit.1 sees.1 (plain_there seen d.name there inside) (within_rest d ds k flow.outputs at)
            (within_rest (needs_of seen (names_of d.value)) (output_needs (with_plain seen d.name) ds) k fl.outputs line),
      )
