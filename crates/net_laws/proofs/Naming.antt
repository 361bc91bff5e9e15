-- What grows has the names of its statements.
use Rattle.std.proofs.Common.{◌≡◌, ℕ, List, [], ◌∷◌, ◌++◌, map, sym, ap, ◌∙◌, subst, refl}
use Rattle.wdl_base.specs.declared.name.Key.{Key}
use Rattle.wdl_value.specs.Tables.{Row}
use Rattle.wdl_typed.specs.declared.flow.Statement.{Statement, Statement-F, fold_out-Statement, fold-roll-Statement, ind-Statement, map-Statement, out-Statement, roll-Statement}
use Rattle.wdl_typed.specs.declared.flow.Statement.TheOpen as layer
use Rattle.wdl_typed.specs.declared.flow.Statement.TheVariants as stmt
use Rattle.wdl_typed.specs.declared.flow.TCall.{TCall}
use Rattle.wdl_typed.specs.declared.flow.TIf.{TIf}
use Rattle.wdl_typed.specs.declared.flow.TScatter.{TScatter}
use Rattle.wdl_typed.specs.declared.task.TDecl.{TDecl}
use Rattle.wdl_typed.specs.Bodies.{Library}
use Rattle.wdl_typed.specs.Flow.{Callee, Names, Part, Run, all_given, names_of_part, nothing, statement_step}
use Rattle.flow_laws.specs.Laws.{run_with}
use Rattle.net_laws.specs.Net.{Given, Mark, Slot, both_given, mark_calls, slot_keys}
use Rattle.net_laws.specs.Planned.{call_names, names_in, part_of}
use Rattle.net_laws.specs.Growing.{Form, Growing, IsNamed, Rule, State, absent_input, all, body_given, default_input, each, each_scatter, failed_if, failed_scatter, false_if, flow_whole, given_input, item_next, left_call, left_decl, left_if, left_scatter, next, no_input, no_item, no_output, none_left, one, only, output_next, run_call, takes, tells, told_call, told_decl, true_if, whole}

keys_append : (a b : List Slot) → slot_keys (a ++ b) ≡ slot_keys a ++ slot_keys b
keys_append [] b = refl
keys_append (s ∷ ss) b = ap (λ (ks : List Key). s.key ∷ ks) (keys_append ss b)

calls_append : (a b : List Mark) → mark_calls (a ++ b) ≡ mark_calls a ++ mark_calls b
calls_append [] b = refl
calls_append (m ∷ ms) b = ap (λ (cs : List (List ℕ)). m.call ∷ cs) (calls_append ms b)

-- ---- the names of statements depend on the library alone

module _ (lib : Library) (site : List ℕ) (table : List Row) (callee : Callee) where
  abbrev here : Run
  here = run_with lib site table

  abbrev bare : Run
  bare = run_with lib [] []

  abbrev none : Callee
  none k given place = nothing

  abbrev pub name_of : Statement → Names
  name_of st = (part_of bare none st).names

  abbrev pub Holds : Statement → Type 0
  Holds st = (part_of here callee st).names ≡ name_of st

  abbrev Both : Type 0
  Both = (st : Statement) × Holds st

  abbrev plain : Statement-F Both → Statement-F Statement
  plain = map-Statement Both Statement (λ (k : Both). k.0)

  abbrev firsts : List Both → List Statement
  firsts = map (λ (k : Both). k.0)

  lists_same : (ks : List Both) → map names_of_part (map (part_of here callee) (firsts ks)) ≡ map names_of_part (map (part_of bare none) (firsts ks))
  lists_same [] = refl
  lists_same (k ∷ ks) = ap (λ (n : Names). n ∷ map names_of_part (map (part_of here callee) (firsts ks))) k.1 ∙ ap (λ (ns : List Names). name_of k.0 ∷ ns) (lists_same ks)

  layer_same : (y : Statement-F Both)
      → (statement_step here callee (map-Statement Statement Part (part_of here callee) (plain y))).names ≡ (statement_step bare none (map-Statement Statement Part (part_of bare none) (plain y))).names
  layer_same (layer.Decl d) = refl
  layer_same (layer.Call c) = refl
  layer_same (layer.Scatter b) = ap all_given (lists_same b.body)
  layer_same (layer.If b) = ap all_given (lists_same b.body)

  pub name_same : (st : Statement) → Holds st
  name_same = ind-Statement Holds (λ x y is. subst (λ (z : Statement-F Statement). Holds (roll-Statement z)) is
      (ap names_of_part (fold-roll-Statement Part (statement_step here callee) (plain y))
      ∙ layer_same y
      ∙ sym (ap names_of_part (fold-roll-Statement Part (statement_step bare none) (plain y)))))

  pub given_same : (ss : List Statement) → names_in here callee ss ≡ body_given lib ss
  given_same ss = ap all_given (go ss)
    where
      go : (xs : List Statement) → map names_of_part (map (part_of here callee) xs) ≡ map names_of_part (map (part_of bare none) xs)
      go [] = refl
      go (x ∷ xs) = ap (λ (n : Names). n ∷ map names_of_part (map (part_of here callee) xs)) (name_same x) ∙ ap (λ (ns : List Names). name_of x ∷ ns) (go xs)

  -- ---- the names of each form

  name_is : (st : Statement) (y : Statement-F Statement) → out-Statement st ≡ y → name_of st ≡ (statement_step bare none (map-Statement Statement Part (part_of bare none) y)).names
  name_is st y e =
      ap names_of_part (fold_out-Statement Part (statement_step bare none) st ∙ ap (λ (z : Statement-F Statement). statement_step bare none (map-Statement Statement Part (part_of bare none) z)) e)

  module _ (desc : ℕ → Rule → Type 0) (st : State) where
    decl_named : (x : TDecl) (c : ℕ) → IsNamed (name_of (stmt.Decl x)) (only x.name c)
    decl_named x c = subst (λ (n : Names). IsNamed n (only x.name c)) (sym (name_is (stmt.Decl x) (layer.Decl x) (stmt.outs-Decl x))) (record { keys = refl; calls = refl })

    call_named : (x : TCall) (g : Given) → IsNamed (call_names lib x) g → IsNamed (name_of (stmt.Call x)) g
    call_named x g = subst (λ (n : Names). IsNamed n g) (sym (name_is (stmt.Call x) (layer.Call x) (stmt.outs-Call x)))

    scatter_named : (x : TScatter Statement) (g : Given) → IsNamed (body_given lib x.body) g → IsNamed (name_of (stmt.Scatter x)) g
    scatter_named x g = subst (λ (n : Names). IsNamed n g) (sym (name_is (stmt.Scatter x) (layer.Scatter x) (stmt.outs-Scatter x)))

    if_named : (x : TIf Statement) (g : Given) → IsNamed (body_given lib x.body) g → IsNamed (name_of (stmt.If x)) g
    if_named x g = subst (λ (n : Names). IsNamed n g) (sym (name_is (stmt.If x) (layer.If x) (stmt.outs-If x)))

    -- Its names and calls are those of its statements.
    abbrev pub Named : Form → Type 0
    Named (one x s g d) = IsNamed (name_of x) g
    Named (all ss s g ds) = IsNamed (body_given lib ss) g
    Named (each ss s k item i ys qs) = Unit {0}
    Named (takes given is s g) = Unit {0}
    Named (tells ds s g) = Unit {0}
    Named (whole f given place g ds) = Unit {0}

    both_named : (x : Statement) (xs : List Statement) (g h : Given) → IsNamed (name_of x) g → IsNamed (body_given lib xs) h → IsNamed (body_given lib (x ∷ xs)) (both_given g h)
    both_named x xs g h p q =
        record {
          keys = keys_append g.names h.names ∙ ap (λ (ks : List Key). ks ++ slot_keys h.names) p.keys ∙ ap (λ (ks : List Key). (name_of x).keys ++ ks) q.keys;
          calls = calls_append g.calls h.calls ∙ ap (λ (cs : List (List ℕ)). cs ++ mark_calls h.calls) p.calls ∙ ap (λ (cs : List (List ℕ)). (name_of x).calls ++ cs) q.calls;
        }

    pub named : {depth : ℕ} {f : Form} → Growing lib site table desc st depth f → Named f
    named (none_left depth s) = record { keys = refl; calls = refl }
    named (next depth x xs s g h d ds p q) = both_named x xs g h (named p) (named q)
    named (left_decl depth x s c t left n k) = decl_named x c
    named (left_call depth x s g d t left n is ends k) = call_named x g is
    named (left_scatter depth x s g d t left n outside k) = scatter_named x g outside.named
    named (left_if depth x s g d t left n outside k) = if_named x g outside.named
    named (told_decl depth x s c t w taken n set own follows) = decl_named x c
    named (told_call depth x s g d t w taken n set is ends own plain_ follows) = call_named x g is
    named (run_call depth x s g h d t ds taken n set k is f found args met names ends distinct p copied ended) = call_named x g names
    named (failed_scatter depth x s g d t c taken n set e outside k) = scatter_named x g outside.named
    named (each_scatter depth x s g d t y qs taken n set e outside p names calls ended) = scatter_named x g outside.named
    named (failed_if depth x s g d t c taken n set e outside k) = if_named x g outside.named
    named (false_if depth x s g d t y taken n set e off outside own same done) = if_named x g outside.named
    named (true_if depth x s g h d t ds y taken n set e on outside p names calls ended) = if_named x g outside.named
    named (no_item depth xs s k item i) = tt
    named (item_next depth xs s k item i cell y ys g ds qs is p q) = tt
    named (no_input depth given s) = tt
    named (given_input depth given i is s h c y e v p) = tt
    named (absent_input depth given i is s h c e lacking v p) = tt
    named (default_input depth given i is s h c e lacking some d p) = tt
    named (no_output depth s) = tt
    named (output_next depth x xs s h c d p) = tt
    named (flow_whole depth f given place i b o ds p q r) = tt
