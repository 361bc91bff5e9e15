-- What is ready in a sight is ready over needs that have the same values.
use Rattle.std.proofs.Common.{◌≡◌, Bool, true, false, cond, ◌||◌, List, [], ◌∷◌, map, Option, Some, None, Ok, refl, subst, sym, ◌∙◌}
use Rattle.wdl_base.specs.declared.name.Key.{Key}
use Rattle.wdl_value.specs.declared.env.Bind.{Bind}
use Rattle.wdl_value.specs.declared.value.Value.{Value}
use Rattle.wdl_value.specs.Outcome.{Outcome}
use Rattle.wdl_typed.specs.declared.expr.TExpr.{TExpr}
use Rattle.wdl_typed.specs.declared.expr.TField.{TField}
use Rattle.wdl_typed.specs.Evaluation.{value_of}
use Rattle.wdl_typed.specs.Flow.{Ended, Known, all_known, env_of}
use Rattle.wdl_typed.specs.Journal.{keys_distinct}
use Rattle.wdl_typed.specs.Requests.{before}
use Rattle.wdl_typed.specs.Scope.{is_among, lookup, names_of, same_key, type_in}
use Rattle.wdl_eval.specs.Ready.{IsGiven, IsReady}
use Rattle.flow_soundness.specs.Readiness.{AreArgsReady}
use Rattle.flow_laws.proofs.Agree.{Agree, value_same}
use Rattle.flow_laws.proofs.Keys.{key_same}
use Rattle.net_laws.specs.Net.{Cells, Scope, Slot, known_in, slot_keys}
use Rattle.net_laws.specs.Rules.{Needs, arg_keys, head}
use Rattle.net_laws.proofs.Further.{Sees, further}
use Rattle.net_laws.proofs.Local.{known_same, agree_left as first_keys, agree_right as later_keys}
use Rattle.net_laws.proofs.Sets.{all_known_set, slots_set}

-- Where names agree, each one is looked up the same.
agreed : (env other : List Bind) (keys : List Key) → Agree env other keys → (key : Key) → is_among key keys ≡ true → lookup env key ≡ lookup other key
agreed env other [] a key h = cc
agreed env other (k ∷ keys) a key h = by_test (same_key k key) refl h (agreed env other keys a.1 key)
  where
    by_test : (b : Bool) → same_key k key ≡ b → (b || is_among key keys) ≡ true → (is_among key keys ≡ true → lookup env key ≡ lookup other key) → lookup env key ≡ lookup other key
    by_test true e h rest = subst (λ (j : Key). lookup env j ≡ lookup other j) (key_same k key e) a.0
    by_test false e h rest = rest h

pub ready_near : (e : TExpr) (env other : List Bind) → Agree env other (names_of e) → IsReady e other → IsReady e env
ready_near e env other a r =
    record {
      context = r.context;
      placeholder = r.placeholder;
      ty = r.ty;
      typed = r.typed;
      fitting = λ key h. subst (λ (o : Option Value). IsGiven r.context.structs (type_in r.context.names key) o) (sym (agreed env other (names_of e) a key h)) (r.fitting key h);
    }

pub args_near : (env other : List Bind) (as_ : List (TField TExpr)) → Agree env other (arg_keys as_) → AreArgsReady other as_ → AreArgsReady env as_
args_near env other [] a h = tt
args_near env other (x ∷ xs) a h =
    (ready_near x.value env other (first_keys env other (names_of x.value) (arg_keys xs) a) h.0, args_near env other xs (later_keys env other (names_of x.value) (arg_keys xs) a) h.1)

known_parts : (b : Bool) (r : Outcome Value) (x : Value) → (let o : Option (Outcome Value) = cond b (Some r) None in o ≡ Some (Ok x)) → (b ≡ true) × (r ≡ Ok x)
known_parts true r x h = (refl, (cc))
known_parts false r x h = (absurd (let f : ⊥ = cc in f), absurd (let f : ⊥ = cc in f))

module _ (cells : Cells) (s : Scope) (distinct : keys_distinct (slot_keys s.names) ≡ true) (ls : List Known) (es : List Ended) (sees : Sees cells s ls es) where
  module _ (e : TExpr) (slots : List Slot) (needs : Needs s (names_of e) slots) (set : slots_set cells slots ≡ true) where
    pub agrees_here : Agree (env_of (map (known_in cells) slots)) (env_of ls) (names_of e)
    agrees_here = further cells s distinct ls es sees slots set (names_of e) needs

    pub known_there : all_known ls e ≡ true
    known_there = sym (known_same (map (known_in cells) slots) ls e agrees_here) ∙ all_known_set cells slots set (names_of e) needs.all

    -- The value of a head is the one that it has there.
    pub value_there : (x : Value) → head cells slots e ≡ Some (Ok x) → value_of (before (env_of ls)) e ≡ Ok x
    value_there x h =
        sym (value_same (env_of (map (known_in cells) slots)) (env_of ls) e agrees_here)
        ∙ (known_parts (all_known (map (known_in cells) slots) e) (value_of (before (env_of (map (known_in cells) slots))) e) x h).1

  pub expr_near : (e : TExpr) → (all_known ls e ≡ true → IsReady e (env_of ls)) → (slots : List Slot) → Needs s (names_of e) slots → slots_set cells slots ≡ true → IsReady e (env_of (map (known_in cells) slots))
  expr_near e h slots needs set = ready_near e (env_of (map (known_in cells) slots)) (env_of ls) (agrees_here e slots needs set) (h (known_there e slots needs set))
