-- What a step needs, once it is set, has the same values in a sight that sees more.
use Rattle.std.proofs.Common.{◌≡◌, ℕ, Bool, true, cond, List, [], ◌∷◌, ◌++◌, map, Option, Some, None, ap, refl, subst, sym, ◌∙◌}
use Rattle.std.specs.List.{list_all}
use Rattle.std.proofs.lemmas.Bool.{and_parts, false≢true}
use Rattle.std.proofs.lemmas.List.{map-append}
use Rattle.wdl_base.specs.declared.name.Key.{Key}
use Rattle.wdl_value.specs.declared.value.Value.{Value}
use Rattle.wdl_value.specs.Outcome.{Outcome}
use Rattle.wdl_value.specs.Tables.{Row}
use Rattle.wdl_typed.specs.declared.expr.TExpr.{TExpr}
use Rattle.wdl_typed.specs.declared.flow.TCall.{TCall}
use Rattle.wdl_typed.specs.Bodies.{Library}
use Rattle.wdl_typed.specs.Evaluation.{value_of}
use Rattle.wdl_typed.specs.Flow.{Callee, Ended, Known, Names, all_known, call_of, declaration, env_of, has_ended, is_known}
use Rattle.wdl_typed.specs.Journal.{keys_distinct}
use Rattle.wdl_typed.specs.KnownTypes.{is_some}
use Rattle.wdl_typed.specs.Requests.{before}
use Rattle.wdl_typed.specs.Scope.{lookup, names_of}
use Rattle.flow_laws.specs.Below.{Stays}
use Rattle.flow_laws.specs.Laws.{run_with}
use Rattle.flow_laws.proofs.Agree.{Agree, value_same}
use Rattle.flow_laws.proofs.KnownNames.{NamesStay, keys_of, lookup_stays, names_stay_both}
use Rattle.flow_laws.proofs.Runners.{sight}
use Rattle.flow_laws.proofs.Under.{CallsStay, all_ended_stay, calls_stay_both}
use Rattle.net_laws.specs.Net.{Cells, Given, Mark, Scope, Slot, beyond, ended_in, known_in, slot_keys}
use Rattle.net_laws.specs.Planned.{CallNeeds}
use Rattle.net_laws.specs.Rules.{Needs, arg_keys, head, own_sight}
use Rattle.net_laws.proofs.Local.{call_same, declaration_same, known_same}
use Rattle.net_laws.proofs.Lookups.{agree, all_ended_needed}
use Rattle.net_laws.proofs.Sets.{all_ended_set, all_known_set, marks_set, slots_set}
use Rattle.net_laws.proofs.Shown.{head_of, on_head}

module _ (cells : Cells) where
  pub keys_known : (ss : List Slot) → keys_of (map (known_in cells) ss) ≡ slot_keys ss
  keys_known [] = refl
  keys_known (s ∷ ss) = ap (λ (ks : List Key). s.key ∷ ks) (keys_known ss)

  -- A sight has at least what the cells have of the scope.
  pub record Sees (s : Scope) (ls : List Known) (es : List Ended) : Type 0 where
    pub names : NamesStay (map (known_in cells) s.names) ls
    pub calls : CallsStay (map (ended_in cells) s.calls) es

  pub sees_beyond : (s : Scope) (g : Given) (ls ms : List Known) (es fs : List Ended) → Sees s ls es → NamesStay (map (known_in cells) g.names) ms → CallsStay (map (ended_in cells) g.calls) fs
      → Sees (beyond s g) (ls ++ ms) (es ++ fs)
  sees_beyond s g ls ms es fs h names calls =
      record {
        names = subst (λ (ks : List Known). NamesStay ks (ls ++ ms)) (sym (map-append (known_in cells) s.names g.names)) (names_stay_both (map (known_in cells) s.names) ls (map (known_in cells) g.names) ms h.names names);
        calls = subst (λ (cs : List Ended). CallsStay cs (es ++ fs)) (sym (map-append (ended_in cells) s.calls g.calls)) (calls_stay_both (map (ended_in cells) s.calls) es (map (ended_in cells) g.calls) fs h.calls calls);
      }

  module _ (s : Scope) (distinct : keys_distinct (slot_keys s.names) ≡ true) (ls : List Known) (es : List Ended) (sees : Sees s ls es) where
    abbrev ks : List Known
    ks = map (known_in cells) s.names

    stays : (key : Key) → Stays (lookup (env_of ks) key) (lookup (env_of ls) key)
    stays = lookup_stays ks ls sees.names (ap keys_distinct (keys_known s.names) ∙ distinct)

    known_value : (o : Option Value) → is_some o ≡ true → (x : Value) × (o ≡ Some x)
    known_value None h = absurd (false≢true h)
    known_value (Some x) h = (x, refl)

    module _ (ns : List Slot) (set : slots_set cells ns ≡ true) where
      abbrev os : List Known
      os = map (known_in cells) ns

      agree_known : (keys : List Key) → list_all (is_known os) keys ≡ true → Agree (env_of ks) (env_of os) keys → Agree (env_of os) (env_of ls) keys
      agree_known [] h a = tt
      agree_known (k ∷ keys) h a =
          let p = and_parts (is_known os k) (list_all (is_known os) keys) h in
          let x = known_value (lookup (env_of os) k) p.0 in
          (x.1 ∙ sym (stays k x.0 (a.0 ∙ x.1)), agree_known keys p.1 a.1)

      pub further : (keys : List Key) → Needs s keys ns → Agree (env_of os) (env_of ls) keys
      further keys needs = agree_known keys (all_known_set cells ns set keys needs.all) (agree cells s.names ns distinct needs.resolved keys needs.all)

      pub declaration_further : (name : List ℕ) (e : TExpr) → Needs s (names_of e) ns → declaration (sight s.place ls es) name e ≡ declaration (own_sight cells s.place ns []) name e
      declaration_further name e needs = sym (declaration_same s.place os ls [] es name e (further (names_of e) needs))

      pub head_further : {A : Type 0} (f : Outcome Value → A) (a : A) (e : TExpr) → Needs s (names_of e) ns → cond (all_known ls e) (f (value_of (before (env_of ls)) e)) a ≡ on_head cells f a (head cells ns e)
      head_further f a e needs =
          let same = further (names_of e) needs in
          sym (ap (λ (b : Bool). cond b (f (value_of (before (env_of ls)) e)) a) (known_same os ls e same))
          ∙ sym (ap (λ (r : Outcome Value). cond (all_known os e) (f r) a) (value_same (env_of os) (env_of ls) e same))
          ∙ head_of cells f a (all_known os e) (value_of (before (env_of os)) e)

      pub call_further : (lib : Library) (site : List ℕ) (table : List Row) (callee : Callee) (n : Names) (c : TCall) (ms : List Mark) → marks_set cells ms ≡ true → CallNeeds s c ns ms
          → call_of (run_with lib site table) callee n c (sight s.place ls es) ≡ call_of (run_with lib site table) callee n c (own_sight cells s.place ns ms)
      call_further lib site table callee n c ms ended needs =
          sym (call_same lib site table callee n c s.place os ls (map (ended_in cells) ms) es (further (arg_keys c.args) needs.names) (own ∙ sym far))
        where
          own : list_all (has_ended (map (ended_in cells) ms)) c.after ≡ true
          own = all_ended_set cells ms ended c.after needs.after

          far : list_all (has_ended es) c.after ≡ true
          far = all_ended_stay (map (ended_in cells) s.calls) es sees.calls c.after (all_ended_needed cells s.calls ms needs.calls c.after needs.after ∙ own)
