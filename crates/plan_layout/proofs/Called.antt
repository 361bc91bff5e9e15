-- The calls that a statement gives out are among the names that it declares.
use Rattle.std.proofs.Common.{ℕ, List, [], ◌∷◌, ◌++◌, map, sym, ◌∙◌, subst, refl}
use Rattle.std.proofs.lemmas.Bool.{false≢true, or_left}
use Rattle.std.proofs.lemmas.List.{map-append}
use Rattle.wdl_base.specs.declared.name.Key.{Key}
use Rattle.wdl_typed.specs.declared.flow.Statement.{Statement, Statement-F, fold-roll-Statement, ind-Statement, map-Statement, out-Statement, roll-Statement}
use Rattle.wdl_typed.specs.declared.flow.Statement.TheOpen as layer
use Rattle.wdl_typed.specs.Bodies.{Library, append_all, declared, names_step}
use Rattle.wdl_typed.specs.Declarations.{plain_key}
use Rattle.wdl_typed.specs.Flow.{Names}
use Rattle.wdl_typed.specs.Lists.{has_name}
use Rattle.flow_laws.proofs.Checked.{names_left}
use Rattle.flow_laws.proofs.Owned.{Owned, has_either, owned_both, owned_nothing, owned_one}
use Rattle.net_laws.specs.Growing.{body_given}
use Rattle.plan_layout.specs.Laid.{given_at}
use Rattle.plan_layout.specs.Spots.{plain_keys}
use Rattle.plan_layout.proofs.Given.{name_is, name_of, rolled_name}

pub owned_none : (ns : List (List ℕ)) → Owned ns []
owned_none ns = record { distinct = λ h. refl; named = λ key i. absurd (false≢true i) }

pub owned_more : (ns ms : List (List ℕ)) (ks : List Key) → Owned ns ks → Owned (ns ++ ms) ks
owned_more ns ms ks h =
    record {
      distinct = λ d. h.distinct (names_left ns ms d);
      named = λ key i. has_either key.first ns ms ∙ or_left (has_name key.first ns) (has_name key.first ms) (h.named key i);
    }

module _ (lib : Library) where
  abbrev Holds : Statement → Type 0
  Holds st = Owned (declared st) (plain_keys (name_of lib st).calls)

  abbrev Known : Type 0
  Known = (st : Statement) × Holds st

  abbrev plain : Statement-F Known → Statement-F Statement
  plain = map-Statement Known Statement (λ (k : Known). k.0)

  abbrev firsts : List Known → List Statement
  firsts = map (λ (k : Known). k.0)

  list_owned : (ks : List Known) → Owned (append_all (map declared (firsts ks))) (plain_keys (body_given lib (firsts ks)).calls)
  list_owned [] = owned_nothing
  list_owned (k ∷ ks) =
      let here = (name_of lib k.0).calls in
      let rest = (body_given lib (firsts ks)).calls in
      subst (λ (xs : List Key). Owned (append_all (map declared (firsts (k ∷ ks)))) xs) (sym (map-append plain_key here rest))
      (owned_both (declared k.0) (append_all (map declared (firsts ks))) (plain_keys here) (plain_keys rest) k.1 (list_owned ks))

  layer_owned : (y : Statement-F Known) → Owned (names_step (map-Statement Statement (List (List ℕ)) declared (plain y))) (plain_keys (given_at lib (plain y)).calls)
  layer_owned (layer.Decl d) = owned_none (d.name ∷ [])
  layer_owned (layer.Call c) = owned_one c.name
  layer_owned (layer.Scatter b) = list_owned b.body
  layer_owned (layer.If b) = list_owned b.body

  statement_owned : (st : Statement) → Holds st
  statement_owned = ind-Statement Holds (λ x y is. subst (λ (z : Statement-F Statement). Holds (roll-Statement z)) is
      (subst (λ (n : Names). Owned (declared (roll-Statement (plain y))) (plain_keys n.calls)) (sym (rolled_name lib (plain y)))
      (subst (λ (ns : List (List ℕ)). Owned ns (plain_keys (given_at lib (plain y)).calls)) (sym (fold-roll-Statement (List (List ℕ)) names_step (plain y))) (layer_owned y))))

  pub calls_owned : (st : Statement) → Owned (declared st) (plain_keys (given_at lib (out-Statement st)).calls)
  calls_owned st = subst (λ (n : Names). Owned (declared st) (plain_keys n.calls)) (name_is lib st) (statement_owned st)
