-- Statements that are well typed and keep the rules where they stand, and the bodies that they make.
use Rattle.std.proofs.Common.{◌≡◌, ℕ, ◌<◌, ◌^◌, ◌⊎◌, inl, inr, Bool, true, List, [], ◌∷◌, ◌++◌, map, Some, None, Contains, append-nil, sym, ap, ◌∙◌, subst}
use Rattle.std.proofs.lemmas.Bool.{and_parts}
use Rattle.std.proofs.lemmas.List.Elements.{Contains-append_left, Contains-append_right}
use Rattle.wdl_base.specs.declared.name.Key.{Key}
use Rattle.wdl_base.specs.Names.{is_name}
use Rattle.wdl_value.specs.declared.ty.Ty.{Ty}
use Rattle.wdl_typed.specs.declared.flow.Statement.{Statement, Statement-F, fold-Statement, fold-roll-Statement, map-Statement, out-Statement, out-roll-Statement, roll-Statement}
use Rattle.wdl_typed.specs.declared.flow.Target.{Target}
use Rattle.wdl_typed.specs.declared.scope.Bound.{Bound}
use Rattle.wdl_typed.specs.Bodies.{Differing, Giving, Library, Numbered, Seen, body_gives, body_nests, declared, gives, items_step, joined, names_step, nests, numbered_step, statement_step}
use Rattle.wdl_typed.specs.Kept.{count_step}
use Rattle.wdl_typed.specs.Lists.{has_name, has_number}
use Rattle.wdl_typed.specs.Scope.{type_in}
use Rattle.wdl_names.specs.Fresh.{fresh}
use Rattle.flow_soundness.specs.Readiness.{IsNew, are_among}
use Rattle.flow_soundness.proofs.Newness.{head_new, tail_new}
use Rattle.cwl_image.specs.declared.broken.Broken.{Broken}
use Rattle.cwl_image.specs.Expressions.{is_simple}
use Rattle.cwl_image.specs.Image.{Draft, Scope, Targets, body_uses, draft, draft_step, links_of}
use Rattle.cwl_image.specs.Named.{all_true, named_step, statement_named}
use Rattle.cwl_image.specs.Subset.{Walk, called_broken, called_step, walk, walk_body, walk_step}
use Rattle.cwl_laws.proofs.Covers.{Covers, IsWithin, by_side, covers_then, within_then}
use Rattle.cwl_laws.proofs.Elements.{out_back}
use Rattle.cwl_laws.proofs.Keys.{outs_are}
use Rattle.cwl_laws.proofs.Splits.{Split, split}
use Rattle.cwl_laws.proofs.Steps.{AreCounted, IsCounted, count_of, number_of}
use Rattle.cwl_laws.proofs.Tools.{both_empty}
use Rattle.cwl_laws.proofs.Uses.{HasType, uses_typed}

-- the types of these names are those of the subset
abbrev pub AreSimple : List Bound → Type 0
AreSimple names = (k : Key) (t : Ty) → type_in names k ≡ Some t → is_simple t ≡ true

abbrev pub AreWords : List Bound → Type 0
AreWords names = (k : Key) (t : Ty) → type_in names k ≡ Some t → is_name k.first ≡ true

pub simple_then : (names more : List Bound) → AreSimple names → AreSimple more → AreSimple (names ++ more)
simple_then names more h j k t e = by_case (by_side names more k t e)
  where
    by_case : (type_in names k ≡ Some t) ⊎ ((type_in names k ≡ None) × (type_in more k ≡ Some t)) → is_simple t ≡ true
    by_case (inl q) = h k t q
    by_case (inr q) = j k t q.1

pub words_then : (names more : List Bound) → AreWords names → AreWords more → AreWords (names ++ more)
words_then names more h j k t e = by_case (by_side names more k t e)
  where
    by_case : (type_in names k ≡ Some t) ⊎ ((type_in names k ≡ None) × (type_in more k ≡ Some t)) → is_name k.first ≡ true
    by_case (inl q) = h k t q
    by_case (inr q) = j k t q.1

module _ (lib : Library) (processes : Targets) (declared_in : List (List ℕ)) (targets : Target → List Broken) where
  abbrev pub called_of : Statement → List Broken
  called_of = fold-Statement (List Broken) (called_step targets)

  -- a statement among statements with these names, which nests so deep at most
  pub record One (n : ℕ) (all taken : List (List ℕ)) (seen first : Seen) (scope : Scope) (st : Statement) : Type 0 where
    pub typed : gives lib st seen ≡ Some first
    pub kept : (walk lib declared_in st seen.names).broken ≡ []
    pub called : called_of st ≡ []
    pub nested : nests lib.flows n (out-Statement st) ≡ true
    pub new : IsNew all taken seen (st ∷ [])
    pub named : statement_named st ≡ true
    pub counted : IsCounted st
    pub simple : AreSimple seen.names
    pub words : AreWords seen.names
    pub covers : Covers scope seen.names (draft lib processes st).uses

  -- a body
  pub record Body (n : ℕ) (all taken : List (List ℕ)) (seen g : Seen) (scope : Scope) (ss : List Statement) : Type 0 where
    pub typed : body_gives lib ss seen ≡ Some g
    pub kept : (walk_body lib declared_in ss seen.names).broken ≡ []
    pub called : called_broken targets ss ≡ []
    pub nested : body_nests lib.flows n ss ≡ true
    pub new : IsNew all taken seen ss
    pub named : all_true (map statement_named ss) ≡ true
    pub counted : AreCounted ss
    pub simple : AreSimple seen.names
    pub words : AreWords seen.names
    pub covers : Covers scope seen.names (body_uses (map (draft lib processes) ss))
    pub within : IsWithin scope seen.names

  module _ (n : ℕ) (all taken : List (List ℕ)) (seen g : Seen) (scope : Scope) (st : Statement) (ss : List Statement) (b : Body n all taken seen g scope (st ∷ ss)) where
    abbrev Here : Type 0
    Here = Split lib processes declared_in st ss seen g

    pub parted : Here
    parted = split lib processes declared_in st ss seen g b.typed b.kept

    head_and_tail : (called_of st ≡ []) × (called_broken targets ss ≡ [])
    head_and_tail = both_empty (called_of st) (called_broken targets ss) b.called

    nested_both : (nests lib.flows n (out-Statement st) ≡ true) × (body_nests lib.flows n ss ≡ true)
    nested_both = and_parts (nests lib.flows n (out-Statement st)) (body_nests lib.flows n ss) b.nested

    named_both : (statement_named st ≡ true) × (all_true (map statement_named ss) ≡ true)
    named_both = and_parts (statement_named st) (all_true (map statement_named ss)) b.named

    pub head_of : (s : Here) → One n all taken seen s.first scope st
    head_of s =
        record {
          typed = s.typed;
          kept = s.kept;
          called = head_and_tail.0;
          nested = nested_both.0;
          new = head_new lib all taken seen st ss b.new;
          named = named_both.0;
          counted = b.counted.0;
          simple = b.simple;
          words = b.words;
          covers = λ k t c. b.covers k t (Contains-append_left (draft lib processes st).uses (body_uses (map (draft lib processes) ss)) k c);
        }

    given_words : (s : Here) → AreWords s.first.names
    given_words s k t e =
        let r = out_back (draft lib processes st).outs s.first.names s.outs k (t, e) in
        subst (λ (z : Key). is_name z.first ≡ true) r.2 (outs_are lib processes st named_both.0 r.0 r.1).named

    pub tail_of : (s : Here) → AreSimple s.first.names → Body n all (taken ++ declared st) (joined seen s.first) s.rest (scope ++ links_of (draft lib processes st)) ss
    tail_of s simple =
        record {
          typed = s.more;
          kept = s.kept_more;
          called = head_and_tail.1;
          nested = nested_both.1;
          new = tail_new lib all taken seen st ss s.first s.typed b.new;
          named = named_both.1;
          counted = b.counted.1;
          simple = simple_then seen.names s.first.names b.simple simple;
          words = words_then seen.names s.first.names b.words (given_words s);
          covers =
              covers_then scope seen.names s.first.names (draft lib processes st) (body_uses (map (draft lib processes) ss)) s.outs b.within
              (λ k t c. b.covers k t (Contains-append_right (draft lib processes st).uses (body_uses (map (draft lib processes) ss)) k c));
          within = within_then scope seen.names s.first.names (draft lib processes st) s.outs b.within;
        }

  -- ---- one layer

  -- the same of a layer
  pub record Layer (n : ℕ) (all taken : List (List ℕ)) (seen first : Seen) (scope : Scope) (z : Statement-F Statement) : Type 0 where
    pub typed : statement_step lib (map-Statement Statement Giving (gives lib) z) seen ≡ Some first
    pub kept : (walk_step lib declared_in (map-Statement Statement Walk (walk lib declared_in) z) seen.names).broken ≡ []
    pub called : called_step targets (map-Statement Statement (List Broken) called_of z) ≡ []
    pub nested : nests lib.flows n z ≡ true
    pub seen_taken : (key : Key) (t : Ty) → type_in seen.names key ≡ Some t → has_name key.first taken ≡ true
    pub taken_all : are_among all taken
    pub declared_all : are_among all (names_step (map-Statement Statement (List (List ℕ)) declared z))
    pub declared_new : fresh taken (names_step (map-Statement Statement (List (List ℕ)) declared z)) ≡ true
    pub items_new : items_step (map-Statement Statement Differing (fold-Statement Differing items_step) z) all ≡ true
    pub named : named_step (map-Statement Statement Bool statement_named z) ≡ true
    pub scatter : (k : ℕ) → has_number k (numbered_step (map-Statement Statement Numbered number_of z)).scatter ≡ true → k < 2 ^ 32
    pub condition : (k : ℕ) → has_number k (numbered_step (map-Statement Statement Numbered number_of z)).condition ≡ true → k < 2 ^ 32
    pub inside : (numbered_step (map-Statement Statement Numbered number_of z)).inside ≡ true
    pub few : count_step (map-Statement Statement ℕ count_of z) < 2 ^ 32
    pub simple : AreSimple seen.names
    pub words : AreWords seen.names
    pub used : (k : Key) → Contains (draft_step lib processes (map-Statement Statement Draft (draft lib processes) z)).uses k → HasType seen.names k
    pub covers : Covers scope seen.names (draft_step lib processes (map-Statement Statement Draft (draft lib processes) z)).uses

  pub opened : (n : ℕ) (all taken : List (List ℕ)) (seen first : Seen) (scope : Scope) (z : Statement-F Statement) → One n all taken seen first scope (roll-Statement z) → Layer n all taken seen first scope z
  opened n all taken seen first scope z o =
      let names = fold-roll-Statement (List (List ℕ)) names_step z in
      let alone = append-nil (declared (roll-Statement z)) ∙ names in
      let numbers = fold-roll-Statement Numbered numbered_step z in
      let drawn = fold-roll-Statement Draft (draft_step lib processes) z in
      record {
        typed = sym (ap (λ (g : Giving). g seen) (fold-roll-Statement Giving (statement_step lib) z)) ∙ o.typed;
        kept = sym (ap (λ (g : Walk). (g seen.names).broken) (fold-roll-Statement Walk (walk_step lib declared_in) z)) ∙ o.kept;
        called = sym (fold-roll-Statement (List Broken) (called_step targets) z) ∙ o.called;
        nested = ap (nests lib.flows n) (sym (out-roll-Statement z)) ∙ o.nested;
        seen_taken = o.new.seen_taken;
        taken_all = o.new.taken_all;
        declared_all = subst (are_among all) alone o.new.declared_all;
        declared_new = sym (ap (fresh taken) alone) ∙ o.new.declared_new;
        items_new =
            sym (ap (λ (d : Differing). d all) (fold-roll-Statement Differing items_step z))
            ∙ (and_parts (fold-Statement Differing items_step (roll-Statement z) all) true o.new.items_new).0;
        named = sym (fold-roll-Statement Bool named_step z) ∙ o.named;
        scatter = subst (λ (m : Numbered). (k : ℕ) → has_number k m.scatter ≡ true → k < 2 ^ 32) numbers o.counted.scatter;
        condition = subst (λ (m : Numbered). (k : ℕ) → has_number k m.condition ≡ true → k < 2 ^ 32) numbers o.counted.condition;
        inside = ap (λ (m : Numbered). m.inside) (sym numbers) ∙ o.counted.inside;
        few = subst (λ (m : ℕ). m < 2 ^ 32) (fold-roll-Statement ℕ count_step z) o.counted.few;
        simple = o.simple;
        words = o.words;
        used = λ k c. uses_typed lib processes declared_in (roll-Statement z) seen first o.typed o.kept k (subst (λ (d : Draft). Contains d.uses k) (sym drawn) c);
        covers = λ k t c. o.covers k t (subst (λ (d : Draft). Contains d.uses k) (sym drawn) c);
      }
