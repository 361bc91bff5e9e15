-- The statements of a body that is well typed and keeps the rules, one after the other.
use Rattle.std.proofs.Common.{◌≡◌, ℕ, List, [], ◌∷◌, ◌++◌, map, Some, option_and_then, ap, ◌∙◌, subst}
use Rattle.std.proofs.lemmas.Option.{same_Some}
use Rattle.wdl_typed.specs.declared.flow.Statement.{Statement}
use Rattle.wdl_typed.specs.declared.scope.Bound.{Bound}
use Rattle.wdl_typed.specs.Bodies.{Library, Seen, body_gives, gives, joined}
use Rattle.cwl_image.specs.Image.{Targets, body_links, draft, links_of}
use Rattle.cwl_image.specs.Subset.{walk, walk_body}
use Rattle.cwl_laws.specs.Parts.{LinksTyped, OutsTyped}
use Rattle.cwl_laws.proofs.Given.{given_same, links_append, outs_linked}
use Rattle.cwl_laws.proofs.Tools.{both_empty}
use Rattle.wdl_base.proofs.Options.{then_parts}

module _ (lib : Library) (processes : Targets) (declared : List (List ℕ)) where
  -- what the first statement and the others give out, and that they keep the rules
  pub record Split (st : Statement) (ss : List Statement) (seen g : Seen) : Type 0 where
    pub first : Seen
    pub rest : Seen
    pub typed : gives lib st seen ≡ Some first
    pub more : body_gives lib ss (joined seen first) ≡ Some rest
    pub both : joined first rest ≡ g
    pub kept : (walk lib declared st seen.names).broken ≡ []
    pub kept_more : (walk_body lib declared ss (seen.names ++ first.names)).broken ≡ []
    pub outs : OutsTyped (draft lib processes st).outs first.names
    pub walked : (walk lib declared st seen.names).given ≡ first.names

  pub split : (st : Statement) (ss : List Statement) (seen g : Seen) → body_gives lib (st ∷ ss) seen ≡ Some g → (walk_body lib declared (st ∷ ss) seen.names).broken ≡ [] → Split st ss seen g
  split st ss seen g h k =
      let p = then_parts (λ first. option_and_then (λ rest. Some (joined first rest)) (body_gives lib ss (joined seen first))) (gives lib st seen) g h in
      let q = then_parts (λ rest. Some (joined p.0 rest)) (body_gives lib ss (joined seen p.0)) g p.2 in
      let b = both_empty (walk lib declared st seen.names).broken (walk_body lib declared ss (seen.names ++ (walk lib declared st seen.names).given)).broken k in
      let s = given_same lib processes declared st seen p.0 p.1 b.0 in
      record {
        first = p.0;
        rest = q.0;
        typed = p.1;
        more = q.1;
        both = same_Some _ _ q.2;
        kept = b.0;
        kept_more = subst (λ (bs : List Bound). (walk_body lib declared ss (seen.names ++ bs)).broken ≡ []) s.1 b.1;
        outs = s.0;
        walked = s.1;
      }

  -- The links of a body have the types of the names that it gives out; so does the walk over the rules.
  pub body_linked : (ss : List Statement) (seen g : Seen) → body_gives lib ss seen ≡ Some g → (walk_body lib declared ss seen.names).broken ≡ []
      → LinksTyped (body_links (map (draft lib processes) ss)) g.names × ((walk_body lib declared ss seen.names).given ≡ g.names)
  body_linked [] seen g h k = let same = ap (λ (s : Seen). s.names) (same_Some _ _ h) in (subst (LinksTyped []) same tt, same)
  body_linked (st ∷ ss) seen g h k =
      let s = split st ss seen g h k in
      let r = body_linked ss (joined seen s.first) s.rest s.more s.kept_more in
      let names : s.first.names ++ s.rest.names ≡ g.names = ap (λ (z : Seen). z.names) s.both in (
        subst (LinksTyped (body_links (map (draft lib processes) (st ∷ ss)))) names
            (links_append (links_of (draft lib processes st)) (body_links (map (draft lib processes) ss)) s.first.names s.rest.names
            (outs_linked (draft lib processes st).id (draft lib processes st).outs s.first.names s.outs) r.0),
        ap (λ (bs : List Bound). bs ++ (walk_body lib declared ss (seen.names ++ bs)).given) s.walked ∙ ap (λ (bs : List Bound). s.first.names ++ bs) r.1 ∙ names,
      )
