-- What holds of the jobs and the waits of each statement holds of those of each flow: by an induction whose step is one layer, and
-- one on the depth of calls.
use Rattle.std.proofs.Common.{◌≡◌, ℕ, zero, suc, true, false, ◌&&◌, ◌==◌, ◌⊎◌, inl, inr, List, [], ◌∷◌, ◌++◌, map, length, Contains, Option, Some, None, slice_get, append-nil, sym, ap, ◌∙◌, subst, refl}
use Rattle.std.specs.List.{list_all}
use Rattle.std.specs.Str.{bytes_eq}
use Rattle.std.proofs.lemmas.Bool.{and_parts, or_left}
use Rattle.std.proofs.lemmas.Bool.Decides.{Decides-eqb}
use Rattle.std.proofs.lemmas.List.Elements.{Contains-append_cases}
use Rattle.std.proofs.lemmas.Slice.Eq.{bytes_eq-Decides}
use Rattle.wdl_base.specs.declared.place.Segment.{Segment}
use Rattle.wdl_base.specs.declared.request.Request.{Request}
use Rattle.wdl_value.specs.declared.env.Bind.{Bind}
use Rattle.wdl_typed.specs.declared.flow.FlowDef.{FlowDef}
use Rattle.wdl_typed.specs.declared.flow.Statement.{Statement, Statement-F, fold-Statement, fold-roll-Statement, ind-Statement, map-Statement, roll-Statement}
use Rattle.wdl_typed.specs.declared.flow.Statement.TheOpen as layer
use Rattle.wdl_typed.specs.Bodies.{Numbered, all_declared, append_all, append_numbers, body_numbered, declared, is_numbered, names_step, numbered_step, signature}
use Rattle.wdl_typed.specs.Declarations.{decl_names, input_names}
use Rattle.wdl_typed.specs.Flow.{Callee, Part, Run, beginning, body_names, body_run, flow, flow_at, flow_run, in_turn, inputs, nothing, outputs, run_of_part, seeing, signature_keys, statement_step, statements, together}
use Rattle.wdl_typed.specs.Lists.{are_below, are_counted, are_distinct, has_name, has_number, numbers_differ}
use Rattle.flow_laws.proofs.AtPlaces.{At, CalleeAt, Closed, after_none, call_at, declaration_at, if_at, inputs_at, next_at, outputs_at, scatter_at}
use Rattle.flow_laws.proofs.Checked.{IsFlow, IsKept, flow_at_kept, names_left, names_right}
use Rattle.flow_laws.proofs.Signs.{Signed, heads, heads_all, heads_step, numbers_right, signed_apart, signed_left, signed_right}
use Rattle.flow_laws.proofs.Elements.{none_within, only_one}

module _ (r : Run) (P : List Segment → List Segment → List Request → List (List Segment) → Type 0) (closed : Closed r P) where
  module _ (callee : Callee) (callees : CalleeAt r P closed callee) where
    abbrev part_of : Statement → Part
    part_of = fold-Statement Part (statement_step r callee)

    abbrev numbered : Statement → Numbered
    numbered = fold-Statement Numbered numbered_step

    abbrev scatters : List Numbered → List ℕ
    scatters ns = append_numbers (map (λ (n : Numbered). n.scatter) ns)

    abbrev conditions : List Numbered → List ℕ
    conditions ns = append_numbers (map (λ (n : Numbered). n.condition) ns)

    -- What begins the places of a statement has its names and its numbers; and what holds of parts holds of it.
    abbrev Fine : List (List ℕ) → Numbered → List Segment → Part → Type 0
    Fine ns n hs p = ((h : Segment) → Contains hs h → Signed ns n.scatter n.condition h) × (are_distinct ns ≡ true → n.inside ≡ true → At r P closed hs p.run)

    abbrev Holds : Statement → Type 0
    Holds s = Fine (declared s) (numbered s) (heads s) (part_of s)

    abbrev Known : Type 0
    Known = (s : Statement) × Holds s

    abbrev plain : Statement-F Known → Statement-F Statement
    plain = map-Statement Known Statement (λ (k : Known). k.0)

    abbrev firsts : List Known → List Statement
    firsts = map (λ (k : Known). k.0)

    all_signed : (ks : List Known) (h : Segment) → Contains (heads_all (firsts ks)) h → Signed (append_all (map declared (firsts ks))) (scatters (map numbered (firsts ks))) (conditions (map numbered (firsts ks))) h
    all_signed [] h c = absurd (none_within h c)
    all_signed (k ∷ ks) h c = by_case (Contains-append_cases (heads k.0) (heads_all (firsts ks)) h c) (all_signed ks h)
      where
        by_case : Contains (heads k.0) h ⊎ Contains (heads_all (firsts ks)) h
            → (Contains (heads_all (firsts ks)) h → Signed (append_all (map declared (firsts ks))) (scatters (map numbered (firsts ks))) (conditions (map numbered (firsts ks))) h)
            → Signed (append_all (map declared (firsts (k ∷ ks)))) (scatters (map numbered (firsts (k ∷ ks)))) (conditions (map numbered (firsts (k ∷ ks)))) h
        by_case (inl d) rest =
            signed_left (declared k.0) (append_all (map declared (firsts ks))) (numbered k.0).scatter (scatters (map numbered (firsts ks))) (numbered k.0).condition (conditions (map numbered (firsts ks))) h (k.1.0 h d)
        by_case (inr d) rest =
            signed_right (declared k.0) (append_all (map declared (firsts ks))) (numbered k.0).scatter (scatters (map numbered (firsts ks))) (numbered k.0).condition (conditions (map numbered (firsts ks))) h (rest d)

    turns_at : (ks : List Known) → are_distinct (append_all (map declared (firsts ks))) ≡ true → numbers_differ (scatters (map numbered (firsts ks))) ≡ true → numbers_differ (conditions (map numbered (firsts ks))) ≡ true
        → list_all (λ (n : Numbered). n.inside) (map numbered (firsts ks)) ≡ true → At r P closed (heads_all (firsts ks)) (in_turn (map run_of_part (map part_of (firsts ks))))
    turns_at [] a b c d s = closed.none s.place []
    turns_at (k ∷ ks) a b c d s =
        let ns = append_all (map declared (firsts ks)) in
        let js = scatters (map numbered (firsts ks)) in
        let is = conditions (map numbered (firsts ks)) in
        let p = and_parts (numbered k.0).inside (list_all (λ (n : Numbered). n.inside) (map numbered (firsts ks))) d in
        let first = (part_of k.0).run s in
        let later = in_turn (map run_of_part (map part_of (firsts ks))) (seeing s first) in
        next_at r P closed s.place (heads k.0) (heads_all (firsts ks)) first later
        (λ h i j. signed_apart (declared k.0) ns (numbered k.0).scatter js (numbered k.0).condition is a b c h (k.1.0 h i) (all_signed ks h j))
        (k.1.1 (names_left (declared k.0) ns a) p.0 s)
        (turns_at ks (names_right (declared k.0) ns a) (numbers_right (numbered k.0).scatter js b) (numbers_right (numbered k.0).condition is c) p.1 (seeing s first))

    body_at : (ks : List Known) → are_distinct (append_all (map declared (firsts ks))) ≡ true → body_numbered (map numbered (firsts ks)) ≡ true → At r P closed (heads_all (firsts ks)) (body_run (map part_of (firsts ks)))
    body_at ks a n s =
        let ns = map numbered (firsts ks) in
        let p = and_parts (are_counted (scatters ns) && are_counted (conditions ns)) (list_all (λ (x : Numbered). x.inside) ns) n in
        let q = and_parts (are_counted (scatters ns)) (are_counted (conditions ns)) p.0 in
        turns_at ks a (and_parts (are_below (length (scatters ns)) (scatters ns)) (numbers_differ (scatters ns)) q.0).1
        (and_parts (are_below (length (conditions ns)) (conditions ns)) (numbers_differ (conditions ns)) q.1).1 p.1 s

    name_itself : (name : List ℕ) → has_name name (name ∷ []) ≡ true
    name_itself name = or_left (bytes_eq name name) false ((bytes_eq-Decides name name).1 refl)

    number_itself : (k : ℕ) → has_number k (k ∷ []) ≡ true
    number_itself k = or_left (k == k) false ((Decides-eqb k k).1 refl)

    layer_fine : (y : Statement-F Known) → Fine (names_step (map-Statement Statement (List (List ℕ)) declared (plain y))) (numbered_step (map-Statement Statement Numbered numbered (plain y)))
        (heads_step (map-Statement Statement (List Segment) heads (plain y))) (statement_step r callee (map-Statement Statement Part part_of (plain y)))
    layer_fine (layer.Decl d) = (λ h c. absurd (none_within h c), λ a n s. declaration_at r P closed d.name d.value s s.place [])
    layer_fine (layer.Call c) = (
      λ h i. subst (Signed (c.name ∷ []) [] []) (only_one i) (name_itself c.name),
      λ a n s. call_at r P closed callee callees (record { keys = signature_keys c.name (signature r.library c.target); calls = c.name ∷ [] }) c s,
    )
    layer_fine (layer.Scatter b) = (
      λ h i. subst (Signed (append_all (map declared (firsts b.body))) (b.number ∷ []) []) (only_one i) (number_itself b.number),
      λ a n s. scatter_at r P closed callee callees (heads_all (firsts b.body)) (body_names (map part_of (firsts b.body))) (body_run (map part_of (firsts b.body))) (body_at b.body a n) b.number b.item b.over s,
    )
    layer_fine (layer.If b) = (
      λ h i. subst (Signed (append_all (map declared (firsts b.body))) [] (b.number ∷ [])) (only_one i) (number_itself b.number),
      λ a n s. if_at r P closed callee callees (heads_all (firsts b.body)) (body_names (map part_of (firsts b.body))) (body_run (map part_of (firsts b.body))) (body_at b.body a n) b.number b.cond s,
    )

    statement_fine : (s : Statement) → Holds s
    statement_fine = ind-Statement Holds (λ x y is. subst (λ (z : Statement-F Statement). Holds (roll-Statement z)) is
        (subst (λ (ns : List (List ℕ)). Fine ns (numbered (roll-Statement (plain y))) (heads (roll-Statement (plain y))) (part_of (roll-Statement (plain y)))) (sym (fold-roll-Statement (List (List ℕ)) names_step (plain y)))
        (subst (λ (n : Numbered). Fine (names_step (map-Statement Statement (List (List ℕ)) declared (plain y))) n (heads (roll-Statement (plain y))) (part_of (roll-Statement (plain y)))) (sym (fold-roll-Statement Numbered numbered_step (plain y)))
        (subst (λ (hs : List Segment). Fine (names_step (map-Statement Statement (List (List ℕ)) declared (plain y))) (numbered_step (map-Statement Statement Numbered numbered (plain y))) hs (part_of (roll-Statement (plain y))))
        (sym (fold-roll-Statement (List Segment) heads_step (plain y)))
        (subst (λ (p : Part). Fine (names_step (map-Statement Statement (List (List ℕ)) declared (plain y))) (numbered_step (map-Statement Statement Numbered numbered (plain y))) (heads_step (map-Statement Statement (List Segment) heads (plain y))) p)
        (sym (fold-roll-Statement Part (statement_step r callee) (plain y))) (layer_fine y))))))

    abbrev known : List Statement → List Known
    known = map (λ (s : Statement). (s, statement_fine s))

    firsts_known : (ss : List Statement) → firsts (known ss) ≡ ss
    firsts_known [] = refl
    firsts_known (s ∷ ss) = ap (λ (rest : List Statement). s ∷ rest) (firsts_known ss)

    statements_at : (ss : List Statement) → are_distinct (all_declared ss) ≡ true → is_numbered ss ≡ true → At r P closed (heads_all ss) (statements r callee ss)
    statements_at ss a n =
        subst (λ (xs : List Statement). At r P closed (heads_all xs) (body_run (map part_of xs))) (firsts_known ss)
        (body_at (known ss) (ap (λ (xs : List Statement). are_distinct (all_declared xs)) (firsts_known ss) ∙ a) (ap is_numbered (firsts_known ss) ∙ n))

    -- ---- workflows

    run_at : (w : FlowDef) → IsFlow w → (given : List Bind) → At r P closed (heads_all w.body) (flow_run r callee w given)
    run_at w h given s =
        let first = inputs given w.inputs s in
        let seen = seeing s first in
        let body = statements r callee w.body seen in
        let last = outputs w.outputs (seeing seen body) in
        let rest = together body (together last nothing) in
        let names = names_right (input_names w.inputs) (all_declared w.body) (names_left (input_names w.inputs ++ all_declared w.body) (decl_names w.outputs) h.distinct) in
        after_none r P closed s.place (heads_all w.body) first rest (inputs_at r P closed given w.inputs s)
        (subst (λ (hs : List Segment). P s.place hs rest.jobs rest.waits) (append-nil (heads_all w.body))
        (next_at r P closed s.place (heads_all w.body) [] body (together last nothing) (λ g i j. none_within g j) (statements_at w.body names h.numbered seen)
        (after_none r P closed s.place [] last nothing (outputs_at r P closed w.outputs (seeing seen body)) (closed.none s.place []))))

    found_at : (o : Option FlowDef) → ((w : FlowDef) → o ≡ Some w → IsFlow w) → (given : List Bind) (place : List Segment)
        → (hs : List Segment) × P place hs (flow_at r callee o given place).jobs (flow_at r callee o given place).waits
    found_at None h given place = ([], closed.none place [])
    found_at (Some w) h given place = (heads_all w.body, run_at w (h w refl) given (beginning place))

  pub flow_placed : IsKept r.library → (depth : ℕ) → CalleeAt r P closed (flow r depth)
  flow_placed kept zero k given place = ([], closed.none place [])
  flow_placed kept (suc depth) k given place = found_at (flow r depth) (flow_placed kept depth) (slice_get r.library.flows k) (flow_at_kept r.library kept k) given place
