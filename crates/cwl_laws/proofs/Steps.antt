-- The ids of the steps of a body differ.
use Rattle.std.proofs.Common.{◌≡◌, ℕ, ◌<◌, ◌≤◌, ◌+◌, ◌^◌, nat_lt, ◌==◌, ◌⊎◌, inl, inr, Bool, true, false, ◌&&◌, ◌||◌, List, [], ◌∷◌, ◌++◌, map, length, length-append, Some, Contains, arith, sym, ap, ◌∙◌, subst, refl}
use Rattle.std.specs.List.{list_all}
use Rattle.std.specs.Str.{bytes_eq}
use Rattle.std.proofs.lemmas.Bool.{false≢true, and_parts, ltb-true, or_cases, or_left}
use Rattle.std.proofs.lemmas.Bool.Decides.{Decides-eqb}
use Rattle.std.proofs.lemmas.Slice.Eq.{bytes_eq-Decides}
use Rattle.wdl_base.specs.Names.{is_name}
use Rattle.wdl_typed.specs.declared.flow.Statement.{Statement, Statement-F, fold-Statement, fold_out-Statement, map-Statement, out-Statement}
use Rattle.wdl_typed.specs.declared.flow.Statement.TheOpen as layer
use Rattle.wdl_typed.specs.declared.scope.Bound.{Bound}
use Rattle.wdl_typed.specs.Bodies.{Library, Numbered, Seen, all_declared, append_all, append_numbers, arg_names, body_gives, declared, is_numbered, joined, names_step, numbered_step}
use Rattle.wdl_typed.specs.Kept.{count_step, count_statements, sum_of}
use Rattle.wdl_typed.specs.Lists.{are_below, are_counted, are_distinct, has_number, numbers_differ}
use Rattle.flow_soundness.proofs.NewNames.{name_one}
use Rattle.flow_laws.proofs.Checked.{names_right}
use Rattle.flow_laws.proofs.Signs.{Signed, numbers_right, signed_apart, signed_left, signed_right}
use Rattle.cwl_model.specs.declared.process.CwlStep.{CwlStep}
use Rattle.cwl_model.specs.declared.process.Link.{Link}
use Rattle.cwl_model.specs.declared.process.Link.TheVariants as link
use Rattle.cwl_model.specs.Ids.{segment_of}
use Rattle.cwl_model.specs.Laws.{Apart, is_of, owned}
use Rattle.cwl_model.specs.Means.{Ground, Running}
use Rattle.cwl_model.proofs.Rounds.{first_is, first_or_later, later_is, none_is}
use Rattle.cwl_image.specs.Expressions.{are_allowed, is_simple}
use Rattle.cwl_image.specs.Image.{Draft, Scope, Targets, body_steps, draft, draft_step, links_of, step_of}
use Rattle.cwl_image.specs.Named.{all_true, are_names, named_step, statement_named}
use Rattle.cwl_image.specs.Subset.{Walk, unless, walk, walk_body, walk_step}
use Rattle.cwl_laws.specs.Laws.{all_running, as_running}
use Rattle.cwl_laws.proofs.Ids.{blocks_read, name_reads}
use Rattle.cwl_laws.proofs.Splits.{split}
use Rattle.cwl_laws.proofs.Tools.{both_empty, rule_holds}

-- ---- numbers of blocks

abbrev pub number_of : Statement → Numbered
number_of = fold-Statement Numbered numbered_step

abbrev pub count_of : Statement → ℕ
count_of = fold-Statement ℕ count_step

abbrev pub scatters : List Statement → List ℕ
scatters ss = append_numbers (map (λ (n : Numbered). n.scatter) (map number_of ss))

abbrev pub conditions : List Statement → List ℕ
conditions ss = append_numbers (map (λ (n : Numbered). n.condition) (map number_of ss))

abbrev AreSmall : List ℕ → Type 0
AreSmall ns = (k : ℕ) → has_number k ns ≡ true → k < 2 ^ 32

-- the numbers of the blocks of a statement, and of those in it, are those of a word
pub record IsCounted (st : Statement) : Type 0 where
  pub scatter : AreSmall (number_of st).scatter
  pub condition : AreSmall (number_of st).condition
  pub inside : (number_of st).inside ≡ true
  pub few : count_of st < 2 ^ 32

abbrev pub AreCounted : List Statement → Type 0
AreCounted [] = Unit {0}
AreCounted (st ∷ ss) = IsCounted st × AreCounted ss

pub number_itself : (k : ℕ) → has_number k (k ∷ []) ≡ true
number_itself k = or_left (k == k) false ((Decides-eqb k k).1 refl)

number_left : (k : ℕ) (ns ms : List ℕ) → has_number k ns ≡ true → has_number k (ns ++ ms) ≡ true
number_left k [] ms h = absurd (false≢true h)
number_left k (n ∷ ns) ms h = by_test (n == k) h (number_left k ns ms)
  where
    by_test : (b : Bool) → (b || has_number k ns) ≡ true → (has_number k ns ≡ true → has_number k (ns ++ ms) ≡ true) → (b || has_number k (ns ++ ms)) ≡ true
    by_test true h rest = refl
    by_test false h rest = rest h

number_right : (k : ℕ) (ns ms : List ℕ) → has_number k ms ≡ true → has_number k (ns ++ ms) ≡ true
number_right k [] ms h = h
number_right k (n ∷ ns) ms h = by_test (n == k) (number_right k ns ms h)
  where
    by_test : (b : Bool) → has_number k (ns ++ ms) ≡ true → (b || has_number k (ns ++ ms)) ≡ true
    by_test true h = refl
    by_test false h = h

below_most : (most : ℕ) (ns : List ℕ) → are_below most ns ≡ true → (k : ℕ) → has_number k ns ≡ true → k < most
below_most most [] h k e = absurd (false≢true e)
below_most most (n ∷ ns) h k e =
    let p = and_parts (nat_lt n most) (are_below most ns) h in
    by_case (ltb-true n most p.0) (λ q. below_most most ns p.1 k q) (or_cases (n == k) (has_number k ns) e)
  where
    by_case : n < most → (has_number k ns ≡ true → k < most) → (n == k ≡ true) ⊎ (has_number k ns ≡ true) → k < most
    by_case here rest (inl q) = subst (λ m. m < most) ((Decides-eqb n k).0 q) here
    by_case here rest (inr q) = rest q

below_both : (k n m b : ℕ) → k < n → n ≤ m → m < b → k < b
below_both k n m b h i j = omega arith

-- a statement has a number at most, and counts once at least
one_number : (st : Statement) → (length (number_of st).scatter ≤ count_of st) × (length (number_of st).condition ≤ count_of st)
one_number st =
    subst (λ (n : Numbered). (length n.scatter ≤ count_of st) × (length n.condition ≤ count_of st)) (sym (fold_out-Statement Numbered numbered_step st))
    (subst (λ (m : ℕ). (length (numbered_step (map-Statement Statement Numbered number_of (out-Statement st))).scatter ≤ m) × (length (numbered_step (map-Statement Statement Numbered number_of (out-Statement st))).condition ≤ m))
    (sym (fold_out-Statement ℕ count_step st)) (by_layer (out-Statement st)))
  where
    by_layer : (y : Statement-F Statement) → (length (numbered_step (map-Statement Statement Numbered number_of y)).scatter ≤ count_step (map-Statement Statement ℕ count_of y))
        × (length (numbered_step (map-Statement Statement Numbered number_of y)).condition ≤ count_step (map-Statement Statement ℕ count_of y))
    by_layer (layer.Decl d) = (omega arith, omega arith)
    by_layer (layer.Call c) = (omega arith, omega arith)
    by_layer (layer.Scatter s) = (omega arith, omega arith)
    by_layer (layer.If i) = (omega arith, omega arith)

few_numbers : (ss : List Statement) → (length (scatters ss) ≤ sum_of (map count_of ss)) × (length (conditions ss) ≤ sum_of (map count_of ss))
few_numbers [] = (omega arith, omega arith)
few_numbers (st ∷ ss) =
    let a = one_number st in
    let b = few_numbers ss in (
      sums (length (number_of st).scatter) (length (scatters ss)) (length ((number_of st).scatter ++ scatters ss)) (count_of st) (sum_of (map count_of ss)) (length-append (number_of st).scatter (scatters ss)) a.0 b.0,
      sums (length (number_of st).condition) (length (conditions ss)) (length ((number_of st).condition ++ conditions ss)) (count_of st) (sum_of (map count_of ss)) (length-append (number_of st).condition (conditions ss)) a.1 b.1,
    )
  where
    sums : (a b c m n : ℕ) → c ≡ a + b → a ≤ m → b ≤ n → c ≤ m + n
    sums a b c m n e h i = omega arith

counted_by : (ss : List Statement) → AreSmall (scatters ss) → AreSmall (conditions ss) → list_all (λ (n : Numbered). n.inside) (map number_of ss) ≡ true → sum_of (map count_of ss) < 2 ^ 32 → AreCounted ss
counted_by [] a b c d = tt
counted_by (st ∷ ss) a b c d =
    let p = and_parts (number_of st).inside (list_all (λ (n : Numbered). n.inside) (map number_of ss)) c in (
      record {
        scatter = λ k h. a k (number_left k (number_of st).scatter (scatters ss) h);
        condition = λ k h. b k (number_left k (number_of st).condition (conditions ss) h);
        inside = p.0;
        few = first (count_of st) (sum_of (map count_of ss)) d;
      },
      counted_by ss (λ k h. a k (number_right k (number_of st).scatter (scatters ss) h)) (λ k h. b k (number_right k (number_of st).condition (conditions ss) h)) p.1 (rest (count_of st) (sum_of (map count_of ss)) d),
    )
  where
    first : (m n : ℕ) → m + n < 2 ^ 32 → m < 2 ^ 32
    first m n h = omega arith

    rest : (m n : ℕ) → m + n < 2 ^ 32 → n < 2 ^ 32
    rest m n h = omega arith

-- A body whose blocks are numbered, of no more statements than a word counts.
pub record AreNumbered (ss : List Statement) : Type 0 where
  pub counted : AreCounted ss
  pub scatter : numbers_differ (scatters ss) ≡ true
  pub condition : numbers_differ (conditions ss) ≡ true

pub are_numbered : (ss : List Statement) → is_numbered ss ≡ true → count_statements ss < 2 ^ 32 → AreNumbered ss
are_numbered ss h few =
    let a = and_parts (are_counted (scatters ss) && are_counted (conditions ss)) (list_all (λ (n : Numbered). n.inside) (map number_of ss)) h in
    let b = and_parts (are_counted (scatters ss)) (are_counted (conditions ss)) a.0 in
    let c = and_parts (are_below (length (scatters ss)) (scatters ss)) (numbers_differ (scatters ss)) b.0 in
    let d = and_parts (are_below (length (conditions ss)) (conditions ss)) (numbers_differ (conditions ss)) b.1 in
    let m = few_numbers ss in
    record {
      counted =
          counted_by ss
          (λ k e. below_both k (length (scatters ss)) (sum_of (map count_of ss)) (2 ^ 32) (below_most (length (scatters ss)) (scatters ss) c.0 k e) m.0 few)
          (λ k e. below_both k (length (conditions ss)) (sum_of (map count_of ss)) (2 ^ 32) (below_most (length (conditions ss)) (conditions ss) d.0 k e) m.1 few) a.1 few;
      scatter = c.1;
      condition = d.1;
    }

-- ---- what the ids read as

module _ (lib : Library) (processes : Targets) (declared_in : List (List ℕ)) where
  layer_signed : (y : Statement-F Statement) (names : List Bound) → named_step (map-Statement Statement Bool statement_named y) ≡ true
      → (walk_step lib declared_in (map-Statement Statement Walk (walk lib declared_in) y) names).broken ≡ []
      → AreSmall (numbered_step (map-Statement Statement Numbered number_of y)).scatter → AreSmall (numbered_step (map-Statement Statement Numbered number_of y)).condition
      → Signed (names_step (map-Statement Statement (List (List ℕ)) declared y)) (numbered_step (map-Statement Statement Numbered number_of y)).scatter (numbered_step (map-Statement Statement Numbered number_of y)).condition
      (segment_of (draft_step lib processes (map-Statement Statement Draft (draft lib processes) y)).id)
  layer_signed (layer.Decl d) names n w a b =
      let c = both_empty (unless (is_simple d.ty) 605 d.span ++ unless (are_allowed lib.structs names d.value false) 606 d.span) (unless false 602 d.span) w in
      absurd (false≢true (rule_holds false 602 d.span c.1))
  layer_signed (layer.Call c) names n w a b =
      subst (Signed (c.name ∷ []) [] []) (sym (name_reads c.name (and_parts (is_name c.name) (are_names (arg_names c.args)) n).0)) (name_one c.name)
  layer_signed (layer.Scatter s) names n w a b =
      subst (Signed (append_all (map declared s.body)) (s.number ∷ []) []) (sym (blocks_read s.number (a s.number (number_itself s.number))).0) (number_itself s.number)
  layer_signed (layer.If i) names n w a b =
      subst (Signed (append_all (map declared i.body)) [] (i.number ∷ [])) (sym (blocks_read i.number (b i.number (number_itself i.number))).1) (number_itself i.number)

  abbrev IdSigned : List ℕ → List (List ℕ) → List ℕ → List ℕ → Type 0
  IdSigned id ns ks ms = Signed ns ks ms (segment_of id)

  -- The id of a step is that of its statement's name or number.
  id_signed : (st : Statement) (names : List Bound) → statement_named st ≡ true → (walk lib declared_in st names).broken ≡ [] → IsCounted st
      → IdSigned (draft lib processes st).id (declared st) (number_of st).scatter (number_of st).condition
  id_signed st names n w c =
      subst (λ (d : Draft). IdSigned d.id (declared st) (number_of st).scatter (number_of st).condition) (sym (fold_out-Statement Draft (draft_step lib processes) st))
      (subst (λ (ns : List (List ℕ)). IdSigned (draft_step lib processes (map-Statement Statement Draft (draft lib processes) (out-Statement st))).id ns (number_of st).scatter (number_of st).condition)
      (sym (fold_out-Statement (List (List ℕ)) names_step st))
      (subst (λ (m : Numbered). IdSigned (draft_step lib processes (map-Statement Statement Draft (draft lib processes) (out-Statement st))).id (names_step (map-Statement Statement (List (List ℕ)) declared (out-Statement st))) m.scatter m.condition)
      (sym numbers)
      (layer_signed (out-Statement st) names (sym (fold_out-Statement Bool named_step st) ∙ n)
      (sym (ap (λ (g : Walk). (g names).broken) (fold_out-Statement Walk (walk_step lib declared_in) st)) ∙ w)
      (subst (λ (m : Numbered). AreSmall m.scatter) numbers c.scatter) (subst (λ (m : Numbered). AreSmall m.condition) numbers c.condition))))
    where
      numbers : number_of st ≡ numbered_step (map-Statement Statement Numbered number_of (out-Statement st))
      numbers = fold_out-Statement Numbered numbered_step st

  all_signed : (ss : List Statement) (seen g : Seen) → all_true (map statement_named ss) ≡ true → body_gives lib ss seen ≡ Some g → (walk_body lib declared_in ss seen.names).broken ≡ [] → AreCounted ss
      → (d : Draft) → Contains (map (draft lib processes) ss) d → IdSigned d.id (all_declared ss) (scatters ss) (conditions ss)
  all_signed [] seen g n h w c d i = absurd (none_is d i)
  all_signed (st ∷ ss) seen g n h w c d i =
      let s = split lib processes declared_in st ss seen g h w in
      let p = and_parts (statement_named st) (all_true (map statement_named ss)) n in
      by_case (id_signed st seen.names p.0 s.kept c.0) (λ j. all_signed ss (joined seen s.first) s.rest p.1 s.more s.kept_more c.1 d j) (first_or_later (draft lib processes st) (map (draft lib processes) ss) d i)
    where
      by_case : IdSigned (draft lib processes st).id (declared st) (number_of st).scatter (number_of st).condition → (Contains (map (draft lib processes) ss) d → IdSigned d.id (all_declared ss) (scatters ss) (conditions ss))
          → (draft lib processes st ≡ d) ⊎ Contains (map (draft lib processes) ss) d → IdSigned d.id (all_declared (st ∷ ss)) (scatters (st ∷ ss)) (conditions (st ∷ ss))
      by_case here rest (inl e) =
          subst (λ (z : Draft). IdSigned z.id (all_declared (st ∷ ss)) (scatters (st ∷ ss)) (conditions (st ∷ ss))) e
          (signed_left (declared st) (all_declared ss) (number_of st).scatter (scatters ss) (number_of st).condition (conditions ss) (segment_of (draft lib processes st).id) here)
      by_case here rest (inr j) =
          signed_right (declared st) (all_declared ss) (number_of st).scatter (scatters ss) (number_of st).condition (conditions ss) (segment_of d.id) (rest j)

  -- ---- steps

  owned_has : (g : Ground) (ds : List Draft) (scope : Scope) (step o : List ℕ) → owned is_of (all_running g (body_steps ds scope)) (link.Out step o) ≡ true → (d : Draft) × Contains ds d × (d.id ≡ step)
  owned_has g [] scope step o h = absurd (false≢true h)
  owned_has g (d ∷ ds) scope step o h =
      by_case (λ q. owned_has g ds (scope ++ links_of d) step o q) (or_cases (bytes_eq d.id step) (owned is_of (all_running g (body_steps ds (scope ++ links_of d))) (link.Out step o)) h)
    where
      by_case : (owned is_of (all_running g (body_steps ds (scope ++ links_of d))) (link.Out step o) ≡ true → (e : Draft) × Contains ds e × (e.id ≡ step))
          → (bytes_eq d.id step ≡ true) ⊎ (owned is_of (all_running g (body_steps ds (scope ++ links_of d))) (link.Out step o) ≡ true) → (e : Draft) × Contains (d ∷ ds) e × (e.id ≡ step)
      by_case rest (inl q) = (d, first_is d ds, (bytes_eq-Decides d.id step).0 q)
      by_case rest (inr q) = let r = rest q in (r.0, later_is d ds r.0 r.1, r.2)

  -- No two steps of a body have one id.
  pub steps_apart : (g : Ground) (ss : List Statement) (scope : Scope) (seen given : Seen) → all_true (map statement_named ss) ≡ true → body_gives lib ss seen ≡ Some given
      → (walk_body lib declared_in ss seen.names).broken ≡ [] → are_distinct (all_declared ss) ≡ true → AreNumbered ss → Apart is_of (all_running g (body_steps (map (draft lib processes) ss) scope))
  steps_apart g ss scope seen given n h w a b = by_list ss scope seen given n h w a b.counted b.scatter b.condition
    where
      by_list : (ss : List Statement) (scope : Scope) (seen given : Seen) → all_true (map statement_named ss) ≡ true → body_gives lib ss seen ≡ Some given → (walk_body lib declared_in ss seen.names).broken ≡ []
          → are_distinct (all_declared ss) ≡ true → AreCounted ss → numbers_differ (scatters ss) ≡ true → numbers_differ (conditions ss) ≡ true
          → Apart is_of (all_running g (body_steps (map (draft lib processes) ss) scope))
      by_list [] scope seen given n h w a c i j = tt
      by_list (st ∷ ss) scope seen given n h w a c i j =
          let s = split lib processes declared_in st ss seen given h w in
          let p = and_parts (statement_named st) (all_true (map statement_named ss)) n in (
            apart s.kept s.first s.rest s.more s.kept_more p.0 p.1,
            by_list ss (scope ++ links_of (draft lib processes st)) (joined seen s.first) s.rest p.1 s.more s.kept_more (names_right (declared st) (all_declared ss) a) c.1
                (numbers_right (number_of st).scatter (scatters ss) i) (numbers_right (number_of st).condition (conditions ss) j),
          )
        where
          step : CwlStep Running
          step = as_running g (step_of (draft lib processes st) scope)

          later : List (CwlStep Running)
          later = all_running g (body_steps (map (draft lib processes) ss) (scope ++ links_of (draft lib processes st)))

          apart : (walk lib declared_in st seen.names).broken ≡ [] → (first rest : Seen) → body_gives lib ss (joined seen first) ≡ Some rest → (walk_body lib declared_in ss (seen.names ++ first.names)).broken ≡ []
              → statement_named st ≡ true → all_true (map statement_named ss) ≡ true → (l : Link) → is_of step l ≡ true → owned is_of later l ≡ false
          apart k first rest more kept_more m o (link.Input q) e = absurd (false≢true e)
          apart k first rest more kept_more m o (link.Out q r) e = by_test (owned is_of later (link.Out q r)) refl
            where
              by_test : (t : Bool) → owned is_of later (link.Out q r) ≡ t → t ≡ false
              by_test false u = refl
              by_test true u =
                  let x = owned_has g (map (draft lib processes) ss) (scope ++ links_of (draft lib processes st)) q r u in
                  let same : x.0.id ≡ (draft lib processes st).id = x.2 ∙ sym ((bytes_eq-Decides (draft lib processes st).id q).0 e) in
                  absurd
                  (signed_apart (declared st) (all_declared ss) (number_of st).scatter (scatters ss) (number_of st).condition (conditions ss) a i j (segment_of (draft lib processes st).id)
                  (id_signed st seen.names m k c.0)
                  (subst (λ (id : List ℕ). IdSigned id (all_declared ss) (scatters ss) (conditions ss)) same (all_signed ss (joined seen first) rest o more kept_more c.1 x.0 x.1)))
