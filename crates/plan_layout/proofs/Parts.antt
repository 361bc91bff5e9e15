-- What each call makes of what the calls in it have done.
use Rattle.std.proofs.Common.{◌≡◌, ℕ, ◌+◌, ◌<◌, ◌≤◌, List, [], ◌∷◌, ◌++◌, length, take, get_or, append_assoc, Some, sym, ap, ◌∙◌, subst, refl}
use Rattle.std.specs.List.{slice_get}
use Rattle.std.proofs.lemmas.List.{take_all, take_more}
use Rattle.std.proofs.lemmas.Option.{slice_get_read}
use Rattle.wdl_base.specs.declared.name.Key.{Key}
use Rattle.wdl_typed.specs.declared.expr.TExpr.{TExpr}
use Rattle.wdl_typed.specs.declared.flow.Statement.{Statement, Statement-F, out-Statement}
use Rattle.wdl_typed.specs.declared.flow.Statement.TheOpen as layer
use Rattle.wdl_typed.specs.declared.flow.Statement.TheVariants as stmt
use Rattle.wdl_typed.specs.declared.flow.TCall.{TCall}
use Rattle.wdl_typed.specs.declared.flow.TIf.{TIf}
use Rattle.wdl_typed.specs.declared.flow.TScatter.{TScatter}
use Rattle.wdl_typed.specs.declared.task.TDecl.{TDecl}
use Rattle.wdl_typed.specs.Bodies.{Library}
use Rattle.wdl_typed.specs.Flow.{Names}
use Rattle.wdl_typed.specs.Scope.{names_of}
use Rattle.net_laws.specs.Growing.{body_given}
use Rattle.net_laws.specs.Planned.{call_names}
use Rattle.net_laws.specs.Rules.{arg_keys}
use Rattle.plan_layout.specs.declared.layout.BodyLayout.{BodyLayout}
use Rattle.plan_layout.specs.declared.layout.Need.{Need}
use Rattle.plan_layout.specs.declared.layout.StatementLayout.{StatementLayout}
use Rattle.plan_layout.specs.declared.scope.Next.{Next}
use Rattle.plan_layout.specs.declared.scope.Origin.{Origin}
use Rattle.plan_layout.specs.declared.scope.Runs.{Runs}
use Rattle.plan_layout.specs.declared.scope.CellScope.{CellScope}
use Rattle.plan_layout.specs.Laid.{HasNeeds, HasSlots, Laid, Stand, all, anything, beginning, behind_all, behind_names, behind_one, blocks_at, given_at, item_spot, laid_call, laid_decl, laid_if, laid_none, laid_scatter, laid_whole, one, one_name}
use Rattle.plan_layout.specs.Paths.{block_body, body_at, inner_of}
use Rattle.plan_layout.specs.Spots.{needs_of, plain_keys}
use Rattle.plan_layout.specs.Steps.{Grows, LaysBody, LaysOne, Settles, lib_of, root_of, scope_behind, stand_of}
use Rattle.plan_layout.proofs.Laying.{behind_more, body_below, calls_kept, front_of, grows_not, grows_on, laid_on, laid_snoc, names_kept, path_kept, there_last}

-- ---- scopes

pub scope_is : (s t : CellScope) → s.names ≡ t.names → s.calls ≡ t.calls → s.path ≡ t.path → s ≡ t
scope_is s t a b c =
    let of : List Need → List Need → List ℕ → CellScope = λ x y z. record { names = x; calls = y; path = z } in
    ap (λ x. of x s.calls s.path) a ∙ ap (λ y. of t.names y s.path) b ∙ ap (λ z. of t.names t.calls z) c

-- the body of a block stands below its statement
pub below_scatter : (root : List Statement) (path : List ℕ) (index : ℕ) (x : TScatter Statement) → slice_get (body_at root path) index ≡ Some (stmt.Scatter x) → body_at root (path ++ index ∷ []) ≡ x.body
below_scatter root path index x h = body_below root path index ∙ ap inner_of h ∙ ap block_body (stmt.outs-Scatter x)

pub below_if : (root : List Statement) (path : List ℕ) (index : ℕ) (x : TIf Statement) → slice_get (body_at root path) index ≡ Some (stmt.If x) → body_at root (path ++ index ∷ []) ≡ x.body
below_if root path index x h = body_below root path index ∙ ap inner_of h ∙ ap block_body (stmt.outs-If x)

-- ---- statements

behind_is : (lib : Library) (st : Statement) (y : Statement-F Statement) (a : Stand) → out-Statement st ≡ y → behind_one lib st a ≡ behind_names (given_at lib y) (blocks_at y) a
behind_is lib st y a e = ap (λ (z : Statement-F Statement). behind_names (given_at lib z) (blocks_at z) a) e

slots_as : (n m : Names) (a : Stand) (done : ℕ) (l : StatementLayout) → n ≡ m → HasSlots n a done l → HasSlots m a done l
slots_as n m a done l e h = subst (λ (x : Names). HasSlots x a done l) e h

module _ (o : Origin) (index : ℕ) (s t : CellScope) (n m : Next) (l : StatementLayout) (needs after : List Need) (given : Names) where
  abbrev here : Stand
  here = stand_of s n index

  needs_as : (inner done blocks : ℕ) (keys : List Key) (calls : List (List ℕ)) → Settles needs after inner done blocks given s n t m l → needs ≡ needs_of s.names keys → after ≡ needs_of s.calls (plain_keys calls)
      → HasNeeds here keys calls l
  needs_as inner done blocks keys calls p h k = record { needs = p.needs_are ∙ h; after = p.after_are ∙ k }

  pub lays_decl : (x : TDecl) (bodies : List BodyLayout) → Settles needs after 0 n.name 0 given s n t m l → given ≡ one_name x.name → needs ≡ needs_of s.names (names_of x.value) → after ≡ []
      → LaysOne o (stmt.Decl x) index s n bodies t m bodies l
  lays_decl x bodies p g h k =
      record {
        laid = λ at. laid_decl x here l (slots_as given (one_name x.name) here n.name l g (p.slots index)) (needs_as 0 n.name 0 (names_of x.value) [] p h k);
        behind = p.behind index ∙ ap (λ (z : Names). behind_names z 0 here) g ∙ sym (behind_is (lib_of o) (stmt.Decl x) (layer.Decl x) here (stmt.outs-Decl x));
        grows = grows_not bodies;
      }

  pub lays_call : (x : TCall) (bodies : List BodyLayout) → Settles needs after 0 n.call 0 given s n t m l → given ≡ call_names (lib_of o) x → needs ≡ needs_of s.names (arg_keys x.args)
      → after ≡ needs_of s.calls (plain_keys x.after) → LaysOne o (stmt.Call x) index s n bodies t m bodies l
  lays_call x bodies p g h k =
      record {
        laid = λ at. laid_call x here l (slots_as given (call_names (lib_of o) x) here n.call l g (p.slots index)) (needs_as 0 n.call 0 (arg_keys x.args) x.after p h k);
        behind = p.behind index ∙ ap (λ (z : Names). behind_names z 0 here) g ∙ sym (behind_is (lib_of o) (stmt.Call x) (layer.Call x) here (stmt.outs-Call x));
        grows = grows_not bodies;
      }

module _ (o : Origin) (index : ℕ) (s t : CellScope) (n m : Next) (l : StatementLayout) (old new : List BodyLayout) (inner : ℕ) where
  abbrev Block : List Statement → TExpr → Type 0
  Block body head = Settles (needs_of s.names (names_of head)) [] inner n.done 1 (body_given (lib_of o) body) s n t m l

  pub lays_scatter : (x : TScatter Statement) → Block x.body x.over → LaysBody o x.body (s.names ++ item_spot (s.path ++ index ∷ []) x.item ∷ []) s.calls (s.path ++ index ∷ []) 1 0 old new inner
      → LaysOne o (stmt.Scatter x) index s n old t m new l
  lays_scatter x p b =
      let stand : Stand = stand_of s n index in
      record {
        laid = λ at.
            laid_scatter x stand l b.body (p.slots index) (record { needs = p.needs_are; after = p.after_are }) (ap (slice_get new) p.inner_is ∙ b.there)
            (b.laid (below_scatter (root_of o) s.path index x at));
        behind = p.behind index ∙ sym (behind_is (lib_of o) (stmt.Scatter x) (layer.Scatter x) stand (stmt.outs-Scatter x));
        grows = b.grows;
      }

  pub lays_if : (x : TIf Statement) → Block x.body x.cond → LaysBody o x.body s.names s.calls (s.path ++ index ∷ []) 0 0 old new inner → LaysOne o (stmt.If x) index s n old t m new l
  lays_if x p b =
      let stand : Stand = stand_of s n index in
      record {
        laid = λ at.
            laid_if x stand l b.body (p.slots index) (record { needs = p.needs_are; after = p.after_are }) (ap (slice_get new) p.inner_is ∙ b.there) (b.laid (below_if (root_of o) s.path index x at));
        behind = p.behind index ∙ sym (behind_is (lib_of o) (stmt.If x) (layer.If x) stand (stmt.outs-If x));
        grows = b.grows;
      }

-- ---- bodies

abbrev first_of : Runs → Next
first_of r = record { name = r.first_name; call = r.first_call; done = r.first_call + r.calls }

module _ (o : Origin) (ss : List Statement) (s : CellScope) (before after : ℕ) where
  abbrev inside : CellScope
  inside = scope_behind o ss s before after

  abbrev start : Stand
  start = beginning s.names s.calls s.path (body_given (lib_of o) ss) before after

  -- Behind a body, the names and calls that stood before it are the first ones.
  pub names_first : (names more : List Need) → s.names ≡ names ++ more → take (length names) inside.names ≡ names
  names_first names rest e =
      let p = names_kept (lib_of o) ss start in
      ap (take (length names)) (p.1 ∙ ap (λ (xs : List Need). xs ++ p.0) e ∙ appended) ∙ front_of names (rest ++ p.0)
    where
      appended : (names ++ rest) ++ (names_kept (lib_of o) ss start).0 ≡ names ++ (rest ++ (names_kept (lib_of o) ss start).0)
      appended = append_assoc names rest (names_kept (lib_of o) ss start).0

  pub calls_first : take (length s.calls) inside.calls ≡ s.calls
  calls_first = let p = calls_kept (lib_of o) ss start in ap (take (length s.calls)) p.1 ∙ front_of s.calls p.0

  pub path_same : inside.path ≡ s.path
  path_same = path_kept (lib_of o) ss start

  -- ---- statement by statement

  -- The statements below this number are laid out.
  pub record Laying (old : List BodyLayout) (index : ℕ) (t : CellScope) (n : Next) (bodies : List BodyLayout) (ls : List StatementLayout) : Type 0 where
    pub laid : body_at (root_of o) s.path ≡ ss → Laid anything (lib_of o) o.flow (root_of o) bodies (all (take index ss) start ls)
    pub stand : stand_of t n index ≡ behind_all (lib_of o) (take index ss) start
    pub grows : Grows old bodies

  pub lays_none : (old : List BodyLayout) (n : Next) → stand_of s n 0 ≡ start → Laying old 0 s n old []
  lays_none old n e = record { laid = λ there. laid_none start; stand = e; grows = grows_not old }

  -- where a statement stands
  stands_at : (old : List BodyLayout) (index : ℕ) (t : CellScope) (n : Next) (bodies : List BodyLayout) (ls : List StatementLayout) (st : Statement) → Laying old index t n bodies ls → body_at (root_of o) s.path ≡ ss
      → slice_get ss index ≡ Some st → slice_get (body_at (root_of o) t.path) index ≡ Some st
  stands_at old index t n bodies ls st p there at =
      let same : t.path ≡ s.path = ap (λ (a : Stand). a.path) p.stand ∙ path_kept (lib_of o) (take index ss) start in
      ap (λ (path : List ℕ). slice_get (body_at (root_of o) path) index) same ∙ ap (λ (xs : List Statement). slice_get xs index) there ∙ at

  pub lays_next : (old : List BodyLayout) (index : ℕ) (t u : CellScope) (n m : Next) (bodies new : List BodyLayout) (ls : List StatementLayout) (l : StatementLayout) (st : Statement) → index < length ss
      → st ≡ get_or ss index st → Laying old index t n bodies ls → LaysOne o st index t n bodies u m new l → Laying old (index + 1) u m new (ls ++ l ∷ [])
  lays_next old index t u n m bodies new ls l st lt is p q =
      let one_more : take (index + 1) ss ≡ take index ss ++ st ∷ [] = take_more ss index st lt ∙ ap (λ (x : Statement). take index ss ++ x ∷ []) (sym is) in
      record {
        laid = λ there.
            let at : slice_get ss index ≡ Some st = slice_get_read ss (length ss) index st refl lt is in
            subst (λ (xs : List Statement). Laid anything (lib_of o) o.flow (root_of o) new (all xs start (ls ++ l ∷ []))) (sym one_more)
            (laid_snoc anything (lib_of o) o.flow (root_of o) new (take index ss) start ls st l (laid_on anything (lib_of o) o.flow (root_of o) bodies new (all (take index ss) start ls) q.grows (p.laid there)) tt
            (subst (λ (a : Stand). Laid anything (lib_of o) o.flow (root_of o) new (one st a l)) p.stand (q.laid (stands_at old index t n bodies ls st p there at))));
        stand =
            q.behind ∙ ap (behind_one (lib_of o) st) p.stand ∙ sym (behind_more (lib_of o) (take index ss) st start)
            ∙ ap (λ (xs : List Statement). behind_all (lib_of o) xs start) (sym one_more);
        grows = grows_on old bodies new p.grows q.grows;
      }

  abbrev own_runs : Runs
  own_runs =
      record {
        first_name = before;
        names = length (body_given (lib_of o) ss).keys;
        first_call = before + length (body_given (lib_of o) ss).keys + after;
        calls = length (body_given (lib_of o) ss).calls;
      }

  pub begins : (r : Runs) (n : Next) → r ≡ own_runs → n ≡ first_of r → stand_of s n 0 ≡ start
  begins r n e f = ap (λ (m : Next). stand_of s m 0) (f ∙ ap first_of e)

  abbrev pub added : Runs → CellScope → Next → List StatementLayout → BodyLayout
  added r t n ls =
      record {
        flow = o.flow;
        path = t.path;
        level = length t.path;
        cells = n.done;
        first_name = r.first_name;
        names = r.names;
        first_call = r.first_call;
        calls = r.calls;
        statements = ls;
      }

  body_lays : (old : List BodyLayout) (index : ℕ) (t : CellScope) (n : Next) (bodies new : List BodyLayout) (ls : List StatementLayout) → length ss ≤ index → Laying old index t n bodies ls
      → new ≡ bodies ++ added own_runs t n ls ∷ [] → LaysBody o ss s.names s.calls s.path before after old new (length bodies)
  body_lays old index t n bodies new ls most p e =
      let whole_list : take index ss ≡ ss = take_all index ss most in
      let stand : stand_of t n index ≡ behind_all (lib_of o) ss start = p.stand ∙ ap (λ (xs : List Statement). behind_all (lib_of o) xs start) whole_list in
      let same : t.path ≡ s.path = ap (λ (a : Stand). a.path) stand ∙ path_kept (lib_of o) ss start in
      let g : Grows bodies new = (added own_runs t n ls ∷ [], e) in
      record {
        body = added own_runs t n ls;
        there = ap (λ (bs : List BodyLayout). slice_get bs (length bodies)) e ∙ there_last bodies (added own_runs t n ls);
        laid = λ at.
            laid_whole ss s.names s.calls s.path before after (added own_runs t n ls)
            (record {
              flow_is = refl;
              path_is = same;
              level = ap length same;
              there = at;
              first_name = refl;
              names_count = refl;
              first_call = refl;
              calls_count = refl;
              cells = ap (λ (a : Stand). a.next_done) stand;
            })
            (laid_on anything (lib_of o) o.flow (root_of o) bodies new (all ss start ls) g
            (subst (λ (xs : List Statement). Laid anything (lib_of o) o.flow (root_of o) bodies (all xs start ls)) whole_list (p.laid at)));
        grows = grows_on old bodies new p.grows g;
      }

  pub lays_body : (old : List BodyLayout) (index : ℕ) (t : CellScope) (n : Next) (bodies new : List BodyLayout) (ls : List StatementLayout) (r : Runs) (number : ℕ) → length ss ≤ index → Laying old index t n bodies ls
      → r ≡ own_runs → number ≡ length bodies → new ≡ bodies ++ added r t n ls ∷ [] → LaysBody o ss s.names s.calls s.path before after old new number
  lays_body old index t n bodies new ls r number most p e k is =
      subst (LaysBody o ss s.names s.calls s.path before after old new) (sym k)
      (body_lays old index t n bodies new ls most p (is ∙ ap (λ (x : Runs). bodies ++ added x t n ls ∷ []) e))
