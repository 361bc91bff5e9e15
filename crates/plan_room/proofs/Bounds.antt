-- The slots of the statements of a body, in order.
use Rattle.std.proofs.Common.{◌≡◌, ◌<◌, ◌≤◌, ◌⊎◌, inl, inr, ℕ, ◌+◌, List, [], ◌∷◌, ◌++◌, All, length, length-append, arith, ap, refl, subst, sym}
use Rattle.std.proofs.lemmas.List.Elements.{All-append, All-cons}
use Rattle.std.proofs.lemmas.List.{length-map}
use Rattle.wdl_base.specs.declared.name.Key.{Key}
use Rattle.wdl_typed.specs.declared.flow.Statement.{Statement, out-Statement}
use Rattle.wdl_typed.specs.declared.flow.Statement.TheVariants as stmt
use Rattle.wdl_typed.specs.Bodies.{Library}
use Rattle.wdl_typed.specs.Declarations.{plain_key}
use Rattle.wdl_typed.specs.Flow.{Names}
use Rattle.net_laws.specs.Growing.{body_given}
use Rattle.net_laws.specs.Planned.{call_names}
use Rattle.plan_layout.specs.declared.layout.BodyLayout.{BodyLayout}
use Rattle.plan_layout.specs.declared.layout.Need.{Need}
use Rattle.plan_layout.specs.declared.layout.StatementLayout.{StatementLayout}
use Rattle.plan_layout.specs.Laid.{HasNeeds, HasSlots, Laid, Stand, all, behind_all, behind_one, blocks_at, given_at, laid_call, laid_decl, laid_if, laid_next, laid_none, laid_scatter, one, one_name}
use Rattle.plan_layout.specs.Spots.{plain_keys, spots_from}
use Rattle.plan_layout.proofs.Given.{name_is, name_of}
use Rattle.plan_room.specs.Reached.{AreReached, AreStatementsReached, IsReached, IsStatementReached}
use Rattle.plan_room.proofs.Needs.{all_needed, none_all, spots_reached}

module _ (lib : Library) where
  -- ---- behind so many statements

  pub name_total : (ss : List Statement) (a : Stand) → (behind_all lib ss a).next_name ≡ a.next_name + length (body_given lib ss).keys
  name_total [] a = omega arith
  name_total (x ∷ xs) a =
      let h = name_total xs (behind_one lib x a) in
      let e = length-append (name_of lib x).keys (body_given lib xs).keys in
      let n = ap (λ (m : Names). length m.keys) (name_is lib x) in
      omega (arith, h, e, n)

  pub call_total : (ss : List Statement) (a : Stand) → (behind_all lib ss a).next_call ≡ a.next_call + length (body_given lib ss).calls
  call_total [] a = omega arith
  call_total (x ∷ xs) a =
      let h = call_total xs (behind_one lib x a) in
      let e = length-append (name_of lib x).calls (body_given lib xs).calls in
      let n = ap (λ (m : Names). length m.calls) (name_is lib x) in
      omega (arith, h, e, n)

  names_grow : (ss : List Statement) (a : Stand) → a.next_name ≤ (behind_all lib ss a).next_name
  names_grow ss a = let h = name_total ss a in omega (arith, h)

  calls_grow : (ss : List Statement) (a : Stand) → a.next_call ≤ (behind_all lib ss a).next_call
  calls_grow ss a = let h = call_total ss a in omega (arith, h)

  pub dones_grow : (ss : List Statement) (a : Stand) → a.next_done ≤ (behind_all lib ss a).next_done
  dones_grow [] a = omega arith
  dones_grow (x ∷ xs) a = let h = dones_grow xs (behind_one lib x a) in omega (arith, h)

-- The slots of the line are below these.
pub record LineFits (n c d : ℕ) (l : StatementLayout) : Type 0 where
  pub names : l.first_name + l.names ≤ n
  pub calls : l.first_call + l.calls ≤ c
  pub done : (l.done < n) ⊎ ((l.done < c) ⊎ (l.done < d))

less_done : (k n m c b d e : ℕ) → n ≤ m → c ≤ b → d ≤ e → (k < n) ⊎ ((k < c) ⊎ (k < d)) → (k < m) ⊎ ((k < b) ⊎ (k < e))
less_done k n m c b d e h i j (inl l) = inl (omega (arith, h, l))
less_done k n m c b d e h i j (inr (inl l)) = inr (inl (omega (arith, i, l)))
less_done k n m c b d e h i j (inr (inr l)) = inr (inr (omega (arith, j, l)))

line_more : (n m c b d e : ℕ) (l : StatementLayout) → n ≤ m → c ≤ b → d ≤ e → LineFits n c d l → LineFits m b e l
line_more n m c b d e l h i j f =
    record {
      names = (let k = f.names in omega (arith, h, k));
      calls = (let k = f.calls in omega (arith, i, k));
      done = less_done l.done n m c b d e h i j f.done;
    }

module _ (Fact : Statement → Stand → Type 0) (lib : Library) (flow : ℕ) (root : List Statement) (bodies : List BodyLayout) where
  abbrev Lies : Statement → Stand → StatementLayout → Type 0
  Lies x a l = LineFits (behind_one lib x a).next_name (behind_one lib x a).next_call (behind_one lib x a).next_done l

  fits_by : (x : Statement) (a : Stand) (l : StatementLayout) (n : Names) (done : ℕ) → given_at lib (out-Statement x) ≡ n → HasSlots n a done l
      → (done < a.next_name + length n.keys) ⊎ ((done < a.next_call + length n.calls) ⊎ (done < (behind_one lib x a).next_done)) → Lies x a l
  fits_by x a l n done e h d =
      let ks = ap (λ (m : Names). length m.keys) e in
      let cs = ap (λ (m : Names). length m.calls) e in
      let i = h.first_name in
      let j = h.names in
      let u = h.first_call in
      let v = h.calls in
      let w = h.done_is in
      record { names = omega (arith, ks, i, j); calls = omega (arith, cs, u, v); done = last a.next_name a.next_call _ _ _ _ _ l.done done ks cs w d }
    where
      last : (a_ b_ ks ns cs ms z k done_ : ℕ) → ks ≡ ns → cs ≡ ms → k ≡ done_ → (done_ < a_ + ns) ⊎ ((done_ < b_ + ms) ⊎ (done_ < z)) → (k < a_ + ks) ⊎ ((k < b_ + cs) ⊎ (k < z))
      last a_ b_ ks ns cs ms z k done_ e f g (inl l_) = inl (omega (arith, e, g, l_))
      last a_ b_ ks ns cs ms z k done_ e f g (inr (inl l_)) = inr (inl (omega (arith, f, g, l_)))
      last a_ b_ ks ns cs ms z k done_ e f g (inr (inr l_)) = inr (inr (omega (arith, g, l_)))

  line_fits : {x : Statement} {a : Stand} {l : StatementLayout} → Laid Fact lib flow root bodies (one x a l) → Lies x a l
  line_fits (laid_decl x a l slots needs) = fits_by (stmt.Decl x) a l (one_name x.name) a.next_name (ap (given_at lib) (stmt.outs-Decl x)) slots (inl (omega arith))
  line_fits (laid_call x a l slots needs) = fits_by (stmt.Call x) a l (call_names lib x) a.next_call (ap (given_at lib) (stmt.outs-Call x)) slots (inr (inl (omega arith)))
  line_fits (laid_scatter x a l b slots needs found p) =
      fits_by (stmt.Scatter x) a l (body_given lib x.body) a.next_done (ap (given_at lib) (stmt.outs-Scatter x)) slots (inr (inr (let e = ap blocks_at (stmt.outs-Scatter x) in omega (arith, e))))
  line_fits (laid_if x a l b slots needs found p) =
      fits_by (stmt.If x) a l (body_given lib x.body) a.next_done (ap (given_at lib) (stmt.outs-If x)) slots (inr (inr (let e = ap blocks_at (stmt.outs-If x) in omega (arith, e))))

  pub lines_fit : {ss : List Statement} {a : Stand} {ls : List StatementLayout} → Laid Fact lib flow root bodies (all ss a ls)
      → All (LineFits (behind_all lib ss a).next_name (behind_all lib ss a).next_call (behind_all lib ss a).next_done) ls
  lines_fit (laid_none a) = none_all (LineFits a.next_name a.next_call a.next_done)
  lines_fit (laid_next x xs a l ls fact p q) =
      All-cons (LineFits (behind_all lib xs (behind_one lib x a)).next_name (behind_all lib xs (behind_one lib x a)).next_call (behind_all lib xs (behind_one lib x a)).next_done) l ls
      (line_more (behind_one lib x a).next_name (behind_all lib xs (behind_one lib x a)).next_name (behind_one lib x a).next_call (behind_all lib xs (behind_one lib x a)).next_call (behind_one lib x a).next_done
      (behind_all lib xs (behind_one lib x a)).next_done l (names_grow lib xs (behind_one lib x a)) (calls_grow lib xs (behind_one lib x a)) (dones_grow lib xs (behind_one lib x a)) (line_fits p))
      (lines_fit q)

  -- ---- what lines need

  module _ (cells first : ℕ) (outer : List ℕ) where
    abbrev Here : List Need → Type 0
    Here = AreReached (first + cells) (outer ++ first ∷ [])

    needs_reached : (a : Stand) (keys : List Key) (calls : List (List ℕ)) (l : StatementLayout) → HasNeeds a keys calls l → Here a.names → Here a.calls → IsStatementReached (first + cells) (outer ++ first ∷ []) l
    needs_reached a keys calls l h names_ calls_ =
        record {
          needs = subst Here (sym h.needs) (all_needed (IsReached (first + cells) (outer ++ first ∷ [])) a.names keys names_);
          after = subst Here (sym h.after) (all_needed (IsReached (first + cells) (outer ++ first ∷ [])) a.calls (plain_keys calls) calls_);
        }

    line_reached : {x : Statement} {a : Stand} {l : StatementLayout} → Laid Fact lib flow root bodies (one x a l) → Here a.names → Here a.calls → IsStatementReached (first + cells) (outer ++ first ∷ []) l
    line_reached (laid_decl x a l slots needs) i j = needs_reached a _ _ l needs i j
    line_reached (laid_call x a l slots needs) i j = needs_reached a _ _ l needs i j
    line_reached (laid_scatter x a l b slots needs found p) i j = needs_reached a _ _ l needs i j
    line_reached (laid_if x a l b slots needs found p) i j = needs_reached a _ _ l needs i j

    pub lines_reached : {ss : List Statement} {a : Stand} {ls : List StatementLayout} → Laid Fact lib flow root bodies (all ss a ls) → length a.path ≡ length outer → (behind_all lib ss a).next_name ≤ cells
        → (behind_all lib ss a).next_call ≤ cells → Here a.names → Here a.calls → AreStatementsReached (first + cells) (outer ++ first ∷ []) ls
    lines_reached (laid_none a) e n c i j = none_all (IsStatementReached (first + cells) (outer ++ first ∷ []))
    lines_reached (laid_next x xs a l ls fact p q) e n c i j =
        let names_ = names_grow lib xs (behind_one lib x a) in
        let calls_ = calls_grow lib xs (behind_one lib x a) in
        All-cons (IsStatementReached (first + cells) (outer ++ first ∷ [])) l ls (line_reached p i j)
        (lines_reached q e n c
        (All-append (IsReached (first + cells) (outer ++ first ∷ [])) a.names (spots_from (length a.path) a.next_name (given_at lib (out-Statement x)).keys) i
        (spots_reached cells first outer (length a.path) a.next_name (given_at lib (out-Statement x)).keys e (omega (arith, names_, n))))
        (All-append (IsReached (first + cells) (outer ++ first ∷ [])) a.calls (spots_from (length a.path) a.next_call (plain_keys (given_at lib (out-Statement x)).calls)) j
        (spots_reached cells first outer (length a.path) a.next_call (plain_keys (given_at lib (out-Statement x)).calls) e (fits_calls a.next_call _ cells (given_at lib (out-Statement x)).calls calls_ c))))
      where
        fits_calls : (k m z : ℕ) (cs : List (List ℕ)) → k + length cs ≤ m → m ≤ z → k + length (plain_keys cs) ≤ z
        fits_calls k m z cs l_ u = let h = length-map cs plain_key in omega (arith, h, l_, u)

-- ---- what is seen behind statements

spots_length : (level first : ℕ) (keys : List Key) → length (spots_from level first keys) ≡ length keys
spots_length level first [] = refl
spots_length level first (k ∷ ks) = let h = spots_length level (first + 1) ks in omega (arith, h)

module _ (lib : Library) where
  pub names_length : (ss : List Statement) (a : Stand) → length (behind_all lib ss a).names ≡ length a.names + length (body_given lib ss).keys
  names_length [] a = omega arith
  names_length (x ∷ xs) a =
      let h = names_length xs (behind_one lib x a) in
      let e = length-append a.names (spots_from (length a.path) a.next_name (given_at lib (out-Statement x)).keys) in
      let s = spots_length (length a.path) a.next_name (given_at lib (out-Statement x)).keys in
      let u = length-append (name_of lib x).keys (body_given lib xs).keys in
      let n = ap (λ (m : Names). length m.keys) (name_is lib x) in
      omega (arith, h, e, s, u, n)

  pub names_reached : (cells first : ℕ) (outer : List ℕ) (ss : List Statement) (a : Stand) → length a.path ≡ length outer → (behind_all lib ss a).next_name ≤ cells
      → AreReached (first + cells) (outer ++ first ∷ []) a.names → AreReached (first + cells) (outer ++ first ∷ []) (behind_all lib ss a).names
  names_reached cells first outer [] a e n h = h
  names_reached cells first outer (x ∷ xs) a e n h =
      let g = names_grow lib xs (behind_one lib x a) in
      names_reached cells first outer xs (behind_one lib x a) e n
      (All-append (IsReached (first + cells) (outer ++ first ∷ [])) a.names (spots_from (length a.path) a.next_name (given_at lib (out-Statement x)).keys) h
      (spots_reached cells first outer (length a.path) a.next_name (given_at lib (out-Statement x)).keys e (omega (arith, g, n))))
