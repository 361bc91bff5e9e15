-- What is laid out stays so when bodies are added, and goes on statement by statement.
use Rattle.std.proofs.Common.{◌≡◌, ℕ, zero, suc, List, [], ◌∷◌, ◌++◌, length, take, append_assoc, append-nil, Some, sym, ap, ◌∙◌, subst, refl}
use Rattle.std.specs.List.{slice_get}
use Rattle.wdl_typed.specs.declared.flow.Statement.{Statement, out-Statement}
use Rattle.wdl_typed.specs.Bodies.{Library}
use Rattle.plan_layout.specs.declared.layout.BodyLayout.{BodyLayout}
use Rattle.plan_layout.specs.declared.layout.Need.{Need}
use Rattle.plan_layout.specs.declared.layout.StatementLayout.{StatementLayout}
use Rattle.plan_layout.specs.Laid.{Form, Laid, Stand, all, behind_all, behind_one, given_at, laid_call, laid_decl, laid_if, laid_next, laid_none, laid_scatter, laid_whole, one, whole}
use Rattle.plan_layout.specs.Paths.{body_at, inner_of}
use Rattle.plan_layout.specs.Spots.{plain_keys, spots_from}
use Rattle.plan_layout.specs.Steps.{Grows}

-- ---- lists

pub there_more : {A : Type 0} (old more : List A) (k : ℕ) (x : A) → slice_get old k ≡ Some x → slice_get (old ++ more) k ≡ Some x
there_more [] more k x h = cc
there_more (y ∷ ys) more zero x h = h
there_more (y ∷ ys) more (suc k) x h = there_more ys more k x h

pub there_last : {A : Type 0} (old : List A) (x : A) → slice_get (old ++ x ∷ []) (length old) ≡ Some x
there_last [] x = refl
there_last (y ∷ ys) x = there_last ys x

pub front_of : {A : Type 0} (xs ys : List A) → take (length xs) (xs ++ ys) ≡ xs
front_of [] [] = refl
front_of [] (y ∷ ys) = refl
front_of (x ∷ xs) ys = ap (λ zs. x ∷ zs) (front_of xs ys)

pub grows_not : (b : List BodyLayout) → Grows b b
grows_not b = ([], sym (append-nil b))

pub grows_on : (a b c : List BodyLayout) → Grows a b → Grows b c → Grows a c
grows_on a b c g h = (g.0 ++ h.0, h.1 ∙ ap (λ (xs : List BodyLayout). xs ++ h.0) g.1 ∙ append_assoc a g.0 h.0)

-- ---- paths

pub body_below : (ss : List Statement) (path : List ℕ) (k : ℕ) → body_at ss (path ++ k ∷ []) ≡ inner_of (slice_get (body_at ss path) k)
body_below ss [] k = refl
body_below ss (j ∷ path) k = body_below (inner_of (slice_get ss j)) path k

-- ---- stands

module _ (lib : Library) where
  pub behind_more : (ss : List Statement) (x : Statement) (a : Stand) → behind_all lib (ss ++ x ∷ []) a ≡ behind_one lib x (behind_all lib ss a)
  behind_more [] x a = refl
  behind_more (s ∷ ss) x a = behind_more ss x (behind_one lib s a)

  pub names_kept : (ss : List Statement) (a : Stand) → (more : List Need) × ((behind_all lib ss a).names ≡ a.names ++ more)
  names_kept [] a = ([], sym (append-nil a.names))
  names_kept (s ∷ ss) a =
      let p = names_kept ss (behind_one lib s a) in
      let own = spots_from (length a.path) a.next_name (given_at lib (out-Statement s)).keys in
      (own ++ p.0, p.1 ∙ append_assoc a.names own p.0)

  pub calls_kept : (ss : List Statement) (a : Stand) → (more : List Need) × ((behind_all lib ss a).calls ≡ a.calls ++ more)
  calls_kept [] a = ([], sym (append-nil a.calls))
  calls_kept (s ∷ ss) a =
      let p = calls_kept ss (behind_one lib s a) in
      let own = spots_from (length a.path) a.next_call (plain_keys (given_at lib (out-Statement s)).calls) in
      (own ++ p.0, p.1 ∙ append_assoc a.calls own p.0)

  pub path_kept : (ss : List Statement) (a : Stand) → (behind_all lib ss a).path ≡ a.path
  path_kept [] a = refl
  path_kept (s ∷ ss) a = path_kept ss (behind_one lib s a)

-- ---- forms

module _ (Fact : Statement → Stand → Type 0) (lib : Library) (flow : ℕ) (root : List Statement) where
  pub laid_more : (old more : List BodyLayout) {f : Form} → Laid Fact lib flow root old f → Laid Fact lib flow root (old ++ more) f
  laid_more old more (laid_decl x a l s n) = laid_decl x a l s n
  laid_more old more (laid_call x a l s n) = laid_call x a l s n
  laid_more old more (laid_scatter x a l b s n t p) = laid_scatter x a l b s n (there_more old more l.inner b t) (laid_more old more p)
  laid_more old more (laid_if x a l b s n t p) = laid_if x a l b s n (there_more old more l.inner b t) (laid_more old more p)
  laid_more old more (laid_none a) = laid_none a
  laid_more old more (laid_next x xs a l ls t p q) = laid_next x xs a l ls t (laid_more old more p) (laid_more old more q)
  laid_more old more (laid_whole ss names calls path before after b r p) = laid_whole ss names calls path before after b r (laid_more old more p)

  pub laid_on : (old new : List BodyLayout) (f : Form) → Grows old new → Laid Fact lib flow root old f → Laid Fact lib flow root new f
  laid_on old new f g p = subst (λ (bs : List BodyLayout). Laid Fact lib flow root bs f) (sym g.1) (laid_more old g.0 p)

  module _ (bodies : List BodyLayout) where
    -- one more statement after these
    abbrev More : Form → Type 0
    More (one x a l) = Unit {0}
    More (all ss a ls) = (x : Statement) (l : StatementLayout) → Fact x (behind_all lib ss a) → Laid Fact lib flow root bodies (one x (behind_all lib ss a) l) → Laid Fact lib flow root bodies (all (ss ++ x ∷ []) a (ls ++ l ∷ []))
    More (whole ss names calls path before after b) = Unit {0}

    more : {f : Form} → Laid Fact lib flow root bodies f → More f
    more (laid_decl x a l s n) = tt
    more (laid_call x a l s n) = tt
    more (laid_scatter x a l b s n t p) = tt
    more (laid_if x a l b s n t p) = tt
    more (laid_none a) = λ x l t p. laid_next x [] a l [] t p (laid_none (behind_one lib x a))
    more (laid_next y ys a m ms t p q) = λ x l u r. laid_next y (ys ++ x ∷ []) a m (ms ++ l ∷ []) t p (more q x l u r)
    more (laid_whole ss names calls path before after b r p) = tt

    pub laid_snoc : (ss : List Statement) (a : Stand) (ls : List StatementLayout) (x : Statement) (l : StatementLayout) → Laid Fact lib flow root bodies (all ss a ls)
        → Fact x (behind_all lib ss a) → Laid Fact lib flow root bodies (one x (behind_all lib ss a) l) → Laid Fact lib flow root bodies (all (ss ++ x ∷ []) a (ls ++ l ∷ []))
    laid_snoc ss a ls x l p t q = more p x l t q
