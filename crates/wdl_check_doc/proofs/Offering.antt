-- What calls of a document may name is of the library.
use Rattle.std.proofs.Common.{◌≡◌, ℕ, zero, suc, ◌+◌, Bool, true, false, cond, List, [], ◌∷◌, ◌++◌, Option, Some, None, option_and_then, append_assoc, drop, length, length-append, map, slice_get, take, refl, sym, ap, subst, ◌∙◌}
use Rattle.std.specs.List.{find}
use Rattle.std.specs.Str.{bytes_eq}
use Rattle.std.proofs.lemmas.Option.{same_Some}
use Rattle.wdl_value.specs.Fits.{Structs}
use Rattle.wdl_ast.specs.declared.leaf.Ident.{Ident}
use Rattle.wdl_ast.specs.declared.workflow.CallTarget.{CallTarget}
use Rattle.wdl_ast.specs.declared.workflow.TargetMember.{TargetMember}
use Rattle.wdl_typed.specs.declared.flow.FlowDef.{FlowDef}
use Rattle.wdl_typed.specs.declared.task.TaskDef.{TaskDef}
use Rattle.wdl_typed.specs.Bodies.{Library, flow_signature, library, task_signature}
use Rattle.wdl_library.specs.declared.doc.Link.{Link}
use Rattle.wdl_check_flow.specs.declared.flow.FlowRest.{FlowRest}
use Rattle.wdl_check_flow.specs.Laws.{IsOffered, member_of}
use Rattle.wdl_check_flow.specs.Targets.{Offer, Space, named_in, offer_named, space_named, target_of}
use Rattle.wdl_check_doc.specs.Flows.{flow_def, flow_defs}
use Rattle.wdl_check_doc.specs.Offers.{Table, flow_offers, own_at, space_at, spaces, tables, task_offers}
use Rattle.wdl_check_doc.specs.Parts.{Part}
use Rattle.wdl_check_doc.specs.Runnables.{Headed, tasks_in, workflows_in}
use Rattle.wdl_check_doc.proofs.Typed.{Have}

pub have_take : {A : Type 0} (P : A → Type 0) (n : ℕ) (xs : List A) → Have P xs → Have P (take n xs)
have_take P zero [] h = tt
have_take P (suc n) [] h = tt
have_take P zero (x ∷ xs) h = tt
have_take P (suc n) (x ∷ xs) h = (h.0, have_take P n xs h.1)

pub have_drop : {A : Type 0} (P : A → Type 0) (n : ℕ) (xs : List A) → Have P xs → Have P (drop n xs)
have_drop P zero [] h = tt
have_drop P (suc n) [] h = tt
have_drop P zero (x ∷ xs) h = h
have_drop P (suc n) (x ∷ xs) h = have_drop P n xs h.1

have_append : {A : Type 0} (P : A → Type 0) (xs ys : List A) → Have P xs → Have P ys → Have P (xs ++ ys)
have_append P [] ys h k = k
have_append P (x ∷ xs) ys h k = (h.0, have_append P xs ys h.1 k)

have_at : {A : Type 0} (P : A → Type 0) (xs : List A) (k : ℕ) (x : A) → Have P xs → slice_get xs k ≡ Some x → P x
have_at P [] k x h e = cc
have_at P (y ∷ ys) zero x h e = let same : y ≡ x = cc in subst P same h.0
have_at P (y ∷ ys) (suc k) x h e = have_at P ys k x h.1 e

have_found : {A : Type 0} (P : A → Type 0) (test : A → Bool) (xs : List A) (x : A) → Have P xs → find test xs ≡ Some x → P x
have_found P test [] x h e = cc
have_found {A} P test (y ∷ ys) x h e = by_test (λ g. have_found P test ys x h.1 g) (test y) e
  where
    by_test : (find test ys ≡ Some x → P x) → (b : Bool) → cond b (Some y) (find test ys) ≡ Some x → P x
    by_test more true e = subst P (same_Some y x e) h.0
    by_test more false e = more e

at_end : {A : Type 0} (before : List A) (x : A) (more : List A) → slice_get (before ++ x ∷ more) (length before) ≡ Some x
at_end [] x more = refl
at_end (y ∷ ys) x more = at_end ys x more

one_more : {A : Type 0} (before : List A) (x : A) → length (before ++ x ∷ []) ≡ length before + 1
one_more before x = length-append before (x ∷ [])

-- a workflow gives what its calls were told
abbrev pub Fits : Headed → FlowRest → Type 0
Fits h r = map member_of r.outputs ≡ h.head.outputs

abbrev pub FitAll : List Headed → List FlowRest → Type 0
FitAll [] rs = Unit {0}
FitAll (h ∷ hs) [] = ⊥
FitAll (h ∷ hs) (r ∷ rs) = Fits h r × FitAll hs rs

module _ (structs : Structs) (flows : List FlowDef) where
  task_offered : (before ts : List TaskDef) → (all : List TaskDef) → all ≡ before ++ ts → Have (IsOffered (library structs all flows)) (task_offers (length before) ts)
  task_offered before [] all e = tt
  task_offered before (t ∷ ts) all e = (
    record {
      has = task_signature t;
      found = ap (option_and_then (λ (d : TaskDef). Some (task_signature d))) (ap (λ (xs : List TaskDef). slice_get xs (length before)) e ∙ at_end before t ts);
      inputs = refl;
      outputs = refl;
    },
    subst (λ (n : ℕ). Have (IsOffered (library structs all flows)) (task_offers n ts)) (one_more before t)
        (task_offered (before ++ t ∷ []) ts all (e ∙ sym (append_assoc before (t ∷ []) ts))),
  )

  pub tasks_offered : (ts : List TaskDef) → Have (IsOffered (library structs ts flows)) (task_offers 0 ts)
  tasks_offered ts = task_offered [] ts ts refl

module _ (structs : Structs) (tasks : List TaskDef) where
  flow_offered : (before : List FlowDef) (hs : List Headed) (rs : List FlowRest) (all : List FlowDef) → FitAll hs rs → all ≡ before ++ flow_defs hs rs
      → Have (IsOffered (library structs tasks all)) (flow_offers (length before) hs)
  flow_offered before [] rs all f e = tt
  flow_offered before (h ∷ hs) [] all f e = absurd f
  flow_offered before (h ∷ hs) (r ∷ rs) all f e = (
    record {
      has = flow_signature (flow_def h r);
      found = ap (option_and_then (λ (d : FlowDef). Some (flow_signature d))) (ap (λ (xs : List FlowDef). slice_get xs (length before)) e ∙ at_end before (flow_def h r) (flow_defs hs rs));
      inputs = refl;
      outputs = f.0;
    },
    subst (λ (n : ℕ). Have (IsOffered (library structs tasks all)) (flow_offers n hs)) (one_more before (flow_def h r))
        (flow_offered (before ++ flow_def h r ∷ []) hs rs all f.1 (e ∙ sym (append_assoc before (flow_def h r ∷ []) (flow_defs hs rs)))),
  )

  pub flows_offered : (hs : List Headed) (rs : List FlowRest) → FitAll hs rs → Have (IsOffered (library structs tasks (flow_defs hs rs))) (flow_offers 0 hs)
  flows_offered hs rs f = flow_offered [] hs rs (flow_defs hs rs) f refl

-- ---- tables

module _ (lib : Library) where
  record IsTable (t : Table) : Type 0 where
    own : Have (IsOffered lib) t.own
    all : Have (IsOffered lib) t.all

  tables_are : (ps : List Part) (ts fs : List Offer) → Have (IsOffered lib) ts → Have (IsOffered lib) fs → Have IsTable (tables ps ts fs)
  tables_are [] ts fs a b = tt
  tables_are (p ∷ ps) ts fs a b =
      let m = length (tasks_in p.sections) in
      let n = length (workflows_in p.sections) in (
        record {
          own = have_take (IsOffered lib) m ts a;
          all = have_append (IsOffered lib) (take m ts) (take n fs) (have_take (IsOffered lib) m ts a) (have_take (IsOffered lib) n fs b);
        },
        tables_are ps (drop m ts) (drop n fs) (have_drop (IsOffered lib) m ts a) (have_drop (IsOffered lib) n fs b),
      )

  abbrev IsSpace : Space → Type 0
  IsSpace s = Have (IsOffered lib) s.offers

  own_is : (ts : List Table) (k : ℕ) → Have IsTable ts → Have (IsOffered lib) (own_at (slice_get ts k))
  own_is ts k h = by_table (slice_get ts k) refl
    where
      by_table : (o : Option Table) → slice_get ts k ≡ o → Have (IsOffered lib) (own_at o)
      by_table None e = tt
      by_table (Some t) e = (have_at IsTable ts k t h e).own

  space_is : (ts : List Table) (l : Link) → Have IsTable ts → Have IsSpace (space_at l.namespace (slice_get ts l.doc))
  space_is ts l h = by_table (slice_get ts l.doc) refl
    where
      by_table : (o : Option Table) → slice_get ts l.doc ≡ o → Have IsSpace (space_at l.namespace o)
      by_table None e = tt
      by_table (Some t) e = ((have_at IsTable ts l.doc t h e).all, tt)

  spaces_are : (ts : List Table) (ls : List Link) → Have IsTable ts → Have IsSpace (spaces ts ls)
  spaces_are ts [] h = tt
  spaces_are ts (l ∷ ls) h = have_append IsSpace (space_at l.namespace (slice_get ts l.doc)) (spaces ts ls) (space_is ts l h) (spaces_are ts ls h)

  named_is : (own : List Offer) (ss : List Space) → Have (IsOffered lib) own → Have IsSpace ss → (first : Ident) (second : Option TargetMember) (o : Offer)
      → named_in (record { own = own; spaces = ss }) first second ≡ Some o → IsOffered lib o
  named_is own ss a b first None o e = have_found (IsOffered lib) (λ (x : Offer). bytes_eq x.name first.name) own o a e
  named_is own ss a b first (Some m) o e = by_space (space_named ss first.name) refl e
    where
      by_space : (s : Option Space) → space_named ss first.name ≡ s → option_and_then (λ (x : Space). offer_named x.offers m.name.name) s ≡ Some o → IsOffered lib o
      by_space None g e = cc
      by_space (Some s) g e =
          have_found (IsOffered lib) (λ (x : Offer). bytes_eq x.name m.name.name) s.offers o (have_found IsSpace (λ (x : Space). bytes_eq x.name first.name) ss s b g) e

  -- each target of a document is of the library
  pub targets_are : (ps : List Part) (tasks flows : List Offer) (k : ℕ) (ls : List Link) → Have (IsOffered lib) tasks → Have (IsOffered lib) flows → (t : CallTarget) (o : Offer)
      → target_of (record { own = own_at (slice_get (tables ps tasks flows) k); spaces = spaces (tables ps tasks flows) ls }) t ≡ Some o → IsOffered lib o
  targets_are ps tasks flows k ls a b t o e =
      let are = tables_are ps tasks flows a b in
      named_is (own_at (slice_get (tables ps tasks flows) k)) (spaces (tables ps tasks flows) ls) (own_is (tables ps tasks flows) k are) (spaces_are (tables ps tasks flows) ls are) t.first t.second o e
