-- Statements in turn, and their steps in one pass.
use Rattle.std.proofs.Common.{◌≡◌, ℕ, ◌⊎◌, inl, inr, Bool, true, false, cond, ◌&&◌, List, [], ◌∷◌, ◌++◌, append_assoc, append-nil, map, Option, Some, None, Contains, sym, ap, ◌∙◌, subst, refl}
use Rattle.std.specs.Str.{bytes_eq}
use Rattle.std.proofs.lemmas.Bool.{false≢true, and_parts, and_from, or_left, or_right}
use Rattle.std.proofs.lemmas.Slice.Eq.{bytes_eq-Decides}
use Rattle.std.proofs.lemmas.Option.{none-some, same_Some}
use Rattle.wdl_base.specs.declared.name.Key.{Key}
use Rattle.wdl_base.specs.declared.place.Segment.{Segment}
use Rattle.wdl_base.specs.declared.request.Request.{Request}
use Rattle.wdl_value.specs.declared.env.Bind.{Bind}
use Rattle.wdl_value.specs.declared.value.Value.{Value}
use Rattle.wdl_value.specs.Fits.{Structs}
use Rattle.wdl_typed.specs.declared.scope.Bound.{Bound}
use Rattle.wdl_typed.specs.Flow.{Flowing, Known, Runner, Sight, bound_by, env_of, in_turn, is_clean, is_empty, seeing, together}
use Rattle.wdl_typed.specs.Scope.{lookup, same_key}
use Rattle.cwl_model.specs.declared.process.CwlStep.{CwlStep}
use Rattle.cwl_model.specs.declared.process.Link.{Link}
use Rattle.cwl_model.specs.declared.process.Link.TheVariants as link
use Rattle.cwl_model.specs.Laws.{Apart, is_of, owned, pass_means}
use Rattle.cwl_model.specs.Means.{Ground, Named, Running, are_complete, given_outputs, has_type, is_complete, link_of, linked, step_gives, step_means, value_at}
use Rattle.cwl_model.specs.Rounds.{Linked, known_value, one_pass, same_link}
use Rattle.cwl_model.proofs.Rounds.{first_is, first_or_later, known_append, later_is, none_is, or_else}
use Rattle.cwl_image.specs.Image.{Draft, Linkage, Output, Scope, body_links, body_steps, linkage_at, linkage_of, links_of, out_id, step_of}
use Rattle.cwl_laws.specs.Laws.{Agrees, AllDiffer, AllNew, AllSimulate, BodyAgrees, Fit, Free, Given, KeysDiffer, New, NewItems, NoItems, NoKeys, Shown, Shows, all_running, as_running, has_key, job_of}
use Rattle.wdl_flow.proofs.MarkLemmas.{same_key-true as key_same}

-- ---- what is looked up

pub bound_lookup : (k : Key) (o : Option Value) (bs : List Bind) (key : Key) → lookup (bound_by k o ++ bs) key ≡ or_else (cond (same_key k key) o None) (lookup bs key)
bound_lookup k None bs key = by_test (same_key k key)
  where
    by_test : (b : Bool) → lookup bs key ≡ or_else (cond b None None) (lookup bs key)
    by_test true = refl
    by_test false = refl
bound_lookup k (Some x) bs key = by_test (same_key k key)
  where
    by_test : (b : Bool) → cond b (Some x) (lookup bs key) ≡ or_else (cond b (Some x) None) (lookup bs key)
    by_test true = refl
    by_test false = refl

or_assoc : {A : Type 0} (o p q : Option A) → or_else (or_else o p) q ≡ or_else o (or_else p q)
or_assoc None p q = refl
or_assoc (Some x) p q = refl

pub lookup_append : (ks ls : List Known) (key : Key) → lookup (env_of (ks ++ ls)) key ≡ or_else (lookup (env_of ks) key) (lookup (env_of ls) key)
lookup_append [] ls key = refl
lookup_append (k ∷ ks) ls key =
    bound_lookup k.key k.value (env_of (ks ++ ls)) key
    ∙ ap (or_else (cond (same_key k.key key) k.value None)) (lookup_append ks ls key)
    ∙ sym (or_assoc (cond (same_key k.key key) k.value None) (lookup (env_of ks) key) (lookup (env_of ls) key))
    ∙ ap (λ o. or_else o (lookup (env_of ls) key)) (sym (bound_lookup k.key k.value (env_of ks) key))

pub linkage_append : (ks ls : Scope) (key : Key) → linkage_at (ks ++ ls) key ≡ or_else (linkage_at ks key) (linkage_at ls key)
linkage_append [] ls key = refl
linkage_append (k ∷ ks) ls key = split (linkage_append ks ls key) (same_key k.key key)
  where
    split : linkage_at (ks ++ ls) key ≡ or_else (linkage_at ks key) (linkage_at ls key) → (b : Bool)
        → cond b (Some k) (linkage_at (ks ++ ls) key) ≡ or_else (cond b (Some k) (linkage_at ks key)) (linkage_at ls key)
    split e true = refl
    split e false = e

-- ---- what a step gives

-- of another step, nothing
linked_none : (s : CwlStep Running) (os : List (List ℕ)) (ns : List Named) (l : Link) → is_of s l ≡ false → known_value (linked s.id os ns) l ≡ None
linked_none s [] ns l n = refl
linked_none s (o ∷ os) ns l n = by_value (linked_none s os ns l n) (value_at ns o)
  where
    other : (l : Link) → is_of s l ≡ false → same_link (link.Out s.id o) l ≡ false
    other (link.Input i) n = refl
    other (link.Out t p) n = ap (λ b. b && bytes_eq o p) n

    by_value : known_value (linked s.id os ns) l ≡ None → (v : Option Value) → known_value (link_of s.id o v ++ linked s.id os ns) l ≡ None
    by_value rest None = rest
    by_value rest (Some x) = ap (λ b. cond b (Some x) (known_value (linked s.id os ns) l)) (other l n) ∙ rest

linked_value : (step : List ℕ) (os : List (List ℕ)) (ns : List Named) (o : List ℕ) (x : Value) → Contains os o → value_at ns o ≡ Some x
    → known_value (linked step os ns) (link.Out step o) ≡ Some x
linked_value step [] ns o x c e = absurd (none_is o c)
linked_value step (p ∷ os) ns o x c e = by_test (λ d. linked_value step os ns o x d e) (bytes_eq p o) refl
  where
    is_step : bytes_eq step step ≡ true
    is_step = (bytes_eq-Decides step step).1 refl

    apart : bytes_eq p o ≡ false → (p ≡ o) ⊎ Contains os o → Contains os o
    apart n (inl same) = absurd (false≢true (sym n ∙ (bytes_eq-Decides p o).1 same))
    apart n (inr d) = d

    skip : bytes_eq p o ≡ false → (v : Option Value) → known_value (linked step os ns) (link.Out step o) ≡ Some x
        → known_value (link_of step p v ++ linked step os ns) (link.Out step o) ≡ Some x
    skip n None rest = rest
    skip n (Some y) rest = ap (λ b. cond b (Some y) (known_value (linked step os ns) (link.Out step o))) (ap (λ b. bytes_eq step step && b) n ∙ and_false (bytes_eq step step)) ∙ rest
      where
        and_false : (b : Bool) → (b && false) ≡ false
        and_false true = refl
        and_false false = refl

    by_test : (Contains os o → known_value (linked step os ns) (link.Out step o) ≡ Some x) → (b : Bool) → bytes_eq p o ≡ b → known_value (linked step (p ∷ os) ns) (link.Out step o) ≡ Some x
    by_test rest true s =
        let same : p ≡ o = (bytes_eq-Decides p o).0 s in
        let value : value_at ns p ≡ Some x = ap (value_at ns) same ∙ e in
        ap (λ v. known_value (link_of step p v ++ linked step os ns) (link.Out step o)) value
        ∙ ap (λ b. cond b (Some x) (known_value (linked step os ns) (link.Out step o))) (and_from (bytes_eq step step) (bytes_eq p o) is_step s)
    by_test rest false n = skip n (value_at ns p) (rest (apart n (first_or_later p os o c)))

-- ---- outputs

abbrev OneGiven : Output → List Known → List Named → Type 0
OneGiven o names ns = (x : Value) × (lookup (env_of names) o.key ≡ Some x) × (value_at ns o.id ≡ Some x) × (has_type o.ty x ≡ true)

given_at : (os : List Output) (names : List Known) (ns : List Named) → Given os names ns → (o : Output) → Contains os o → OneGiven o names ns
given_at [] names ns h o c = absurd (none_is o c)
given_at (p ∷ os) names ns h o c = by_case (λ d. given_at os names ns h.1 o d) (first_or_later p os o c)
  where
    by_case : (Contains os o → OneGiven o names ns) → (p ≡ o) ⊎ Contains os o → OneGiven o names ns
    by_case rest (inl e) = subst (λ (q : Output). OneGiven q names ns) e h.0
    by_case rest (inr d) = rest d

new_at : (os : List Output) (names : List Known) → New os names → (o : Output) → Contains os o → lookup (env_of names) o.key ≡ None
new_at [] names h o c = absurd (none_is o c)
new_at (p ∷ os) names h o c = by_case (λ d. new_at os names h.1 o d) (first_or_later p os o c)
  where
    by_case : (Contains os o → lookup (env_of names) o.key ≡ None) → (p ≡ o) ⊎ Contains os o → lookup (env_of names) o.key ≡ None
    by_case rest (inl e) = ap (λ (q : Output). lookup (env_of names) q.key) (sym e) ∙ h.0
    by_case rest (inr d) = rest d

abbrev IsLinked : List ℕ → List Output → Key → Linkage → Type 0
IsLinked step os key l = (o : Output) × Contains os o × (linkage_of step o ≡ l) × (o.key ≡ key)

linked_at : (step : List ℕ) (os : List Output) (key : Key) (l : Linkage) → linkage_at (map (linkage_of step) os) key ≡ Some l → IsLinked step os key l
linked_at step [] key l h = absurd (none-some _ h)
linked_at step (o ∷ os) key l h = by_test (λ e. linked_at step os key l e) (same_key o.key key) refl h
  where
    by_test : (linkage_at (map (linkage_of step) os) key ≡ Some l → IsLinked step os key l) → (b : Bool) → same_key o.key key ≡ b
        → cond b (Some (linkage_of step o)) (linkage_at (map (linkage_of step) os) key) ≡ Some l → IsLinked step (o ∷ os) key l
    by_test rest true s h = (o, first_is o os, same_Some _ _ h, key_same o.key key s)
    by_test rest false s h = let r = rest h in (r.0, later_is o os r.0 r.1, r.2, r.3)

ids_have : (os : List Output) (o : Output) → Contains os o → Contains (map out_id os) o.id
ids_have [] o c = absurd (none_is o c)
ids_have (p ∷ os) o c = by_case (λ d. ids_have os o d) (first_or_later p os o c)
  where
    by_case : (Contains os o → Contains (map out_id os) o.id) → (p ≡ o) ⊎ Contains os o → Contains (p.id ∷ map out_id os) o.id
    by_case rest (inl e) = subst (λ (q : Output). Contains (p.id ∷ map out_id os) q.id) e (first_is p.id (map out_id os))
    by_case rest (inr d) = later_is p.id (map out_id os) o.id (rest d)

-- ---- one more statement

shown_more : (names more : List Known) (known new : List Linked) (l : Linkage) → Shown names known l → Shown (names ++ more) (known ++ new) l
shown_more names more known new l h = (
  h.0,
  lookup_append names more l.key ∙ ap (λ o. or_else o (lookup (env_of more) l.key)) h.1,
  known_append known new l.link ∙ ap (λ o. or_else o (known_value new l.link)) h.2,
  h.3,
)

pub extended : (scope : Scope) (step : List ℕ) (os : List Output) (names more : List Known) (known : List Linked) (ns : List Named)
    → Shows scope names known → Given os more ns → New os names → ((o : List ℕ) → known_value known (link.Out step o) ≡ None)
    → Shows (scope ++ map (linkage_of step) os) (names ++ more) (known ++ linked step (map out_id os) ns)
extended scope step os names more known ns shows given new free key l h = by_value (linkage_at scope key) refl
  where
    split : linkage_at (scope ++ map (linkage_of step) os) key ≡ or_else (linkage_at scope key) (linkage_at (map (linkage_of step) os) key)
    split = linkage_append scope (map (linkage_of step) os) key

    fresh : (r : IsLinked step os key l) → Shown (names ++ more) (known ++ linked step (map out_id os) ns) (linkage_of step r.0)
    fresh r =
        let o = r.0 in
        let g = given_at os more ns given o r.1 in (
          g.0,
          lookup_append names more o.key ∙ ap (λ v. or_else v (lookup (env_of more) o.key)) (new_at os names new o r.1) ∙ g.1,
          known_append known (linked step (map out_id os) ns) (link.Out step o.id)
              ∙ ap (λ v. or_else v (known_value (linked step (map out_id os) ns) (link.Out step o.id))) (free o.id)
              ∙ linked_value step (map out_id os) ns o.id g.0 (ids_have os o r.1) g.2,
          g.3,
        )

    by_value : (o : Option Linkage) → linkage_at scope key ≡ o → Shown (names ++ more) (known ++ linked step (map out_id os) ns) l
    by_value (Some m) e =
        let same : m ≡ l = same_Some _ _ (sym (ap (λ o. or_else o (linkage_at (map (linkage_of step) os) key)) e) ∙ sym split ∙ h) in
        shown_more names more known (linked step (map out_id os) ns) l (subst (λ (z : Linkage). Shown names known z) same (shows key m e))
    by_value None e =
        let r = linked_at step os key l (sym (ap (λ o. or_else o (linkage_at (map (linkage_of step) os) key)) e) ∙ sym split ∙ h) in
        subst (λ (z : Linkage). Shown (names ++ more) (known ++ linked step (map out_id os) ns) z) r.2 (fresh r)

-- ---- clean flows

empty_append : {A : Type 0} (xs ys : List A) → is_empty (xs ++ ys) ≡ (is_empty xs && is_empty ys)
empty_append [] ys = refl
empty_append (x ∷ xs) ys = refl

pub clean_together : (f h : Flowing) → is_clean (together f h) ≡ (is_clean f && is_clean h)
clean_together f h =
    ap (λ b. b && is_empty (f.waits ++ h.waits)) (empty_append f.faults h.faults)
    ∙ ap (λ b. (is_empty f.faults && is_empty h.faults) && b) (empty_append f.waits h.waits)
    ∙ mixed (is_empty f.faults) (is_empty h.faults) (is_empty f.waits) (is_empty h.waits)
  where
    mixed : (a b c d : Bool) → ((a && b) && (c && d)) ≡ ((a && c) && (b && d))
    mixed true true c d = refl
    mixed true false true d = refl
    mixed true false false d = refl
    mixed false b c d = refl

pub jobs_append : (rs qs : List Request) → map job_of (rs ++ qs) ≡ map job_of rs ++ map job_of qs
jobs_append [] qs = refl
jobs_append (r ∷ rs) qs = ap (λ js. job_of r ∷ js) (jobs_append rs qs)

-- ---- names that are new

new_items_more : (ks : List Key) (os : List Output) (names more : List Known) → ((key : Key) → has_key os key ≡ false → lookup (env_of more) key ≡ None) → NoItems os ks → NewItems ks names → NewItems ks (names ++ more)
new_items_more [] os names more own apart new = tt
new_items_more (k ∷ ks) os names more own apart new = (
  lookup_append names more k ∙ ap (λ o. or_else o (lookup (env_of more) k)) new.0 ∙ own k apart.0,
  new_items_more ks os names more own apart.1 new.1,
)

new_more : (ps : List Output) (os : List Output) (names more : List Known) → ((key : Key) → has_key os key ≡ false → lookup (env_of more) key ≡ None) → NoKeys os ps → New ps names → New ps (names ++ more)
new_more [] os names more own apart new = tt
new_more (p ∷ ps) os names more own apart new = (
  lookup_append names more p.key ∙ ap (λ o. or_else o (lookup (env_of more) p.key)) new.0 ∙ own p.key apart.0,
  new_more ps os names more own apart.1 new.1,
)

pub all_new_more : (ds : List Draft) (os : List Output) (names more : List Known) → ((key : Key) → has_key os key ≡ false → lookup (env_of more) key ≡ None) → KeysDiffer os ds → AllNew ds names → AllNew ds (names ++ more)
all_new_more [] os names more own apart new = tt
all_new_more (d ∷ ds) os names more own apart new = (
  (new_more d.outs os names more own apart.0.0 new.0.0, new_items_more d.items os names more own apart.0.1 new.0.1),
  all_new_more ds os names more own apart.1 new.1,
)

-- ---- in turn

module _ (g : Ground) where
  free_later : (place : List Segment) (s : CwlStep Running) (ss : List (CwlStep Running)) (known : List Linked) → Apart is_of (s ∷ ss) → Free (s ∷ ss) known → Free ss (known ++ step_gives place known s)
  free_later place s ss known apart free l o =
      known_append known (step_gives place known s) l
      ∙ ap (λ v. or_else v (known_value (step_gives place known s) l)) (free l (or_right (is_of s l) (owned is_of ss l) o))
      ∙ by_test (is_of s l) refl
    where
      by_test : (b : Bool) → is_of s l ≡ b → known_value (step_gives place known s) l ≡ None
      by_test true e = absurd (false≢true (sym (apart.0 l e) ∙ o))
      by_test false e = linked_none s s.outs (given_outputs (step_means place known s).outputs) l e

  both_true : (a b c d : Bool) → a ≡ c → b ≡ d → (a && b) ≡ (c && d)
  both_true a b c d e h = ap (λ x. x && b) e ∙ ap (λ x. c && x) h

  pub bodies_agree :
      (structs : Structs) (seen after : List Bound) (fs : List Runner) (ds : List Draft) (scope : Scope) (s : Sight) (known : List Linked) → AllSimulate g structs seen scope fs ds after → AllDiffer ds
      → Apart is_of (all_running g (body_steps ds scope)) → Free (all_running g (body_steps ds scope)) known → AllNew ds s.names → Fit structs seen s.names → Shows scope s.names known
      → BodyAgrees g ds scope s.place s.names known (in_turn fs s)
  bodies_agree structs seen after [] [] scope s known all differ apart free new fit shows =
      record {
        clean = refl;
        jobs = λ h. refl;
        shows = λ h. subst (λ (z : Scope). Shows z (s.names ++ []) known) (sym (append-nil scope)) (subst (λ (z : List Known). Shows scope z known) (sym (append-nil s.names)) shows);
      }
  bodies_agree structs seen after [] (d ∷ ds) scope s known all differ apart free new fit shows = absurd all
  bodies_agree structs seen after (f ∷ fs) [] scope s known all differ apart free new fit shows = absurd all
  bodies_agree structs seen after (f ∷ fs) (d ∷ ds) scope s known all differ apart free new fit shows =
      by_clean (is_clean (f s)) refl
      (λ shows. bodies_agree structs (seen ++ all.0) after fs ds (scope ++ links_of d) (seeing s (f s)) (known ++ step_gives s.place known (as_running g (step_of d scope))) all.3 differ.1 apart.1
      (free_later s.place (as_running g (step_of d scope)) (all_running g (body_steps ds (scope ++ links_of d))) known apart free)
      (all_new_more ds d.outs s.names (f s).names (all.2.own s) differ.0 new.1) (all.1.fit s fit) shows)
    where
      step : CwlStep Running
      step = as_running g (step_of d scope)

      later : List (CwlStep Running)
      later = all_running g (body_steps ds (scope ++ links_of d))

      first : Agrees d.outs (f s) (step_means s.place known step)
      first = all.2.agrees s known fit shows new.0.0 new.0.1

      then : List Linked
      then = known ++ step_gives s.place known step

      free_own : (o : List ℕ) → known_value known (link.Out d.id o) ≡ None
      free_own o = free (link.Out d.id o) (or_left (bytes_eq d.id d.id) (owned is_of later (link.Out d.id o)) ((bytes_eq-Decides d.id d.id).1 refl))

      Rest : Type 0
      Rest = BodyAgrees g ds (scope ++ links_of d) s.place (s.names ++ (f s).names) then (in_turn fs (seeing s (f s)))

      by_clean : (b : Bool) → is_clean (f s) ≡ b
          → (Shows (scope ++ links_of d) (s.names ++ (f s).names) then → Rest)
          → BodyAgrees g (d ∷ ds) scope s.place s.names known (together (f s) (in_turn fs (seeing s (f s))))
      by_clean true e rest =
          let r = rest (extended scope d.id d.outs s.names (f s).names known (given_outputs (step_means s.place known step).outputs) shows (first.given e) new.0.0 free_own) in
          record {
            clean =
                clean_together (f s) (in_turn fs (seeing s (f s)))
                ∙ both_true (is_clean (f s)) (is_clean (in_turn fs (seeing s (f s)))) (is_complete (step_means s.place known step)) (are_complete (pass_means s.place later then)) first.clean r.clean;
            jobs = λ h.
                let p = and_parts (is_clean (f s)) (is_clean (in_turn fs (seeing s (f s)))) (sym (clean_together (f s) (in_turn fs (seeing s (f s)))) ∙ h) in
                jobs_append (f s).jobs (in_turn fs (seeing s (f s))).jobs
                ∙ ap (λ js. js ++ map job_of (in_turn fs (seeing s (f s))).jobs) (first.jobs e)
                ∙ ap (λ js. (step_means s.place known step).jobs ++ js) (r.jobs p.1);
            shows = λ h.
                let p = and_parts (is_clean (f s)) (is_clean (in_turn fs (seeing s (f s)))) (sym (clean_together (f s) (in_turn fs (seeing s (f s)))) ∙ h) in
                subst (λ (z : Scope). Shows z (s.names ++ ((f s).names ++ (in_turn fs (seeing s (f s))).names)) (one_pass (step_gives s.place) later then)) (append_assoc scope (links_of d) (body_links ds))
                (subst (λ (z : List Known). Shows ((scope ++ links_of d) ++ body_links ds) z (one_pass (step_gives s.place) later then)) (append_assoc s.names (f s).names (in_turn fs (seeing s (f s))).names) (r.shows p.1));
          }
      by_clean false e rest =
          let stops : is_clean (together (f s) (in_turn fs (seeing s (f s)))) ≡ false =
          clean_together (f s) (in_turn fs (seeing s (f s))) ∙ ap (λ b. b && is_clean (in_turn fs (seeing s (f s)))) e in
          let stuck : is_complete (step_means s.place known step) ≡ false = sym first.clean ∙ e in
          record {
            clean = stops ∙ sym (ap (λ b. b && are_complete (pass_means s.place later then)) stuck);
            jobs = λ h. absurd (false≢true (sym stops ∙ h));
            shows = λ h. absurd (false≢true (sym stops ∙ h));
          }

-- What statements give in turn fits.
pub turn_fit : (g : Ground) (structs : Structs) (seen after : List Bound) (fs : List Runner) (ds : List Draft) (scope : Scope) (s : Sight) → AllSimulate g structs seen scope fs ds after → Fit structs seen s.names
    → Fit structs after (s.names ++ (in_turn fs s).names)
turn_fit g structs seen after [] [] scope s all fit = subst (λ (bs : List Bound). Fit structs bs (s.names ++ [])) all (subst (Fit structs seen) (sym (append-nil s.names)) fit)
turn_fit g structs seen after [] (d ∷ ds) scope s all fit = absurd all
turn_fit g structs seen after (f ∷ fs) [] scope s all fit = absurd all
turn_fit g structs seen after (f ∷ fs) (d ∷ ds) scope s all fit =
    subst (Fit structs after) (append_assoc s.names (f s).names (in_turn fs (seeing s (f s))).names)
    (turn_fit g structs (seen ++ all.0) after fs ds (scope ++ links_of d) (seeing s (f s)) all.3 (all.1.fit s fit))
