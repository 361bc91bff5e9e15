-- The plan of a run, from one call to the next.
use Rattle.std.proofs.Common.{◌≡◌, ◌≤◌, ◌+◌, ℕ, Bool, true, false, List, [], ◌∷◌, ◌++◌, Some, None, Result, Ok, Err, IfOk, OnOk, IsSome, arith, sym, ap, ◌∙◌, subst, refl}
use Rattle.std.proofs.lemmas.Bool.{false≢true, false_from_ne_true}
use Rattle.wdl_base.specs.declared.entry.Entry.{Entry}
use Rattle.wdl_base.specs.declared.error.NoMemory.{NoMemory}
use Rattle.wdl_base.specs.declared.request.Request.{Request}
use Rattle.wdl_value.specs.declared.env.Bind.{Bind}
use Rattle.wdl_value.specs.Tables.{Row, table}
use Rattle.wdl_typed.specs.declared.checked.Checked.{Checked}
use Rattle.wdl_typed.specs.Flow.{Flowing, too_many}
use Rattle.scatter_plan.specs.declared.fault.Unplanned.{Unplanned}
use Rattle.scatter_plan.specs.declared.fault.Unplanned.TheVariants as unplanned
use Rattle.scatter_plan.specs.declared.plan.Plan.{Plan}
use Rattle.scatter_plan.specs.Calls.{GivesBack, IsNew, IsOfSame, IsRenewed}
use Rattle.scatter_plan.specs.Plans.{IsMade, IsTold, inputs_in, site_in}
use Rattle.ready_core.specs.declared.course.Begun.{Begun}
use Rattle.ready_core.specs.declared.course.Course.{Course}
use Rattle.ready_core.specs.declared.course.Course.TheVariants.{Planned, Past}
use Rattle.ready_core.specs.declared.turn.Turn.{Turn}
use Rattle.ready_core.specs.Cores.{IsPaidBy, Origin, flow_at, origin_in}
use Rattle.ready_core.specs.Courses.{IsAwaited, IsFurther, IsOnCourse, IsPaid, IsPaidUp, is_stale, kept, origin_of, plan_of, planned_by}
use Rattle.ready_core.specs.Turns.{IsFirst, IsNext, IsPastLimits}
use Rattle.ready_core.proofs.Planned.{origin_same}
use Rattle.ready_core.proofs.Runs.{grow, plan_flow}
use Rattle.ready_core.proofs.Turning.{many_after, many_closed, past_next, past_sight}

-- ---- a plan of the same run

pub same_through : (a b c : Plan) → IsOfSame a b → IsOfSame b c → IsOfSame a c
same_through a b c x y = record { checked = y.checked ∙ x.checked; inputs = y.inputs ∙ x.inputs; site = y.site ∙ x.site }

pub awaited_moved : (a b : Plan) (j : List Entry) (r : Request) → IsOfSame a b → IsAwaited (flow_at (origin_in a) j) j r → IsAwaited (flow_at (origin_in b) j) j r
awaited_moved a b j r same h = subst (λ (o : Origin). IsAwaited (flow_at o j) j r) (sym (origin_same a b same)) h

next_moved : (a b : Plan) (j : List Entry) (e : Entry) (t : Turn) → IsOfSame a b → IsNext (origin_in b) j e t → IsNext (origin_in a) j e t
next_moved a b j e t same h = subst (λ (o : Origin). IsNext o j e t) (origin_same a b same) h

pub nexts_moved : (a b : Plan) (j : List Entry) (e : Entry) (r : Result Turn NoMemory) → IsOfSame a b → IfOk r (IsNext (origin_in b) j e) → IfOk r (IsNext (origin_in a) j e)
nexts_moved a b j e (Ok t) same h = next_moved a b j e t same h
nexts_moved a b j e (Err x) same h = tt

-- ---- what is paid for

pub not_caught : (stale : Bool) (p : Plan) (rows : List Row) (old : ℕ) → stale ≡ false → (stale ≡ false → IsTold p rows) → IsFurther stale rows rows p old old p
not_caught stale p rows old h told = record { once = λ s was. (was, omega arith); all = (told h, omega arith) }

caught : (stale : Bool) (a b : Plan) (rows : List Row) (old new : ℕ) → stale ≡ true → IsRenewed rows old new b → IsFurther stale rows rows a old new b
caught stale a b rows old new h renewed = record { once = λ s was. absurd (false≢true (sym s ∙ h)); all = (renewed.told, renewed.paid) }

pub caughts : {A : Type 0} (stale : Bool) (a b : Plan) (rows : List Row) (old new : ℕ) (r : Result A NoMemory) → stale ≡ true → OnOk r (IsRenewed rows old new b) → OnOk r (IsFurther stale rows rows a old new b)
caughts stale a b rows old new (Ok x) h renewed = caught stale a b rows old new h renewed
caughts stale a b rows old new (Err x) h renewed = tt

further : (stale : Bool) (rows longer : List Row) (a m b : Plan) (old mid new : ℕ) → IsFurther stale rows rows a old mid m → ((was : IsTold m rows) → (told : IsTold b longer) × (new + was.paid ≤ mid + told.paid))
    → IsFurther stale rows longer a old new b
further stale rows longer a m b old mid new h k =
    record {
      once = λ s was. let x = h.once s was in let y = k x.0 in (y.0, omega (arith, x.1, y.1));
      all = let x = h.all in let y = k x.0 in (y.0, omega (arith, x.1, y.1));
    }

pub all_further : (stale : Bool) (rows longer : List Row) (a m b : Plan) (old mid new : ℕ) (r : Result Turn NoMemory) → IsFurther stale rows rows a old mid m
    → ((was : IsTold m rows) → IfOk r (λ t. t.many ≡ false → (told : IsTold b longer) × (new + was.paid ≤ mid + told.paid))) → IfOk r (λ t. t.many ≡ false → IsFurther stale rows longer a old new b)
all_further stale rows longer a m b old mid new (Ok t) h k = λ few. further stale rows longer a m b old mid new h (λ was. k was few)
all_further stale rows longer a m b old mid new (Err x) h k = tt

-- ---- a run that begins

abbrev of_these : Checked → List Bind → List ℕ → Origin
of_these c given site = record { checked = c; inputs = given; site = site }

new_origin : (c : Checked) (given : List Bind) (site : List ℕ) (old new : ℕ) (p : Plan) → IsNew c given site old new p → origin_in p ≡ of_these c given site
new_origin c given site old new p h =
    ap (λ (x : Checked). of_these x (inputs_in p) (site_in p)) h.checked ∙ ap (λ (x : List Bind). of_these c x (site_in p)) h.inputs ∙ ap (of_these c given) h.site

-- what a run that began keeps
pub record Begins (c : Checked) (given : List Bind) (site : List ℕ) (old new : ℕ) (r : Result Begun NoMemory) : Type 0 where
  pub origin : IfOk r (λ b. origin_of b.course ≡ of_these c given site)
  pub course : IfOk r (λ b. IsOnCourse b.course b.turn.many [])
  pub first : IfOk r (λ b. IsFirst (origin_of b.course) b.turn)
  pub paid : IfOk r (λ b. IsPaidUp old new b.course b.turn.many [])

pub begins : (c : Checked) (given : List Bind) (site : List ℕ) (p : Plan) (old new : ℕ) (r : Result Begun NoMemory) → IsNew c given site old new p → IfOk r (λ b. b.course ≡ planned_by p)
    → IfOk r (λ b. IsFirst (origin_in p) b.turn) → Begins c given site old new r
begins c given site p old new (Ok b) h is first =
    record {
      origin = ap origin_of is ∙ new_origin c given site old new p h;
      course = subst (λ (s : Course). IsOnCourse s b.turn.many []) (sym is) (h.made, λ few stale. h.told);
      first = subst (λ (s : Course). IsFirst (origin_of s) b.turn) (sym is) first;
      paid = subst (λ (s : Course). IsPaidUp old new s b.turn.many []) (sym is) (λ few stale. (h.told, h.paid));
    }
begins c given site p old new (Err e) h is first = record { origin = tt; course = tt; first = tt; paid = tt }

pub past_first : (o : Origin) (t : Turn) → too_many (flow_at o []) ≡ true → IsPastLimits t → IsFirst o t
past_first o t many past =
    record {
      sight = past_sight o.checked (flow_at o []) t many past;
      ready = λ h. absurd (false≢true (sym h ∙ many_closed (flow_at o []) many));
    }

-- What a refused plan gives back is of a flow past its limits.
pub given_back : (c : Checked) (given : List Bind) (site : List ℕ) (u : Unplanned) (d : Checked) (inputs : List Bind) (root : List ℕ) → u ≡ unplanned.TooMany d inputs root → GivesBack c given site u
    → too_many (flow_at (of_these d inputs root) []) ≡ true
given_back c given site u d inputs root e h =
    let k = subst (GivesBack c given site) e h in
    ap (λ (x : Checked). too_many (flow_at (of_these x inputs root) [])) k.0
    ∙ ap (λ (x : List Bind). too_many (flow_at (of_these c x root) [])) k.1
    ∙ ap (λ (x : List ℕ). too_many (flow_at (of_these c given x) [])) k.2
    ∙ sym (ap (λ (f : List Entry → Flowing). too_many (f [])) (plan_flow (of_these c given site)))
    ∙ k.3

-- ---- an answer that is told

-- what a plan that was told of an answer keeps
pub record Tells (a : Plan) (stale : Bool) (b : Plan) (j : List Entry) (e : Entry) (old new : ℕ) (r : Result Turn NoMemory) : Type 0 where
  pub course : IfOk r (λ t. IsOnCourse (kept (Planned b true)) t.many (j ++ e ∷ []))
  pub paid : IfOk r (λ t. IsPaid old new (Planned a stale) false j (kept (Planned b true)) t.many (j ++ e ∷ []))

pub tells : (a : Plan) (stale : Bool) (b : Plan) (j : List Entry) (e : Entry) (old new : ℕ) (r : Result Turn NoMemory) → IsMade b
    → IfOk r (λ t. t.many ≡ false → IsFurther stale (table j) (table (j ++ e ∷ [])) a old new b) → Tells a stale b j e old new r
tells a stale b j e old new (Ok t) made h =
    record {
      course = (made, λ few fresh. (h few).all.0);
      paid =
          record {
            once = λ fresh start up few again. let u = up refl fresh in let k = (h few).once fresh u.0 in (k.0, omega (arith, u.1, k.1));
            all = λ few again. (h few).all;
          };
    }
tells a stale b j e old new (Err x) made h = record { course = tt; paid = tt }

-- the same, of a course that is that plan
pub paid_for : (s : Course) (many : Bool) (a : Plan) (stale : Bool) (b : Plan) (j : List Entry) (e : Entry) (old new : ℕ) (r : Result Turn NoMemory) → s ≡ Planned a stale → many ≡ false → IsMade b
    → IfOk r (λ t. t.many ≡ false → IsFurther stale (table j) (table (j ++ e ∷ [])) a old new b) → IfOk r (λ t. IsPaid old new s many j (kept (Planned b true)) t.many (j ++ e ∷ []))
paid_for s many a stale b j e old new r is few made h =
    subst (λ (x : Course). IfOk r (λ t. IsPaid old new x many j (kept (Planned b true)) t.many (j ++ e ∷ []))) (sym is)
    (subst (λ (x : Bool). IfOk r (λ t. IsPaid old new (Planned a stale) x j (kept (Planned b true)) t.many (j ++ e ∷ []))) (sym few) (tells a stale b j e old new r made h).paid)

-- Within the limits a plan that is not stale was told of the journal.
pub on_told : (s : Course) (many : Bool) (p : Plan) (stale : Bool) (j : List Entry) → s ≡ Planned p stale → many ≡ false → IsOnCourse s many j → stale ≡ false → IsTold p (table j)
on_told s many p stale j is few on fresh = (subst (λ (x : Course). IsOnCourse x many j) is on).1 few fresh

pub stale_on : (p : Plan) (many : Bool) (j : List Entry) → IsMade p → IsOnCourse (Planned p true) many j
stale_on p many j made = (made, λ few fresh. absurd (false≢true (sym fresh)))

-- ---- past the limits

many_kept : (s : Course) (a many : Bool) (j k : List Entry) → IsOnCourse s a j → many ≡ true → IsOnCourse (kept s) many k
many_kept (Planned p stale) a many j k on h = (on.0, λ few fresh. absurd (false≢true (sym few ∙ h)))
many_kept (Past o) a many j k on h = h

many_paid : (s : Course) (start now : ℕ) (many : Bool) (j : List Entry) → many ≡ true → IsPaidUp start now (kept s) many j
many_paid (Planned p stale) start now many j h = λ few fresh. absurd (false≢true (sym few ∙ h))
many_paid (Past o) start now many j h = h

-- what an answer adds where the flow is past its limits
pub record Passes (s : Course) (many : Bool) (j : List Entry) (e : Entry) (old new : ℕ) (t : Turn) : Type 0 where
  pub course : IsOnCourse (kept s) t.many (j ++ e ∷ [])
  pub next : IsNext (origin_of s) j e t
  pub paid : IsPaid old new s many j (kept s) t.many (j ++ e ∷ [])

pub passes : (s : Course) (many : Bool) (j : List Entry) (e : Entry) (old new : ℕ) (t : Turn) → IsSome (origin_of s).checked.main → IsOnCourse s many j → too_many (flow_at (origin_of s) j) ≡ true → IsPastLimits t
    → Passes s many j e old new t
passes s many j e old new t main on past_now past =
    record {
      course = many_kept s many t.many j (j ++ e ∷ []) on past.many;
      next = past_next (origin_of s) j e t (many_after (flow_at (origin_of s) j) (flow_at (origin_of s) (j ++ e ∷ [])) (grow (origin_of s) main j (e ∷ [])) past_now) past;
      paid = record { once = λ fresh start up. many_paid s start new t.many (j ++ e ∷ []) past.many; all = many_paid s old new t.many (j ++ e ∷ []) past.many };
    }

-- ---- what is paid for

plan_is : (p : Plan) (stale : Bool) → stale ≡ false → plan_of (Planned p stale) ≡ Some p
plan_is p stale fresh = ap (λ (b : Bool). plan_of (Planned p b)) fresh

same_some : {x y : Plan} → Some x ≡ Some y → x ≡ y
same_some e = cc

no_payer : {x : Plan} → None ≡ Some x → ⊥
no_payer e = cc

-- what the plan of a course that is not stale paid for
pub paid_by : (s : Course) (many : Bool) (j : List Entry) (start now : ℕ) → IsPaidUp start now s many j → is_stale s ≡ false → many ≡ false → IsPaidBy start now (origin_of s) j (plan_of s)
paid_by (Planned p stale) many j start now up fresh few =
    let u = up few fresh in
    record { within = omega (arith, u.1, u.0.within); payer = p; is_plan = plan_is p stale fresh; of = refl; told = u.0; paid = u.1 }
paid_by (Past o) many j start now up fresh few = absurd (false≢true (sym few ∙ up))

-- A course whose plan pays is not stale.
payer_fresh : (s : Course) (j : List Entry) (start now : ℕ) → IsPaidBy start now (origin_of s) j (plan_of s) → is_stale s ≡ false
payer_fresh (Planned p true) j start now by = absurd (no_payer by.is_plan)
payer_fresh (Planned p false) j start now by = refl
payer_fresh (Past o) j start now by = refl

paid_up : (s : Course) (many : Bool) (j : List Entry) (start now : ℕ) → IsPaidBy start now (origin_of s) j (plan_of s) → IsPaidUp start now s many j
paid_up (Planned p stale) many j start now by =
    λ few fresh. subst (λ (q : Plan). (told : IsTold q (table j)) × (now ≤ start + told.paid)) (sym (same_some (sym (plan_is p stale fresh) ∙ by.is_plan))) (by.told, by.paid)
paid_up (Past o) many j start now by = absurd (no_payer by.is_plan)

-- An answer leaves all paid for that was so before.
paid_on : (a b : Course) (many more : Bool) (j longer : List Entry) (start old new : ℕ) → IsPaid old new a many j b more longer → is_stale b ≡ false → more ≡ false
    → IsPaidBy start old (origin_of a) j (plan_of a) → IsPaidBy start new (origin_of b) longer (plan_of b)
paid_on a b many more j longer start old new paid fresh few by =
    paid_by b more longer start new (paid.once (payer_fresh a j start old by) start (paid_up a many j start old by)) fresh few

kept_fresh : (s : Course) → is_stale (kept s) ≡ false
kept_fresh (Planned plan stale) = refl
kept_fresh (Past o) = refl

-- the same, where the kept course is x, of the flow over k
pub paid_then : (a s x : Course) (many more : Bool) (j longer k : List Entry) (start old new : ℕ) → IsPaid old new a many j (kept s) more longer → more ≡ too_many (flow_at (origin_of a) longer)
    → (too_many (flow_at (origin_of a) j) ≡ true → too_many (flow_at (origin_of a) longer) ≡ true) → origin_of (kept s) ≡ origin_of a → k ≡ longer → x ≡ kept s
    → (too_many (flow_at (origin_of a) j) ≡ false → IsPaidBy start old (origin_of a) j (plan_of a)) → too_many (flow_at (origin_of x) k) ≡ false → IsPaidBy start new (origin_of x) k (plan_of x)
paid_then a s x many more j longer k start old new paid is stays same e y was few =
    let few_then : too_many (flow_at (origin_of a) longer) ≡ false =
    ap (λ (o : Origin). too_many (flow_at o longer)) (sym same) ∙ ap (λ (c : Course). too_many (flow_at (origin_of c) longer)) (sym y) ∙ ap (λ (l : List Entry). too_many (flow_at (origin_of x) l)) (sym e) ∙ few in
    let few_before : too_many (flow_at (origin_of a) j) ≡ false = false_from_ne_true (too_many (flow_at (origin_of a) j)) (λ h. false≢true (sym few_then ∙ stays h)) in
    subst (λ (l : List Entry). IsPaidBy start new (origin_of x) l (plan_of x)) (sym e)
    (subst (λ (c : Course). IsPaidBy start new (origin_of c) longer (plan_of c)) (sym y)
    (paid_on a (kept s) many more j longer start old new paid (kept_fresh s) (is ∙ few_then) (was few_before)))

pub paid_first : (s : Course) (many : Bool) (start now : ℕ) (k : List Entry) → IsPaidUp start now s many [] → many ≡ too_many (flow_at (origin_of s) []) → is_stale s ≡ false → k ≡ []
    → too_many (flow_at (origin_of s) k) ≡ false → IsPaidBy start now (origin_of s) k (plan_of s)
paid_first s many start now k up is fresh e few =
    subst (λ (l : List Entry). IsPaidBy start now (origin_of s) l (plan_of s)) (sym e)
    (paid_by s many [] start now up fresh (is ∙ ap (λ (l : List Entry). too_many (flow_at (origin_of s) l)) (sym e) ∙ few))
