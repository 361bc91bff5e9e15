-- One step at a time: what a move of a net keeps, and what it makes of its own step. A move takes one step, or brings one answer.
use Rattle.std.proofs.Common.{inl, inr}
use Rattle.std.specs.Prelude.{◌≡◌, ℕ, ◌+◌, nat_eq, if◌then◌else◌, true, List, [], ◌∷◌, length}
use Rattle.std.specs.List.{Contains}
use Rattle.wdl_value.specs.Tables.{Row, answer_at}
use Rattle.wdl_typed.specs.declared.expr.TExpr.{TExpr}
use Rattle.wdl_typed.specs.declared.flow.Statement.{Statement}
use Rattle.wdl_typed.specs.declared.flow.Statement.TheVariants as stmt
use Rattle.wdl_typed.specs.declared.flow.TCall.{TCall}
use Rattle.wdl_typed.specs.declared.flow.TIf.{TIf}
use Rattle.wdl_typed.specs.declared.flow.TScatter.{TScatter}
use Rattle.wdl_typed.specs.declared.task.TDecl.{TDecl}
use Rattle.wdl_typed.specs.Bodies.{Library}
use Rattle.wdl_typed.specs.Flow.{call_of, flow}
use Rattle.flow_laws.specs.Laws.{run_with}
use Rattle.net_laws.specs.Net.{Given, Scope, Work, both_works, no_work}
use Rattle.net_laws.specs.Planned.{call_names, counted}
use Rattle.net_laws.specs.Rules.{Follows}
use Rattle.net_laws.specs.Growing.{CallNeeded, Copied, Declared, Ending, EndsAt, Form, Gathered, Growing, HasCells, IsDone, IsLeft, IsNamed, IsOutside, IsPlain, IsWaiting, Keeps, KeepsCells, NamesNeeded, Owns, Rule, State, absent_input, are_set, copies, declares, default_input, does, each_scatter, ends, failed_if, failed_scatter, false_if, flow_whole, gathers, given_input, is_set, item_next, left_call, left_decl, left_if, left_scatter, next, no_input, no_item, no_output, none_left, one, only, output_next, run_call, told_call, told_decl, true_if}
use Rattle.net_laws.specs.Askers.{Asker}
use Rattle.net_laws.specs.Cost.{TaskCost}
use Rattle.net_laws.specs.Roots.{IsCallable}
use Rattle.net_laws.specs.Works.{asked_count, evaluated, told_count, told_work, work_of}

module _ (lib : Library) (site : List ℕ) (rows later : List Row) (desc more : ℕ → Rule → Type 0) (a b : State) where
  abbrev pub Old : ℕ → Form → Type 0
  Old depth f = Growing lib site rows desc a depth f

  abbrev pub New : ℕ → Form → Type 0
  New depth f = Growing lib site later more b depth f

  abbrev OldLeft : ℕ → Rule → Type 0
  OldLeft u r = IsLeft lib site rows desc a u r

  abbrev OldDone : ℕ → Rule → Type 0
  OldDone u r = IsDone lib site rows desc a u r

  -- what every move keeps: cells that are set, and steps that were taken
  pub record Grows : Type 0 where
    pub cells : (c : ℕ) → is_set a c ≡ true → b.cells c ≡ a.cells c
    pub done : (u : ℕ) (r : Rule) → OldDone u r → IsDone lib site later more b u r
    pub needs : (u : ℕ) (r : Rule) → OldDone u r → b.needs u ≡ a.needs u

  -- what a move keeps of each step but its own
  pub record Untouched (u : ℕ) : Type 0 where
    pub owner : (c : ℕ) → Owns a u c → Owns b u c
    pub cells : (c : ℕ) → Owns a u c → b.cells c ≡ a.cells c
    pub left : (r : Rule) → OldLeft u r → IsLeft lib site later more b u r
    pub needs : (r : Rule) → OldLeft u r → b.needs u ≡ a.needs u

  -- Each of these calls but that of the step has the answers that it had.
  abbrev pub OthersAnswered : ℕ → List Asker → Type 0
  OthersAnswered t qs = (q : Asker) → Contains qs q → (q.step ≡ t → ⊥) → (attempt : ℕ) → answer_at rows q.place attempt ≡ answer_at later q.place attempt

  -- a call that was asked, with the attempts so far
  pub record AskedAt (depth : ℕ) (x : TCall) (s : Scope) (g : Given) (d : ℕ) (w : Work) (u : ℕ) : Type 0 where
    pub done : OldDone u (does (stmt.Call x) s g d)
    pub needed : CallNeeded a u s x
    pub set : are_set a (a.needs u) ≡ true
    pub named : IsNamed (call_names lib x) g
    pub ends_at : EndsAt x g d
    pub own : HasCells lib site rows desc a u g d
    pub plain : IsPlain lib site rows desc a x needed.slots
    pub follows : Follows a.cells s.place needed.slots needed.marks (call_of (run_with lib site rows) (flow (run_with lib site rows) depth) (call_names lib x) x) g w

  -- what a move makes of its step: of a statement, a default or an output, a joint, and of a call that was asked
  pub record Turn (t : ℕ) : Type 0 where
    pub decl : (depth : ℕ) (x : TDecl) (s : Scope) (c : ℕ) → OldLeft t (does (stmt.Decl x) s (only x.name c) c) → NamesNeeded a t s x.value → Keeps a t c → New depth (one (stmt.Decl x) s (only x.name c) c)
    pub call : (depth : ℕ) (x : TCall) (s : Scope) (g : Given) (d : ℕ) → OldLeft t (does (stmt.Call x) s g d) → CallNeeded a t s x → IsNamed (call_names lib x) g → EndsAt x g d → KeepsCells lib site rows desc a t g d
        → IsCallable lib depth (one (stmt.Call x) s g d) → New depth (one (stmt.Call x) s g d)
    pub scatter : (depth : ℕ) (x : TScatter Statement) (s : Scope) (g : Given) (d : ℕ) → OldLeft t (does (stmt.Scatter x) s g d) → NamesNeeded a t s x.over → IsOutside lib site rows desc a x.body g
        → KeepsCells lib site rows desc a t g d → New depth (one (stmt.Scatter x) s g d)
    pub condition : (depth : ℕ) (x : TIf Statement) (s : Scope) (g : Given) (d : ℕ) → OldLeft t (does (stmt.If x) s g d) → NamesNeeded a t s x.cond → IsOutside lib site rows desc a x.body g
        → KeepsCells lib site rows desc a t g d → New depth (one (stmt.If x) s g d)
    pub declared : (name : List ℕ) (e : TExpr) (s : Scope) (c : ℕ) → OldLeft t (declares name e s c) → NamesNeeded a t s e → Keeps a t c → Declared lib site later more b name e s c
    pub gathered : (parts : List ℕ) (c : ℕ) → IsWaiting lib site rows desc a (gathers parts c) parts c t → Gathered lib site later more b parts c
    pub ending : (parts : List ℕ) (c : ℕ) → IsWaiting lib site rows desc a (ends parts c) parts c t → Ending lib site later more b parts c
    pub copied : (from c : ℕ) → IsWaiting lib site rows desc a (copies from c) (from ∷ []) c t → Copied lib site later more b from c
    pub told : (u : ℕ) → u ≡ t → (depth : ℕ) (x : TCall) (s : Scope) (g : Given) (d : ℕ) (w : Work) → AskedAt depth x s g d w u → New depth (one (stmt.Call x) s g d)
    pub only_call : (r : Rule) → OldDone t r → (x : TCall) × (s : Scope) × (g : Given) × (d : ℕ) × (r ≡ does (stmt.Call x) s g d)

-- It has statuses of success for each request, one for one.
abbrev pub IsEven : Work → Type 0
IsEven w = length w.codes ≡ length w.jobs

-- a number for each work, which adds up: how often a fault is among the faults, or a request with its statuses among the jobs, or the
-- count
pub record IsWeight (weight : Work → ℕ) : Type 0 where
  pub nothing : weight no_work ≡ 0
  pub both : (v w : Work) → IsEven v → weight (both_works v w) ≡ weight v + weight w
  pub more : (n : ℕ) (w : Work) → weight (counted n w) ≡ weight (counted n no_work) + weight w

abbrev pub hit : ℕ → ℕ → ℕ → ℕ
hit t k u = if nat_eq u t then k else 0

module _ (lib : Library) (site : List ℕ) (rows : List Row) (desc : ℕ → Rule → Type 0) (st : State) (t k : ℕ) where
  abbrev pub declared_at : (name : List ℕ) (e : TExpr) (s : Scope) (c : ℕ) → Declared lib site rows desc st name e s c → ℕ
  declared_at name e s c (u, n, inl p) = hit t k u
  declared_at name e s c (u, n, inr p) = 0

  -- the number once for each statement, default, output and asked call of the step
  abbrev pub at_step : {depth : ℕ} {f : Form} → Growing lib site rows desc st depth f → ℕ
  at_step (none_left depth s) = 0
  at_step (next depth x xs s g h d ds p q) = at_step p + at_step q
  at_step (left_decl depth x s c u left n keeps) = hit t k u
  at_step (left_call depth x s g d u left n is at keeps) = hit t k u
  at_step (left_scatter depth x s g d u left n outside keeps) = hit t k u
  at_step (left_if depth x s g d u left n outside keeps) = hit t k u
  at_step (told_decl depth x s c u w taken n set own follows) = 0
  at_step (told_call depth x s g d u w taken n set is at own plain follows) = hit t k u
  at_step (run_call depth x s g h d u ds taken n set j is f found args met names at distinct p copied ended) = at_step p
  at_step (failed_scatter depth x s g d u c taken n set e outside keeps) = 0
  at_step (each_scatter depth x s g d u y qs taken n set e outside p names calls ended) = at_step p
  at_step (failed_if depth x s g d u c taken n set e outside keeps) = 0
  at_step (false_if depth x s g d u y taken n set e off outside own same done) = 0
  at_step (true_if depth x s g h d u ds y taken n set e on outside p names calls ended) = at_step p
  at_step (no_item depth xs s j item i) = 0
  at_step (item_next depth xs s j item i cell y ys g ds qs is p q) = at_step p + at_step q
  at_step (no_input depth given s) = 0
  at_step (given_input depth given i is s h c y e found p) = at_step p
  at_step (absent_input depth given i is s h c e lacking found p) = at_step p
  at_step (default_input depth given i is s h c e lacking some d p) = declared_at i.name e s c d + at_step p
  at_step (no_output depth s) = 0
  at_step (output_next depth x xs s h c d p) = declared_at x.name x.value s c d + at_step p
  at_step (flow_whole depth f given place i b o ds p q r) = at_step p + (at_step q + at_step r)

-- What a move makes of its step weighs so much more than it did.
pub record TurnWeighs (lib : Library) (site : List ℕ) (rows later : List Row) (desc more : ℕ → Rule → Type 0) (a b : State) (t : ℕ) (turn : Turn lib site rows later desc more a b t) (weight : Work → ℕ) (old new : ℕ) : Type 0 where
  pub decl : (depth : ℕ) (x : TDecl) (s : Scope) (c : ℕ) (left : IsLeft lib site rows desc a t (does (stmt.Decl x) s (only x.name c) c)) (n : NamesNeeded a t s x.value) (k : Keeps a t c)
      → weight (work_of lib site later more b (turn.decl depth x s c left n k)) + old ≡ new
  pub call : (depth : ℕ) (x : TCall) (s : Scope) (g : Given) (d : ℕ) (left : IsLeft lib site rows desc a t (does (stmt.Call x) s g d)) (n : CallNeeded a t s x) (is : IsNamed (call_names lib x) g) (at : EndsAt x g d)
      (k : KeepsCells lib site rows desc a t g d) (runs : IsCallable lib depth (one (stmt.Call x) s g d)) → weight (work_of lib site later more b (turn.call depth x s g d left n is at k runs)) + old ≡ new
  pub scatter : (depth : ℕ) (x : TScatter Statement) (s : Scope) (g : Given) (d : ℕ) (left : IsLeft lib site rows desc a t (does (stmt.Scatter x) s g d)) (n : NamesNeeded a t s x.over)
      (out : IsOutside lib site rows desc a x.body g) (k : KeepsCells lib site rows desc a t g d) → weight (work_of lib site later more b (turn.scatter depth x s g d left n out k)) + old ≡ new
  pub condition : (depth : ℕ) (x : TIf Statement) (s : Scope) (g : Given) (d : ℕ) (left : IsLeft lib site rows desc a t (does (stmt.If x) s g d)) (n : NamesNeeded a t s x.cond)
      (out : IsOutside lib site rows desc a x.body g) (k : KeepsCells lib site rows desc a t g d) → weight (work_of lib site later more b (turn.condition depth x s g d left n out k)) + old ≡ new
  pub declared : (name : List ℕ) (e : TExpr) (s : Scope) (c : ℕ) (left : IsLeft lib site rows desc a t (declares name e s c)) (n : NamesNeeded a t s e) (k : Keeps a t c)
      → weight (told_work lib site later more b name e s c (turn.declared name e s c left n k)) + old ≡ new
  pub told : (u : ℕ) (e : u ≡ t) (depth : ℕ) (x : TCall) (s : Scope) (g : Given) (d : ℕ) (w : Work) (q : AskedAt lib site rows later desc more a b depth x s g d w u)
      → weight (work_of lib site later more b (turn.told u e depth x s g d w q)) + old ≡ weight w + new

-- What a move makes of its step has so many leaves more of the step `v` than it did, each counted `k` times.
pub record TurnLeaves (lib : Library) (site : List ℕ) (rows later : List Row) (desc more : ℕ → Rule → Type 0) (a b : State) (t : ℕ) (turn : Turn lib site rows later desc more a b t) (v k old new : ℕ) : Type 0 where
  pub decl : (depth : ℕ) (x : TDecl) (s : Scope) (c : ℕ) (left : IsLeft lib site rows desc a t (does (stmt.Decl x) s (only x.name c) c)) (n : NamesNeeded a t s x.value) (keeps : Keeps a t c)
      → at_step lib site later more b v k (turn.decl depth x s c left n keeps) + old ≡ hit v k t + new
  pub call : (depth : ℕ) (x : TCall) (s : Scope) (g : Given) (d : ℕ) (left : IsLeft lib site rows desc a t (does (stmt.Call x) s g d)) (n : CallNeeded a t s x) (is : IsNamed (call_names lib x) g) (at : EndsAt x g d)
      (keeps : KeepsCells lib site rows desc a t g d) (runs : IsCallable lib depth (one (stmt.Call x) s g d)) → at_step lib site later more b v k (turn.call depth x s g d left n is at keeps runs) + old ≡ hit v k t + new
  pub scatter : (depth : ℕ) (x : TScatter Statement) (s : Scope) (g : Given) (d : ℕ) (left : IsLeft lib site rows desc a t (does (stmt.Scatter x) s g d)) (n : NamesNeeded a t s x.over)
      (out : IsOutside lib site rows desc a x.body g) (keeps : KeepsCells lib site rows desc a t g d) → at_step lib site later more b v k (turn.scatter depth x s g d left n out keeps) + old ≡ hit v k t + new
  pub condition : (depth : ℕ) (x : TIf Statement) (s : Scope) (g : Given) (d : ℕ) (left : IsLeft lib site rows desc a t (does (stmt.If x) s g d)) (n : NamesNeeded a t s x.cond)
      (out : IsOutside lib site rows desc a x.body g) (keeps : KeepsCells lib site rows desc a t g d) → at_step lib site later more b v k (turn.condition depth x s g d left n out keeps) + old ≡ hit v k t + new
  pub declared : (name : List ℕ) (e : TExpr) (s : Scope) (c : ℕ) (left : IsLeft lib site rows desc a t (declares name e s c)) (n : NamesNeeded a t s e) (keeps : Keeps a t c)
      → declared_at lib site later more b v k name e s c (turn.declared name e s c left n keeps) + old ≡ hit v k t + new
  pub told : (u : ℕ) (e : u ≡ t) (depth : ℕ) (x : TCall) (s : Scope) (g : Given) (d : ℕ) (w : Work) (q : AskedAt lib site rows later desc more a b depth x s g d w u)
      → at_step lib site later more b v k (turn.told u e depth x s g d w q) + old ≡ hit v k u + new

-- What a move makes of its step evaluated so many expressions more than it had.
pub record TurnSpends (lib : Library) (site : List ℕ) (rows later : List Row) (desc more : ℕ → Rule → Type 0) (a b : State) (t : ℕ) (turn : Turn lib site rows later desc more a b t) (task : TaskCost) (old new : ℕ) : Type 0 where
  pub decl : (depth : ℕ) (x : TDecl) (s : Scope) (c : ℕ) (left : IsLeft lib site rows desc a t (does (stmt.Decl x) s (only x.name c) c)) (n : NamesNeeded a t s x.value) (k : Keeps a t c)
      → evaluated lib site later more b task (turn.decl depth x s c left n k) + old ≡ new
  pub call : (depth : ℕ) (x : TCall) (s : Scope) (g : Given) (d : ℕ) (left : IsLeft lib site rows desc a t (does (stmt.Call x) s g d)) (n : CallNeeded a t s x) (is : IsNamed (call_names lib x) g) (at : EndsAt x g d)
      (k : KeepsCells lib site rows desc a t g d) (runs : IsCallable lib depth (one (stmt.Call x) s g d)) → evaluated lib site later more b task (turn.call depth x s g d left n is at k runs) + old ≡ new
  pub scatter : (depth : ℕ) (x : TScatter Statement) (s : Scope) (g : Given) (d : ℕ) (left : IsLeft lib site rows desc a t (does (stmt.Scatter x) s g d)) (n : NamesNeeded a t s x.over)
      (out : IsOutside lib site rows desc a x.body g) (k : KeepsCells lib site rows desc a t g d) → evaluated lib site later more b task (turn.scatter depth x s g d left n out k) + old ≡ new
  pub condition : (depth : ℕ) (x : TIf Statement) (s : Scope) (g : Given) (d : ℕ) (left : IsLeft lib site rows desc a t (does (stmt.If x) s g d)) (n : NamesNeeded a t s x.cond)
      (out : IsOutside lib site rows desc a x.body g) (k : KeepsCells lib site rows desc a t g d) → evaluated lib site later more b task (turn.condition depth x s g d left n out k) + old ≡ new
  pub declared : (name : List ℕ) (e : TExpr) (s : Scope) (c : ℕ) (left : IsLeft lib site rows desc a t (declares name e s c)) (n : NamesNeeded a t s e) (k : Keeps a t c)
      → told_count lib site later more b name e s c (turn.declared name e s c left n k) + old ≡ new
  pub told : (u : ℕ) (e : u ≡ t) (depth : ℕ) (x : TCall) (s : Scope) (g : Given) (d : ℕ) (w : Work) (q : AskedAt lib site rows later desc more a b depth x s g d w u)
      → evaluated lib site later more b task (turn.told u e depth x s g d w q) + old ≡ asked_count lib site rows desc a task depth s x q.needed.slots q.needed.marks + new
