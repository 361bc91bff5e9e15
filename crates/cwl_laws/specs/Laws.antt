-- The law of simulation.
use Rattle.std.specs.List.{list_any}
use Rattle.cwl_model.specs.declared.process.Link.{Link}
use Rattle.std.specs.Prelude.{◌≡◌, Bool, true, false, List, [], ◌∷◌, ◌++◌, Some, None, map}
use Rattle.wdl_base.specs.declared.name.Key.{Key}
use Rattle.wdl_base.specs.declared.place.Segment.{Segment}
use Rattle.wdl_base.specs.declared.request.Request.{Request}
use Rattle.wdl_value.specs.declared.ty.Ty.{Ty}
use Rattle.wdl_value.specs.declared.value.Value.{Value}
use Rattle.wdl_value.specs.Fits.{Structs, fits}
use Rattle.wdl_typed.specs.declared.scope.Bound.{Bound}
use Rattle.wdl_typed.specs.Flow.{Flowing, Known, Runner, Sight, env_of, in_turn, is_clean}
use Rattle.wdl_typed.specs.Scope.{lookup, same_key, type_in}
use Rattle.cwl_model.specs.declared.process.CwlStep.{CwlStep}
use Rattle.cwl_model.specs.declared.process.Process.{Process}
use Rattle.cwl_model.specs.Laws.{Apart, is_of, owned, pass_means}
use Rattle.cwl_model.specs.Means.{Ground, Job, Meaning, Named, Running, all_jobs, are_complete, given_outputs, has_type, is_complete, running, step_gives, step_means, value_at}
use Rattle.cwl_model.specs.Rounds.{Linked, known_value, one_pass}
use Rattle.cwl_image.specs.Image.{Draft, Linkage, Output, Scope, body_links, body_steps, linkage_at, links_of, step_of}

abbrev pub job_of : Request → Job
job_of r = record { place = r.place; command = r.command }

abbrev pub jobs_of : Flowing → List Job
jobs_of f = map job_of f.jobs

-- the step with what its process means
abbrev pub as_running : Ground → CwlStep Process → CwlStep Running
as_running g s = record { id = s.id; wires = s.wires; outs = s.outs; run = running g s.run; mode = s.mode }

abbrev pub all_running : Ground → List (CwlStep Process) → List (CwlStep Running)
all_running g ss = map (as_running g) ss

-- Each reference has the value that its source has, which is of its type.
abbrev pub Shown : List Known → List Linked → Linkage → Type 0
Shown names known l = (x : Value) × (lookup (env_of names) l.key ≡ Some x) × (known_value known l.link ≡ Some x) × (has_type l.ty x ≡ true)

abbrev pub Shows : Scope → List Known → List Linked → Type 0
Shows scope names known = (key : Key) (l : Linkage) → linkage_at scope key ≡ Some l → Shown names known l

-- the values of the outputs, by name and by id
abbrev pub Given : List Output → List Known → List Named → Type 0
Given [] names ns = Unit {0}
Given (o ∷ os) names ns =
    ((x : Value) × (lookup (env_of names) o.key ≡ Some x) × (value_at ns o.id ≡ Some x) × (has_type o.ty x ≡ true)) × Given os names ns

-- The statement is clean exactly where the step is complete; then they give the same values and have the same jobs.
pub record Agrees (outs : List Output) (f : Flowing) (m : Meaning) : Type 0 where
  pub clean : is_clean f ≡ is_complete m
  pub jobs : is_clean f ≡ true → jobs_of f ≡ m.jobs
  pub given : is_clean f ≡ true → Given outs f.names (given_outputs m.outputs)

-- none of these references has a value yet
abbrev pub New : List Output → List Known → Type 0
New [] names = Unit {0}
New (o ∷ os) names = (lookup (env_of names) o.key ≡ None) × New os names

abbrev pub NewItems : List Key → List Known → Type 0
NewItems [] names = Unit {0}
NewItems (k ∷ ks) names = (lookup (env_of names) k ≡ None) × NewItems ks names

abbrev pub has_key : List Output → Key → Bool
has_key os key = list_any (λ (o : Output). same_key o.key key) os

-- the value fits the type with which the name is seen
abbrev pub FitsAt : Structs → List Bound → Key → Value → Type 0
FitsAt structs seen key x = (t : Ty) × (type_in seen key ≡ Some t) × (fits structs x t ≡ true)

-- Each name with a value is seen with a type, which the value fits.
abbrev pub Fit : Structs → List Bound → List Known → Type 0
Fit structs seen names = (key : Key) (x : Value) → lookup (env_of names) key ≡ Some x → FitsAt structs seen key x

-- Where the names fit, those of the statement fit too, by these types.
pub record Keeps (structs : Structs) (seen gives : List Bound) (run : Runner) : Type 0 where
  pub fit : (s : Sight) → Fit structs seen s.names → Fit structs (seen ++ gives) (s.names ++ (run s).names)

-- A statement and its step, where names are seen with types that their values fit, and the references have values: it gives
-- values to its own references alone, and agrees with its step.
pub record Simulates (g : Ground) (structs : Structs) (seen : List Bound) (scope : Scope) (run : Runner) (d : Draft) : Type 0 where
  pub own : (s : Sight) (key : Key) → has_key d.outs key ≡ false → lookup (env_of (run s).names) key ≡ None
  pub agrees : (s : Sight) (known : List Linked) → Fit structs seen s.names → Shows scope s.names known → New d.outs s.names → NewItems d.items s.names
      → Agrees d.outs (run s) (step_means s.place known (as_running g (step_of d scope)))

-- One statement after the other; the last names are what is seen after them.
abbrev pub AllSimulate : Ground → Structs → List Bound → Scope → List Runner → List Draft → List Bound → Type 0
AllSimulate g structs seen scope [] [] after = seen ≡ after
AllSimulate g structs seen scope [] (d ∷ ds) after = ⊥
AllSimulate g structs seen scope (f ∷ fs) [] after = ⊥
AllSimulate g structs seen scope (f ∷ fs) (d ∷ ds) after =
    (gives : List Bound) × Keeps structs seen gives f × Simulates g structs seen scope f d
    × AllSimulate g structs (seen ++ gives) (scope ++ links_of d) fs ds after

-- the references that statements give have no value before them
abbrev pub AllNew : List Draft → List Known → Type 0
AllNew [] names = Unit {0}
AllNew (d ∷ ds) names = (New d.outs names × NewItems d.items names) × AllNew ds names

-- none of these is a reference of those
abbrev pub NoKeys : List Output → List Output → Type 0
NoKeys os [] = Unit {0}
NoKeys os (p ∷ ps) = (has_key os p.key ≡ false) × NoKeys os ps

abbrev pub NoItems : List Output → List Key → Type 0
NoItems os [] = Unit {0}
NoItems os (k ∷ ks) = (has_key os k ≡ false) × NoItems os ks

abbrev pub KeysDiffer : List Output → List Draft → Type 0
KeysDiffer os [] = Unit {0}
KeysDiffer os (d ∷ ds) = (NoKeys os d.outs × NoItems os d.items) × KeysDiffer os ds

-- No two statements of a body give the same reference.
abbrev pub AllDiffer : List Draft → Type 0
AllDiffer [] = Unit {0}
AllDiffer (d ∷ ds) = KeysDiffer d.outs ds × AllDiffer ds

-- no output of these steps is known yet
abbrev pub Free : List (CwlStep Running) → List Linked → Type 0
Free ss known = (l : Link) → owned is_of ss l ≡ true → known_value known l ≡ None

-- What statements give in turn, and what their steps mean in one pass.
pub record BodyAgrees (g : Ground) (ds : List Draft) (scope : Scope) (place : List Segment) (names : List Known) (known : List Linked) (f : Flowing) : Type 0 where
  pub clean : is_clean f ≡ are_complete (pass_means place (all_running g (body_steps ds scope)) known)
  pub jobs : is_clean f ≡ true → jobs_of f ≡ all_jobs (pass_means place (all_running g (body_steps ds scope)) known)
  pub shows : is_clean f ≡ true → Shows (scope ++ body_links ds) (names ++ f.names) (one_pass (step_gives place) (all_running g (body_steps ds scope)) known)

-- Where each statement agrees with its step, what all of them give in turn agrees with what the steps mean in one pass.
abbrev pub BodiesAgree : Type 0
BodiesAgree =
    (g : Ground) (structs : Structs) (seen after : List Bound) (fs : List Runner) (ds : List Draft) (scope : Scope) (s : Sight) (known : List Linked)
    → AllSimulate g structs seen scope fs ds after → AllDiffer ds → Apart is_of (all_running g (body_steps ds scope)) → Free (all_running g (body_steps ds scope)) known → AllNew ds s.names
    → Fit structs seen s.names → Shows scope s.names known
    → BodyAgrees g ds scope s.place s.names known (in_turn fs s)
