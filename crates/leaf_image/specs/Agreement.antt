-- Bodies whose struct inputs are replaced by their leaves.
use Rattle.std.specs.Prelude.{◌≡◌, Bool, true, List, ◌++◌, map}
use Rattle.std.specs.List.{list_all}
use Rattle.wdl_base.specs.declared.name.Key.{Key}
use Rattle.wdl_base.specs.declared.place.Segment.{Segment}
use Rattle.wdl_typed.specs.declared.flow.Statement.{Statement}
use Rattle.wdl_typed.specs.declared.flow.TCall.{TCall}
use Rattle.wdl_typed.specs.Bodies.{signature}
use Rattle.wdl_typed.specs.Flow.{Callee, Ended, Known, Names, Run, Runner, Sight, call_of, env_of, signature_keys, statements}
use Rattle.wdl_swaps.specs.Agreement.{Agrees, PlacesFound, is_fine}
use Rattle.leaf_image.specs.Inside.{Each, calls_in, exprs_in}
use Rattle.leaf_image.specs.Records.{Setting, expanded, expanded_call}

-- The names that a body sees: those with which it begins, and what came since.
abbrev pub sight : List Known → List Known → List Ended → List Segment → Sight
sight first rest calls place = record { names = first ++ rest; calls = calls; place = place }

-- The one gives, after the first names, what the other gives after the second ones, whatever came since.
abbrev pub RunsAgree : List Known → List Known → Runner → Runner → Type 0
RunsAgree old now f g = (rest : List Known) (calls : List Ended) (place : List Segment) → f (sight old rest calls place) ≡ g (sight now rest calls place)

-- ---- what is asked

-- A call gives names as it did, and gives what it gave.
pub record CallAgrees (r q : Run) (callee other : Callee) (x : Setting) (old now : List Known) (c : TCall) : Type 0 where
  pub keys : signature_keys c.name (signature r.library c.target) ≡ signature_keys c.name (signature q.library c.target)
  pub runs : (n : Names) → RunsAgree old now (call_of r callee n c) (call_of q other n (expanded_call x c))

-- Two runs with what they call, and a body's setting, after the first names and after the second ones: expressions have the
-- values that they had, and the calls that stand in the body give what they gave.
pub record Premises (r q : Run) (callee other : Callee) (x : Setting) (old now : List Known) (seen gone : Key → Bool) (ss : List Statement) : Type 0 where
  pub values : (rest : List Known) → Agrees x.own.swaps (env_of (old ++ rest)) (env_of (now ++ rest)) seen gone
  pub places : (rest : List Known) → PlacesFound x.own.swaps (env_of (old ++ rest)) (env_of (now ++ rest))
  pub fine : list_all (is_fine x.own.swaps seen gone) (exprs_in ss) ≡ true
  pub calls : Each (CallAgrees r q callee other x old now) (calls_in ss)

-- Then the body gives what it gave.
abbrev pub BodiesAgree : Type 0
BodiesAgree =
    (r q : Run) (callee other : Callee) (x : Setting) (old now : List Known) (seen gone : Key → Bool) (ss : List Statement)
    → Premises r q callee other x old now seen gone ss
    → RunsAgree old now (statements r callee ss) (statements q other (map (expanded x) ss))
