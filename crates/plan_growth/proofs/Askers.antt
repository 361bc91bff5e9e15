-- A call of a task stays one, with its arguments, where its needs are set.
use Rattle.std.proofs.Common.{◌≡◌, ℕ, Bool, true, List, [], ◌∷◌, map, ap, refl, ◌∙◌}
use Rattle.std.specs.List.{list_all}
use Rattle.std.proofs.lemmas.Bool.{and_from, and_parts}
use Rattle.wdl_value.specs.declared.env.Bind.{Bind}
use Rattle.wdl_typed.specs.declared.flow.TCall.{TCall}
use Rattle.wdl_typed.specs.declared.task.TaskDef.{TaskDef}
use Rattle.wdl_typed.specs.Bodies.{Library}
use Rattle.wdl_typed.specs.Flow.{Ended, Known, args_known, args_met, env_of, has_ended}
use Rattle.wdl_typed.specs.KnownTypes as known
use Rattle.value_net.specs.Nets.{value_at}
use Rattle.net_laws.specs.Net.{Cells, Given, Mark, Scope, ended_in}
use Rattle.net_laws.proofs.Sets.{marks_set, slots_set}
use Rattle.plan_moves.specs.Sheets.{Sheet}
use Rattle.plan_moves.specs.Telling.{CallsTask}
use Rattle.plan_growth.proofs.Heads.{known_same}

abbrev Stay : Cells → Cells → Type 0
Stay a b = (c : ℕ) → known.is_some (a c) ≡ true → b c ≡ a c

pub ended_same : (a b : Cells) (ms : List Mark) → marks_set a ms ≡ true → Stay a b → map (ended_in b) ms ≡ map (ended_in a) ms
ended_same a b [] h kept = refl
ended_same a b (m ∷ ms) h kept =
    let p = and_parts (known.is_some (a m.cell)) (marks_set a ms) h in
    ap (λ (e : Bool). record { call = m.call; ended = e } ∷ map (ended_in b) ms) (ap known.is_some (kept m.cell p.0))
    ∙ ap (λ (es : List Ended). record { call = m.call; ended = known.is_some (a m.cell) } ∷ es) (ended_same a b ms p.1 kept)

pub ended_set_same : (a b : Cells) (ms : List Mark) → marks_set a ms ≡ true → Stay a b → marks_set b ms ≡ true
ended_set_same a b [] h kept = refl
ended_set_same a b (m ∷ ms) h kept =
    let p = and_parts (known.is_some (a m.cell)) (marks_set a ms) h in
    and_from (known.is_some (b m.cell)) (marks_set b ms) (ap known.is_some (kept m.cell p.0) ∙ p.0) (ended_set_same a b ms p.1 kept)

abbrev pub task_kept : (lib : Library) (a b : Sheet) (x : TCall) (s : Scope) (g : Given) (args : List Bind) (t : TaskDef) → Stay (value_at a.values) (value_at b.values) → (h : CallsTask lib a x s g args t)
    → slots_set (value_at a.values) h.slots ≡ true → marks_set (value_at a.values) h.marks ≡ true → CallsTask lib b x s g args t
task_kept lib a b x s g args t kept h names calls =
    let ks = known_same (value_at a.values) (value_at b.values) h.slots names kept in
    let es = ended_same (value_at a.values) (value_at b.values) h.marks calls kept in
    record {
      slots = h.slots;
      marks = h.marks;
      needs = h.needs;
      met =
          record {
            known = ap (λ (ns : List Known). args_known ns x.args) ks ∙ h.met.known;
            ended = ap (λ (cs : List Ended). list_all (has_ended cs) x.after) es ∙ h.met.ended;
            met = ap (λ (ns : List Known). args_met (env_of ns) x.args) ks ∙ h.met.met;
          };
      number = h.number;
      is = h.is;
      found = h.found;
      named = h.named;
    }
