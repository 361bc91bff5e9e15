-- What a scatter gathers, item by item.
use Rattle.std.specs.Prelude.{◌≡◌, List, map}
use Rattle.wdl_typed.specs.Flow as flow
use Rattle.wdl_plain.specs.declared.gathering.Gathering.{Gathering}
use Rattle.wdl_plain.specs.Views.{endeds_of, flowing_of, knowns_of}
use Rattle.wdl_plain.specs.Flows.{quiet}

abbrev pub names_in : List flow.Flowing → List (List flow.Known)
names_in = map (λ (f : flow.Flowing). f.names)

abbrev pub calls_in : List flow.Flowing → List (List flow.Ended)
calls_in = map (λ (f : flow.Flowing). f.calls)

-- what is gathered of these flows
pub record IsGathered (g : Gathering) (fs : List flow.Flowing) : Type 0 where
  pub names : map knowns_of g.names ≡ names_in fs
  pub calls : map endeds_of g.calls ≡ calls_in fs
  pub total : flowing_of g.total ≡ quiet (flow.all_together fs)
