-- What the code holds, as the definitions have it.
use Rattle.std.specs.Prelude.{ℕ, List, map, take}
use Rattle.wdl_base.specs.declared.request.Request.{Request}
use Rattle.wdl_value.specs.declared.env.Bind.{Bind}
use Rattle.wdl_value.specs.Tables.{table}
use Rattle.wdl_typed.specs.Bodies.{library}
use Rattle.wdl_typed.specs.Flow as flow
use Rattle.wdl_typed.specs.Requests.{Successes}
use Rattle.wdl_typed.specs.Statuses.{successes_of}
use Rattle.wdl_plain.specs.declared.flowing.Flowing.{Flowing}
use Rattle.wdl_plain.specs.declared.ground.Ground.{Ground}
use Rattle.wdl_plain.specs.declared.job.AskedJob.{AskedJob}
use Rattle.wdl_plain.specs.declared.known.Ended.{Ended}
use Rattle.wdl_plain.specs.declared.known.Known.{Known}
use Rattle.wdl_plain.specs.declared.sight.Sight.{Sight}

abbrev pub known_of : Known → flow.Known
known_of k = record { key = k.key; value = k.value }

abbrev pub knowns_of : List Known → List flow.Known
knowns_of = map known_of

-- the names with a value
abbrev pub env_in : List Known → List Bind
env_in ks = flow.env_of (knowns_of ks)

abbrev pub ended_of : Ended → flow.Ended
ended_of e = record { call = e.call; ended = e.ended }

abbrev pub endeds_of : List Ended → List flow.Ended
endeds_of = map ended_of

abbrev pub request_of : AskedJob → Request
request_of j = j.request

abbrev pub requests_in : List AskedJob → List Request
requests_in = map request_of

abbrev pub codes_of : AskedJob → Successes
codes_of j = successes_of j.terms

-- the statuses of success of each job
abbrev pub codes_in : List AskedJob → List Successes
codes_in = map codes_of

abbrev pub flowing_of : Flowing → flow.Flowing
flowing_of f =
    record {
      names = knowns_of f.names;
      calls = endeds_of f.calls;
      jobs = requests_in f.jobs;
      codes = codes_in f.jobs;
      faults = f.faults;
      waits = f.waits;
      count = f.count;
    }

abbrev pub sight_of : Sight → flow.Sight
sight_of s = record { names = knowns_of s.names; calls = endeds_of s.calls; place = s.place }

abbrev pub run_of : Ground → flow.Run
run_of g =
    record {
      library = library g.checked.now.structs g.checked.now.tasks g.checked.now.flows;
      site = g.site.now;
      table = table g.answers;
    }

-- the first names, calls and segments of what is seen
abbrev pub first : ℕ → ℕ → ℕ → flow.Sight → flow.Sight
first names calls segments s = record { names = take names s.names; calls = take calls s.calls; place = take segments s.place }
