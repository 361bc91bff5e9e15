use Rattle.flow_laws.proofs.FlowJobs.{flow_jobs_answered, flow_jobs_differ}
use Rattle.flow_laws.proofs.laws.jobs_differ.Goals as goal

pub returns : goal.returns
returns c = record { differ = flow_jobs_differ; answered = flow_jobs_answered }
