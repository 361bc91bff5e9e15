use Rattle.workflow_cli.proofs.Simulated.{documents_mean, documents_read, forms_mean, objects_mean, objects_read, plain_documents_mean}
use Rattle.workflow_cli.proofs.laws.documents_mean.Goals as goal

pub returns : goal.returns
returns c = record { read = documents_read; documents = documents_mean; forms = forms_mean; plain = plain_documents_mean; objects = objects_mean; objects_read = objects_read }
