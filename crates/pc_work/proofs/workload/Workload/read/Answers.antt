use Rattle.serde_json.specs.View.{view}
use Rattle.pc_work.proofs.Answering.{accepted_of, form_of, json_of, no_json_of, numbers_of, refused_of}
use Rattle.pc_work.proofs.workload.Workload.read.Goals as goal

pub returns-in-Ok-clause-accepted : goal.returns-in-Ok-clause-accepted
returns-in-Ok-clause-accepted c =
    accepted_of c.args.bytes.now (view c.in-Ok.json) (json_of c.args.bytes.now (view c.in-Ok.json) c.in-Ok.ensures.ok.0 c.in-Ok.ensures.ok.1) c.in-Ok.ensures.ok.1 c.accepted.result c.accepted.ensures

pub returns-in-Ok-clause-form : goal.returns-in-Ok-clause-form
returns-in-Ok-clause-form c = form_of c.accepted.result (view c.in-Ok.json) c.accepted.ensures

pub returns-in-Ok-clause-no_json : goal.returns-in-Ok-clause-no_json
returns-in-Ok-clause-no_json c =
    no_json_of c.args.bytes.now (view c.in-Ok.json) (json_of c.args.bytes.now (view c.in-Ok.json) c.in-Ok.ensures.ok.0 c.in-Ok.ensures.ok.1) c.accepted.result c.accepted.ensures

pub returns-in-Ok-clause-numbers : goal.returns-in-Ok-clause-numbers
returns-in-Ok-clause-numbers c = numbers_of c.accepted.result (view c.in-Ok.json) c.accepted.ensures

pub returns-in-Ok-clause-refused : goal.returns-in-Ok-clause-refused
returns-in-Ok-clause-refused c =
    refused_of c.args.bytes.now (view c.in-Ok.json) (json_of c.args.bytes.now (view c.in-Ok.json) c.in-Ok.ensures.ok.0 c.in-Ok.ensures.ok.1) c.in-Ok.ensures.ok.1 c.accepted.result c.accepted.ensures
