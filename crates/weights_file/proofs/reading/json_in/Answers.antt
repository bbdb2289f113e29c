use Rattle.std.proofs.lemmas.Bool.{false≢true}
use Rattle.serde_json.specs.View.{view}
use Rattle.weights_file.proofs.Read.{none_as_defined, read_as_defined}
use Rattle.weights_file.proofs.reading.json_in.Goals as goal

pub returns-in-Ok-clause-ok : goal.returns-in-Ok-clause-ok
returns-in-Ok-clause-ok c =
    let read = c.in-Ok.ensures.ok in read_as_defined c.args.bytes.now (view c.in-Ok.value) read.0 read.1

pub returns-in-Err-2-clause-bad_weights : goal.returns-in-Err-2-clause-bad_weights
returns-in-Err-2-clause-bad_weights c = λ _. none_as_defined c.args.bytes.now
    (c.in-Err.ensures.err (λ memory. false≢true (c.if-is_memory.ensures.1 memory)))
