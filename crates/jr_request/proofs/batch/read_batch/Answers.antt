use Rattle.std.proofs.Common.{◌≡◌, Some}
use Rattle.serde_json.specs.Read.{read}
use Rattle.serde_json.specs.View.{view}
use Rattle.jr_request.specs.Batch.{IsJson}
use Rattle.jr_request.proofs.One.{only_one, of_value}
use Rattle.jr_request.proofs.batch.read_batch.Goals as goal

pub returns-in-Ok-from_str-clause-only : goal.returns-in-Ok-from_str-clause-only
returns-in-Ok-from_str-clause-only c =
    let value = view c.in-Ok-from_str.value in
    let reads : read c.args.bytes.now ≡ Some value = rw (← c.in-Ok.ensures.cases.0) c.in-Ok-from_str.ensures.ok in
    let json : IsJson c.args.bytes.now value = record { utf8 = c.in-Ok.ensures.cases.1; reads = reads } in
    only_one c.args.bytes.now c.read_value.result (of_value c.args.bytes.now value c.read_value.result json c.read_value.ensures)
