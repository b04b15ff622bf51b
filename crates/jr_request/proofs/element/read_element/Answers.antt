use Rattle.std.proofs.Common.{◌≡◌, sym, ap}
use Rattle.serde_json.specs.View.{view}
use Rattle.jr_request.specs.Batch.{lacking, IsElementFault}
use Rattle.jr_request.proofs.Elements.{element_fault}
use Rattle.jr_request.proofs.Fields.{lacking-said}
use Rattle.jr_request.proofs.element.read_element.Goals as goal

pub returns-in-Some-other_key : goal.returns-in-Some-other_key
returns-in-Some-other_key c =
    let value = view c.args.element.now in
    let whole : lacking c.in-Some.action value ≡ Rattle.std.proofs.Common.None = lacking-said c.in-Some.action value c.in_ok-request.request c.in_ok-request.ensures in
    let fault : IsElementFault value c.as_str.result.now = rw (← c.in-Some.ensures, whole, c.as_str.ensures.value) c.in-Some-other_key.ensures in
    element_fault c.bad_field-in-Some-other_key.result c.args.number value c.as_str.result.now c.bad_field-in-Some-other_key.ensures fault
