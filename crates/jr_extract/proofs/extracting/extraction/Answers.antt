use Rattle.jr_extract.proofs.Extending.{extraction_so}
use Rattle.jr_extract.proofs.extracting.extraction.Goals as goal

pub returns : goal.returns
returns c = λ ordered. extraction_so c.args.marks.now c.args.run c.args.name.now c.args.locals.now c.args.thrown.now c.part.result.now c.unit_bytes.result.now c.span_of.result c.class_of.result c.is_static.result c.part.ensures.exact
    (c.unit_bytes.ensures ordered) (c.span_of.ensures ordered) c.class_of.ensures c.is_static.ensures
