use Rattle.jr_extract.specs.Writing.{extracted}
use Rattle.jr_extract.proofs.Extending.{methods_of}
use Rattle.jr_extract.proofs.extracting.with_locals.Goals as goal

pub returns-clause-ok : goal.returns-clause-ok
returns-clause-ok c = methods_of c.args.old.now c.args.run c.args.name.now c.args.locals.now c.in_ok-thrown.thrown.items c.deref.result.now (extracted c.extraction-added.result) c.extracted.result c.in_ok-thrown.ensures c.deref.ensures.value
    c.extraction-added.ensures c.extracted.ensures.ok
