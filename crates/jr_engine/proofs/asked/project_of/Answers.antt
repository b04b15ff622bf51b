use Rattle.jr_engine.proofs.asked.project_of.Goals as goal

pub returns-clause-all : goal.returns-clause-all
returns-clause-all c = record {
  made = λ is. c.marks.ensures.made is.rows is.marks;
  rows = c.marks.ensures.rows;
  table = c.view.ensures.table;
  view = c.view.ensures.all;
}
