use Rattle.jr_name_faults.proofs.statics.Statics.add_row.Goals as goal

pub returns : goal.returns
returns c = λ world h. c.add_row_with.ensures world h c.new-classes.ensures.items
