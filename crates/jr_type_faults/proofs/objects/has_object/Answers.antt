use Rattle.jr_type_faults.proofs.objects.has_object.Goals as goal

pub returns : goal.returns
returns c = λ right. c.has_instance.ensures right.seen.placed
