use Rattle.jr_elab.proofs.classes.class.Goals as goal

pub returns : goal.returns
returns c = λ whole. record {
  id_is = c.type_at-id.ensures;
  parent_is = c.superclass-parent.ensures whole;
  faces_are = c.in_ok-faces.ensures whole;
  outer_is = c.outer_type-outer.ensures;
  members_are = c.in_ok-members.ensures;
  found_are = c.in_ok-found.ensures whole;
}
