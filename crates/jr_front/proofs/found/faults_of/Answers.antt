use Rattle.std.proofs.Common.{◌∙◌}
use Rattle.jr_front.proofs.Finding.{added_found}
use Rattle.jr_front.proofs.found.faults_of.Goals as goal

pub returns : goal.returns
returns c = λ ordered. added_found c.args.marks.now c.args.view.now c.new-faults.result.items c.modifier_faults.new.out.items c.assign_faults.new.faults.items c.member_faults.new.out.items c.type_faults.new.out.items c.flow_faults.new.out.items c.name_faults.new.out.items
    c.new-faults.ensures.items (c.in_ok-modifier_faults.ensures.found ordered) c.in_ok-modifier_faults.ensures.others (λ local right. c.in_ok-assign_faults.ensures.reads local right (c.deref.ensures.value ∙ c.in_ok-known.ensures local)) c.in_ok-assign_faults.ensures.finals (λ local right. c.in_ok-assign_faults.ensures.blanks local right (c.deref.ensures.value ∙ c.in_ok-known.ensures local)) c.in_ok-assign_faults.ensures.only c.in_ok-member_faults.ensures.exact c.in_ok-member_faults.ensures.only c.in_ok-type_faults.ensures.exact c.in_ok-type_faults.ensures.only
    (λ local. c.in_ok-flow_faults.ensures.exact (c.deref-2.ensures.value ∙ c.in_ok-known.ensures local)) (λ right. c.in_ok-flow_faults.ensures.thrown right (c.deref-2.ensures.value ∙ c.in_ok-known.ensures right.local)) c.in_ok-flow_faults.ensures.covered c.in_ok-flow_faults.ensures.only c.in_ok-name_faults.ensures.local_names c.in_ok-name_faults.ensures.labels c.in_ok-name_faults.ensures.access c.in_ok-name_faults.ensures.import_names
    c.in_ok-name_faults.ensures.imported_types c.in_ok-name_faults.ensures.static_imports c.in_ok-name_faults.ensures.others
