use Rattle.std.proofs.Common.{arith}
use Rattle.jr_member_faults.proofs.Methodical.{faults_in}
use Rattle.jr_member_faults.proofs.Told.{row_told, row_only}
use Rattle.jr_member_faults.proofs.faults.row_faults.Goals as goal

pub returns-clause-declared : goal.returns-clause-declared
returns-clause-declared c = λ lt h. c.in_ok-declared_faults.ensures.open lt h

pub returns-clause-headers : goal.returns-clause-headers
returns-clause-headers c = λ h. c.in_ok-pass.ensures h

pub returns-clause-found : goal.returns-clause-found
returns-clause-found c = λ lt few methods d h. row_told c.args.view.now
    (record {
      declared = c.in_ok-declared_faults.ensures.others;
      heading = c.in_ok-supertype_fault.ensures.others;
      methods = c.in_ok-faults.ensures.others;
      body = c.in_ok-body_fault.ensures.others;
      static = c.in_ok-static_fault.ensures.others;
    })
    (c.in_ok-body_fault.ensures.found (omega arith)) (λ valued. c.in_ok-static_fault.ensures.found valued) (c.in_ok-supertype_fault.ensures.found lt h)
    (λ named. c.in_ok-declared_faults.ensures.fields lt d named) (λ named signed. c.in_ok-declared_faults.ensures.methods lt d named signed)
    (λ signed. c.in_ok-declared_faults.ensures.constructors lt d signed) (λ named. c.in_ok-declared_faults.ensures.types lt d named)
    (λ right. faults_in c.args.at methods.world_is (c.in_ok-faults.ensures.found (methods.are right)))

pub returns-clause-only : goal.returns-clause-only
returns-clause-only c = row_only c.args.view.now
    (record {
      declared = c.in_ok-declared_faults.ensures.others;
      heading = c.in_ok-supertype_fault.ensures.others;
      methods = c.in_ok-faults.ensures.others;
      body = c.in_ok-body_fault.ensures.others;
      static = c.in_ok-static_fault.ensures.others;
    })
