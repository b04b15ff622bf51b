use Rattle.jr_flow.proofs.hops.Hops.new.Goals as goal

pub returns : goal.returns
returns c = record { all = search; firsts = search }
