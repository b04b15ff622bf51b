use Rattle.jr_flow.proofs.code.Code.new.Goals as goal

pub returns : goal.returns
returns c = record { is_of = search; acts_are = search; firsts_are = search; behinds_are = search; lasts_are = search }
