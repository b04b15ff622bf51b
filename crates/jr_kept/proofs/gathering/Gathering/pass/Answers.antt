use Rattle.std.proofs.Common.{◌++◌, sym, ◌∙◌, ap, subst}
use Rattle.std.proofs.lemmas.Result.{on_ok_weaker}
use Rattle.jr_kept.specs.Listed.{under_in}
use Rattle.jr_kept.specs.Named.{origin_in}
use Rattle.jr_kept.specs.Gathered.{use_in, IsGathering}
use Rattle.jr_kept.proofs.Gathers.{gathering_on, gathering_named}
use Rattle.jr_kept.proofs.gathering.Gathering.pass.Goals as goal

pub returns-in_ok-extend_from_slice-in-Some : goal.returns-in_ok-extend_from_slice-in-Some
returns-in_ok-extend_from_slice-in-Some c = λ used old new met inside originals h adds. let ways = under_in c.args.definitions.now in let use_of = use_in c.args.handing.now in let origin = origin_in c.args.origin.now in let rest = c.args.self.now.waiting.items in let all = c.args.self.now.originals.all.items in (
  originals,
  subst (λ ws. IsGathering ways use_of origin used new c.args.self.now.seen ws all) (sym (c.in_ok-extend_from_slice-in-Some.ensures.items ∙ ap (λ ys. rest ++ ys) c.under.ensures))
      (gathering_on ways use_of origin used new inside met c.args.self.now.seen rest c.args.at all h c.in-Some.from adds (sym c.use_of.ensures ∙ c.in-Some.is)),
)

pub returns-in-None : goal.returns-in-None
returns-in-None c = λ used old new met inside originals h adds. let ways = under_in c.args.definitions.now in let use_of = use_in c.args.handing.now in let origin = origin_in c.args.origin.now in let rest = c.args.self.now.waiting.items in let all = c.args.self.now.originals.all.items in
    on_ok_weaker c.add_origin.result
    (λ ok. (ok.0, gathering_named ways use_of origin used new inside met c.args.self.now.seen rest c.args.at all h c.add_origin.new.self.all.items adds (sym c.use_of.ensures ∙ c.in-None.is) ok.1))
    (c.add_origin.ensures old originals)
