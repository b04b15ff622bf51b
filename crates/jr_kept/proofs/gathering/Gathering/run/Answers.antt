use Rattle.std.proofs.Common.{◌++◌, sym, ◌∙◌, ap₂, subst}
use Rattle.std.proofs.lemmas.Result.{on_ok_weaker}
use Rattle.jr_kept.specs.Listed.{under_in}
use Rattle.jr_kept.specs.Named.{origin_in}
use Rattle.jr_kept.specs.Gathered.{use_in, IsGathering}
use Rattle.jr_kept.proofs.Gathers.{gathering_begun, gathering_ends}
use Rattle.jr_kept.proofs.gathering.Gathering.run.Goals as goal

pub returns : goal.returns
returns c = λ old new inside can. let ways = under_in c.args.definitions.now in let use_of = use_in c.args.handing.now in let origin = origin_in c.args.origin.now in let used = c.args.used in
    let empty = c.in_ok-empty.ensures new can.counted in let none = c.in_ok-empty-2.ensures old can.originals in
    on_ok_weaker c.finish.result
    (λ ok. (record { counted = ok.1.counted; originals = ok.0 }, gathering_ends ways use_of origin used new c.finish.new.self.seen c.finish.new.self.originals.all.items ok.1))
    (c.finish.ensures used old new inside none.0
    (subst (λ ws. IsGathering ways use_of origin used new c.empty.new.self ws c.empty-2.new.self.all.items) (sym (c.in_ok-extend_from_slice.ensures.items ∙ ap₂ (λ xs ys. xs ++ ys) c.clear.ensures.items c.under.ensures))
    (subst (λ all. IsGathering ways use_of origin used new c.empty.new.self (ways used) all) (sym none.1) (gathering_begun ways use_of origin used new c.empty.new.self empty))))
