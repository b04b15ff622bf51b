use Rattle.std.proofs.Common.{sym, ◌∙◌, arith}
use Rattle.std.proofs.lemmas.List.{drop_all}
use Rattle.jr_plain.specs.Types.{parameters}
use Rattle.jr_supers.proofs.Signing.{continues_more, continues_end}
use Rattle.jr_member_faults.proofs.Constructed.{types_in, drop_type, all_types, list_numbered}
use Rattle.jr_member_faults.proofs.twice.number_types.Goals as goal

pub loop-nth-preserved : goal.loop-nth-preserved
loop-nth-preserved c = λ p t signed callable counted size. let h = c.loop-nth.invariant p t signed callable counted size in
    continues_more c.in-Some.ty (drop_type (parameters p t c.args.at) c.loop-nth.nth c.in-Some.ty (sym c.in-Some.is ∙ c.parameter.ensures p t signed callable)) h (c.in_ok-number.ensures h.counted)

pub returns : goal.returns
returns c = λ p t signed callable counted size. let all = types_in (parameters p t c.args.at) in let e = all_types (parameters p t c.args.at) c.args.count c.loop-nth.nth size (omega arith) in
    list_numbered (parameters p t c.args.at) c.args.count c.loop-nth.number size (continues_end (drop_all c.loop-nth.nth all (omega arith)) (c.loop-nth.invariant p t signed callable counted size))
