use Rattle.std.proofs.Common.{arith}
use Rattle.std.proofs.lemmas.List.{drop_more, drop_all}
use Rattle.jr_spell.specs.Spellers.{rows_of, table_of}
use Rattle.jr_spell.proofs.Casting.{written_start, written_next, written_lost, written_end}
use Rattle.jr_spell.proofs.speller.Speller.casts.Goals as goal

pub loop-ty-init : goal.loop-ty-init
loop-ty-init c = λ whole inside. written_start (rows_of c.args.self.now) (table_of c.args.self.now) c.args.place c.args.types.now _ c.new-all.ensures.items

pub loop-ty-preserved : goal.loop-ty-preserved
loop-ty-preserved c = λ whole inside. let s = c.args.self.now in
    written_next (rows_of s) (table_of s) c.args.place c.args.types.now c.loop-ty.all.items _ _ _ _ c.in-Some.name (c.loop-ty.invariant whole inside) (drop_more c.args.types.now c.loop-ty.ty-index _ (omega arith))
    (c.in_ok-name.ensures whole inside) c.in-Some.is c.in_ok-push-in-Some.ensures.items

pub returns-in-None : goal.returns-in-None
returns-in-None c = λ whole inside. let s = c.args.self.now in
    written_lost (rows_of s) (table_of s) c.args.place c.args.types.now c.loop-ty.all.items _ _ _ (c.loop-ty.invariant whole inside) (drop_more c.args.types.now c.loop-ty.ty-index _ (omega arith))
    (c.in_ok-name.ensures whole inside) c.in-None.is

pub returns : goal.returns
returns c = λ whole inside. let s = c.args.self.now in
    written_end (rows_of s) (table_of s) c.args.place c.args.types.now c.loop-ty.all.items _ (c.loop-ty.invariant whole inside) (drop_all c.loop-ty.ty-index c.args.types.now (omega arith))
