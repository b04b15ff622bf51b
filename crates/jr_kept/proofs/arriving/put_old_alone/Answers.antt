use Rattle.std.proofs.Common.{◌≡◌, ℕ, true, sym, subst, arith, take}
use Rattle.std.specs.List.{Contains}
use Rattle.std.proofs.lemmas.Grind.{take_at_read}
use Rattle.std.proofs.lemmas.List.{take_all}
use Rattle.jr_kept.specs.Gathered.{is_original}
use Rattle.jr_kept.specs.Ordered.{Tells}
use Rattle.jr_kept.proofs.Telling.{tells_none, tells_more}
use Rattle.jr_kept.proofs.arriving.put_old_alone.Goals as goal

pub loop-definition-init : goal.loop-definition-init
loop-definition-init c = tells_none c.args.lost.now (λ n. is_original c.args.originals.now n ≡ true)

pub loop-definition-preserved : goal.loop-definition-preserved
loop-definition-preserved c = let all = c.args.definitions.now in let i = c.loop-definition.definition-index in let lt = c.loop-definition-test.true in
    subst (λ xs. Tells c.args.lost.now c.put_old_unless.new.lost ((n : ℕ) → Contains xs n → is_original c.args.originals.now n ≡ true)) (sym ((take_at_read all i _ (omega (arith, lt))).1))
    (tells_more c.args.lost.now c.loop-definition.lost c.put_old_unless.new.lost (λ n. is_original c.args.originals.now n) (take i all) _ c.has.result c.loop-definition.invariant c.has.ensures c.put_old_unless.ensures)

pub returns : goal.returns
returns c = let past = c.loop-definition-test.false in
    subst (λ xs. Tells c.args.lost.now c.loop-definition.lost ((n : ℕ) → Contains xs n → is_original c.args.originals.now n ≡ true)) (take_all c.loop-definition.definition-index c.args.definitions.now (omega (arith, past))) c.loop-definition.invariant
