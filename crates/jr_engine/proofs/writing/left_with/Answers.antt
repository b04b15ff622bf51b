use Rattle.std.proofs.Common.{IsTrue, subst, sym}
use Rattle.std.specs.FinMap as finite
use Rattle.std.specs.Cmp.Lexicographic.{slice_cmp}
use Rattle.std.specs.Ordering.{nat_cmp}
use Rattle.jr_base.specs.Files.{plain}
use Rattle.jr_engine.specs.Texts.{AreSmall}
use Rattle.jr_engine.proofs.Reading.{not_left_same}
use Rattle.jr_engine.proofs.writing.left_with.Goals as goal

pub left_as-requires-clause-small : goal.left_as-requires-clause-small
left_as-requires-clause-small c = let sorted = subst (λ all. IsTrue (finite.is_sorted (slice_cmp nat_cmp) (plain all))) c.deref.ensures.value (c.rise.ensures c.if-not-rise.false) in
    subst AreSmall (sym (c.in_ok-files.ensures sorted)) c.requires.small

pub returns-clause-err : goal.returns-clause-err
returns-clause-err c = let sorted = subst (λ all. IsTrue (finite.is_sorted (slice_cmp nat_cmp) (plain all))) c.deref.ensures.value (c.rise.ensures c.if-not-rise.false) in
    not_left_same c.args.spelled.asked (finite.entries c.in_ok-files.files) (plain c.args.new.texts.items) c.left_as.result (c.in_ok-files.ensures sorted) c.left_as.ensures.err
