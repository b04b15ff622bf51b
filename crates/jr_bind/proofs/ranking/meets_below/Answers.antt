use Rattle.std.proofs.Common.{◌≡◌, sym, subst, arith, true}
use Rattle.jr_plain.specs.Search.{has}
use Rattle.jr_defs.specs.Headers.{IsLookedForIn}
use Rattle.jr_bind.specs.Confirmed.{rows_of, table_of}
use Rattle.jr_bind.proofs.ranking.meets_below.Goals as goal

pub returns : goal.returns
returns c = λ sight below. record {
  own = c.are_below.ensures.below c.if-not-are_below.false;
  imports = λ m i first looked.
      let at : m ≡ c.saturating_sub-first.result = (let row = c.are_below.ensures.row c.if-not-are_below.false in let last = first.last in let end = c.end_at.ensures in let one = c.saturating_sub-first.ensures in omega arith) in
      c.are_imports_below.ensures below i (subst (λ xs. has xs i ≡ true) (sym c.deref.ensures.value) (c.in_ok-imports.ensures sight i (subst (λ m. IsLookedForIn (rows_of c.args.sight) (table_of c.args.sight) m i) at looked)));
}
