use Rattle.std.proofs.Common.{rules, arith, ◌≡◌, ◌∙◌, true, false, Ok, drop}
use Rattle.std.proofs.lemmas.List.{length-map}
use Rattle.jr_base.specs.declared.token.Token.{Token}
use Rattle.jr_base.specs.declared.kind.Symbol.TheVariants as y
use Rattle.jr_parse_laws.specs.Parsers.{kinds, expect, is_at}
use Rattle.jr_parse_laws.proofs.Outcomes.{reads_err}
use Rattle.jr_parse_expr.proofs.NameLaws.{dims_more, dims_fails, dims_done, closed_shorter}
use Rattle.jr_parse_expr.proofs.name.dims.Goals as goal

pub returns-in_err-expect-clause-reads : goal.returns-in_err-expect-clause-reads
returns-in_err-expect-clause-reads c =
    let begins : is_at y.OpenBracket (kinds c.pairs.cursor) ≡ true = cc in
    rw c.pairs.invariant.same
    (reads_err _ _ c.from_residual.result c.in_err-expect.field-0.0 (kinds c.expect.new.self) (search rules)
    (dims_fails c.pairs.pairs (kinds c.pairs.cursor) c.in_err-expect.field-0.0 (kinds c.expect.new.self) begins (search rules)))

pub pairs-preserved : goal.pairs-preserved
pairs-preserved c =
    let begins : is_at y.OpenBracket (kinds c.pairs.cursor) ≡ true = cc in
    let read : expect y.CloseBracket (drop 1 (kinds c.pairs.cursor)) ≡ Ok (tt, kinds c.expect.new.self) = search rules in
    record {
      same = c.pairs.invariant.same ∙ dims_more c.pairs.pairs (kinds c.pairs.cursor) tt (kinds c.expect.new.self) begins read;
      few =
          let few = c.pairs.invariant.few in
          let l = closed_shorter (kinds c.pairs.cursor) tt (kinds c.expect.new.self) begins read in
          let a = length-map c.pairs.cursor.rest.now (λ (t : Token). t.kind) in
          let b = length-map c.expect.new.self.rest.now (λ (t : Token). t.kind) in
          omega arith;
    }

pub returns-clause-reads : goal.returns-clause-reads
returns-clause-reads c =
    let over : is_at y.OpenBracket (kinds c.pairs.cursor) ≡ false = cc in
    c.pairs.invariant.same ∙ dims_done c.pairs.pairs (kinds c.pairs.cursor) over
