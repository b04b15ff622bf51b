use Rattle.std.proofs.Common.{rules, arith, ◌≡◌, ◌∙◌, sym, ap, subst, true, false, Ok, List, [], ◌∷◌, ◌++◌, drop, map}
use Rattle.jr_base.specs.declared.kind.Kind.{Kind}
use Rattle.jr_base.specs.declared.kind.Symbol.TheVariants as y
use Rattle.jr_tree.specs.declared.tree.Init.{Init}
use Rattle.jr_tree.specs.Mirror.Exprs.{plain_init}
use Rattle.jr_parse_laws.specs.Parsers.{kinds, first, is_at, Fails}
use Rattle.jr_parse_laws.proofs.Outcomes.{reads_err}
use Rattle.jr_parse_starts.specs.Starts.{starts_init}
use Rattle.jr_parse_expr.specs.Exprs as spec
use Rattle.jr_parse_expr.specs.Steps.{with_items}
use Rattle.jr_parse_expr.proofs.Behind.{items_more, items_fails, items_open, items_done}
use Rattle.jr_parse_expr.proofs.Shorter.{fewer_tokens, item_shorter}
use Rattle.jr_parse_expr.proofs.grammar.Grammar.more_items.Goals as goal

pub returns-then-not-starts_init-clause-reads : goal.returns-then-not-starts_init-clause-reads
returns-then-not-starts_init-clause-reads g c =
    let begins : is_at y.Comma (kinds c.items.cursor) ≡ true = sym c.is_at.ensures ∙ c.items-test.true in
    let stops : starts_init (first (drop 1 (kinds c.items.cursor))) ≡ false = ap (λ (ts : List Kind). starts_init (first ts)) (sym c.skip.ensures) ∙ sym c.starts_init.ensures ∙ c.if-not-starts_init.true in
    c.items.invariant.same ∙ items_open c.args.self.now.room c.items.all.items (kinds c.items.cursor) begins stops ∙ rw (c.open_ended.ensures.items, c.open_ended.ensures.end, c.skip.ensures)

pub returns-in_err-item-clause-reads : goal.returns-in_err-item-clause-reads
returns-in_err-item-clause-reads g c =
    let begins : is_at y.Comma (kinds c.items.cursor) ≡ true = sym c.is_at.ensures ∙ c.items-test.true in
    let starts : starts_init (first (drop 1 (kinds c.items.cursor))) ≡ true = ap (λ (ts : List Kind). starts_init (first ts)) (sym c.skip.ensures) ∙ sym c.starts_init.ensures ∙ c.if-not-starts_init.false in
    rw c.items.invariant.same
    (reads_err _ _ c.from_residual.result c.in_err-item.field-0.0 (kinds c.init.new.cursor) (search rules)
    (items_fails c.args.self.now.room c.items.all.items (kinds c.items.cursor) c.in_err-item.field-0.0 (kinds c.init.new.cursor) begins starts
    (subst (λ (ts : List Kind). Fails (spec.init c.args.self.now.room ts) c.in_err-item.field-0.0 (kinds c.init.new.cursor)) c.skip.ensures c.in_err-item.ensures.reads)))

pub items-smaller : goal.items-smaller
items-smaller g c =
    let begins : is_at y.Comma (kinds c.items.cursor) ≡ true = sym c.is_at.ensures ∙ c.items-test.true in
    let read : spec.init c.args.self.now.room (drop 1 (kinds c.items.cursor)) ≡ Ok (plain_init c.in_ok-item.item.init, kinds c.init.new.cursor) =
    ap (spec.init c.args.self.now.room) (sym c.skip.ensures) ∙ c.in_ok-item.ensures.reads in
    fewer_tokens c.items.cursor c.init.new.cursor (item_shorter c.args.self.now.room (kinds c.items.cursor) (plain_init c.in_ok-item.item.init) (kinds c.init.new.cursor) begins read)

pub items-preserved : goal.items-preserved
items-preserved g c =
    let begins : is_at y.Comma (kinds c.items.cursor) ≡ true = sym c.is_at.ensures ∙ c.items-test.true in
    let starts : starts_init (first (drop 1 (kinds c.items.cursor))) ≡ true = ap (λ (ts : List Kind). starts_init (first ts)) (sym c.skip.ensures) ∙ sym c.starts_init.ensures ∙ c.if-not-starts_init.false in
    let read : spec.init c.args.self.now.room (drop 1 (kinds c.items.cursor)) ≡ Ok (plain_init c.in_ok-item.item.init, kinds c.init.new.cursor) =
    ap (spec.init c.args.self.now.room) (sym c.skip.ensures) ∙ c.in_ok-item.ensures.reads in
    let pushed : c.in_ok-all.all.items ≡ c.items.all.items ++ c.in_ok-item.item.init ∷ [] = c.in_ok-all.ensures.items in
    record {
      same =
          c.items.invariant.same ∙ items_more c.args.self.now.room c.items.all.items (kinds c.items.cursor) c.in_ok-item.item.init (kinds c.init.new.cursor) begins starts read
          ∙ ap (λ (all : List Init). with_items (map plain_init all) (spec.after_item c.args.self.now.room (spec.expr c.args.self.now.room) (spec.list c.args.self.now.room) (kinds c.init.new.cursor))) (sym pushed);
      low = let h = c.items.invariant.low in omega (arith, c.in_ok-all.ensures.height, c.in_ok-item.ensures.low);
      closed = c.in_ok-all.ensures.end ∙ c.items.invariant.closed;
    }

pub returns-clause-reads : goal.returns-clause-reads
returns-clause-reads g c =
    let over : is_at y.Comma (kinds c.items.cursor) ≡ false = sym c.is_at.ensures ∙ c.items-test.false in
    c.items.invariant.same ∙ items_done c.args.self.now.room c.items.all.items (kinds c.items.cursor) over ∙ rw c.items.invariant.closed
