use Rattle.std.proofs.Common.{rules, ◌≡◌, ◌∙◌, Ok, drop, refl, add-one}
use Rattle.jr_tree.specs.Mirror.Exprs.{plain_list}
use Rattle.jr_parse_laws.specs.Parsers.{kinds}
use Rattle.jr_parse_laws.proofs.Outcomes.{reads_err}
use Rattle.jr_parse_expr.specs.Exprs as spec
use Rattle.jr_parse_expr.proofs.ArrayItems.{items_unpaired, items_unlisted, items_listed}
use Rattle.jr_parse_expr.proofs.grammar.Grammar.with_items.Goals as goal

pub returns-in_err-more-clause-reads : goal.returns-in_err-more-clause-reads
returns-in_err-more-clause-reads g c =
    reads_err _ _ c.from_residual.result c.in_err-more.field-0.0 (kinds c.dims_behind.new.cursor) (search rules)
    (items_unpaired c.args.self.now.room (spec.expr c.args.self.now.room) (spec.list c.args.self.now.room) c.args.base (kinds c.args.cursor.now) c.in_err-more.field-0.0 (kinds c.dims_behind.new.cursor) c.requires.at
    c.in_err-more.ensures.reads)

pub returns-in_err-items-clause-reads : goal.returns-in_err-items-clause-reads
returns-in_err-items-clause-reads g c =
    reads_err _ _ c.from_residual-in_err-items.result c.in_err-items.field-0.0 (kinds c.list.new.cursor) (search rules)
    (items_unlisted c.args.self.now.room (spec.expr c.args.self.now.room) (spec.list c.args.self.now.room) c.args.base (kinds c.args.cursor.now) c.in_ok-more.more (kinds c.dims_behind.new.cursor) c.in_err-items.field-0.0
    (kinds c.list.new.cursor) c.requires.at c.in_ok-more.ensures.reads c.in_err-items.ensures.reads)

pub returns-clause-reads : goal.returns-clause-reads
returns-clause-reads g c =
    items_listed c.args.self.now.room (spec.expr c.args.self.now.room) (spec.list c.args.self.now.room) c.args.base (kinds c.args.cursor.now) c.in_ok-more.more (kinds c.dims_behind.new.cursor)
    (plain_list c.in_ok-items.items.list) (kinds c.list.new.cursor) c.requires.at c.in_ok-more.ensures.reads c.in_ok-items.ensures.reads
    ∙ rw (c.listed_array.ensures.tree, c.none.ensures.args, add-one) refl
