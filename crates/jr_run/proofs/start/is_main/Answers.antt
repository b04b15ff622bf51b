use Rattle.std.proofs.Common.{◌∙◌, sym}
use Rattle.jr_run.specs.Starting.{rows_in, table_in}
use Rattle.jr_run.proofs.Started.{main_by, main_instance, main_typed, main_unnamed}
use Rattle.jr_run.proofs.start.is_main.Goals as goal

pub returns-then-not-is_named_main : goal.returns-then-not-is_named_main
returns-then-not-is_named_main c = λ read method. main_unnamed (rows_in c.args.world.now) (table_in c.args.world.now) c.args.at (sym c.is_named_main.ensures ∙ c.if-not-is_named_main.true)

pub returns-then-not-is_static : goal.returns-then-not-is_static
returns-then-not-is_static c = λ read method. main_instance (rows_in c.args.world.now) (table_in c.args.world.now) c.args.at (sym c.is_named_main.ensures ∙ c.if-not-is_named_main.false) (sym c.is_static.ensures ∙ c.if-not-is_static.true)

pub returns-then-not-gives_nothing : goal.returns-then-not-gives_nothing
returns-then-not-gives_nothing c = λ read method. main_typed (rows_in c.args.world.now) (table_in c.args.world.now) c.args.at (sym c.is_named_main.ensures ∙ c.if-not-is_named_main.false) (sym c.is_static.ensures ∙ c.if-not-is_static.false)
    (sym (c.gives_nothing.ensures read.sized) ∙ c.if-not-gives_nothing.true)

pub returns : goal.returns
returns c = λ read method. main_by (rows_in c.args.world.now) (table_in c.args.world.now) c.args.at _ (sym c.is_named_main.ensures ∙ c.if-not-is_named_main.false) (sym c.is_static.ensures ∙ c.if-not-is_static.false)
    (sym (c.gives_nothing.ensures read.sized) ∙ c.if-not-gives_nothing.false) (c.takes_strings.ensures (table_in c.args.world.now) read.whole.world_is.members_are.signatures_are method)
