use Rattle.jr_names.proofs.Imported.{kinds_list}
use Rattle.jr_names.proofs.imports.members_of.Goals as goal

pub returns : goal.returns
returns c = λ t world. kinds_list c.args.world.now.under.rows.now t c.args.unit c.args.name c.args.over _ _ _ _ c.new-all.ensures.items
    (c.in_ok-add_members.ensures t world) (c.in_ok-add_members-2.ensures t world) (c.in_ok-add_members-3.ensures t world)
