use Rattle.std.proofs.Common.{subst, sym}
use Rattle.jr_engine.specs.Written.{AreFirstIn}
use Rattle.jr_engine.proofs.Stepping.{followed_so, not_left_hinders_if, ready_so}
use Rattle.jr_engine.proofs.step.followed.Goals as goal

pub spellings-requires : goal.spellings-requires
spellings-requires c = ready_so c.args.asked c.in_ok-locked.locked c.requires.asked c.requires.bound c.in_ok-locked.ensures.shaped c.in_ok-locked.ensures.begins c.in_ok-locked.ensures.read c.in_ok-is_sound.ensures.ok c.in_ok-locked.ensures.locked c.in_ok-locked.ensures.bound

pub keeps_edges-requires : goal.keeps_edges-requires
keeps_edges-requires c = ready_so c.args.asked c.in_ok-locked.locked c.requires.asked c.requires.bound c.in_ok-locked.ensures.shaped c.in_ok-locked.ensures.begins c.in_ok-locked.ensures.read c.in_ok-is_sound.ensures.ok c.in_ok-locked.ensures.locked c.in_ok-locked.ensures.bound

pub left_of-requires : goal.left_of-requires
left_of-requires c = ready_so c.args.asked c.in_ok-locked.locked c.requires.asked c.requires.bound c.in_ok-locked.ensures.shaped c.in_ok-locked.ensures.begins c.in_ok-locked.ensures.read c.in_ok-is_sound.ensures.ok c.in_ok-locked.ensures.locked c.in_ok-locked.ensures.bound

pub returns-clause-ok : goal.returns-clause-ok
returns-clause-ok c = followed_so c.args.asked c.in_ok-locked.locked c.deref.result.now c.left_of.result c.requires.asked c.in_ok-locked.ensures.locked
    (subst (λ all. AreFirstIn c.args.asked c.in_ok-locked.locked all) (sym c.deref.ensures.value) c.in_ok-spellings.ensures.ok) c.in_ok-keeps_edges.ensures.calls c.in_ok-keeps_edges.ensures.flow c.left_of.ensures.bodies c.left_of.ensures.ok
    c.in_ok-locked.ensures.read c.left_of.ensures.texts

pub returns-clause-err : goal.returns-clause-err
returns-clause-err c = not_left_hinders_if c.args.asked c.in_ok-locked.locked c.deref.result.now c.left_of.result c.in_ok-locked.ensures.locked
    (subst (λ all. AreFirstIn c.args.asked c.in_ok-locked.locked all) (sym c.deref.ensures.value) c.in_ok-spellings.ensures.ok) c.in_ok-locked.ensures.read
    c.left_of.ensures.err
