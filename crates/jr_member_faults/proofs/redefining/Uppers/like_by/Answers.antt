use Rattle.std.proofs.Common.{◌≡◌, subst}
use Rattle.std.specs.Prelude.{IfSome}
use Rattle.jr_members.specs.Named.{under}
use Rattle.jr_member_faults.specs.Views.{rows_of, table_of}
use Rattle.jr_member_faults.proofs.Overridden.{like_numbered}
use Rattle.jr_member_faults.proofs.redefining.Uppers.like_by.Goals as goal

pub returns-in-Some : goal.returns-in-Some
returns-in-Some c = λ h up m is. let w = c.args.world.now in
    like_numbered (rows_of w) (table_of w) h.whole.world_is.seen.above.well.headed w.members.now.callables.signatures h.whole.world_is.members_are.signatures_are c.args.method m c.args.number is
    c.args.self.now.signed _ up (subst (λ found. IfSome found (λ all. all.items ≡ under c.args.self.now.signed c.args.number 0)) c.in-Some.is c.in_ok-all.ensures)

pub returns-in-None : goal.returns-in-None
returns-in-None c = λ h up m is. c.like_above.ensures h m
