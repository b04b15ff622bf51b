use Rattle.std.proofs.lemmas.Result.{on_ok_weaker}
use Rattle.jr_flow.specs.Places.{ways_seen}
use Rattle.jr_flow.proofs.Ways.{two_added}
use Rattle.jr_flow.proofs.leaving.act_ways.Goals as goal

pub returns-in_ok-go_to-in-Event : goal.returns-in_ok-go_to-in-Event
returns-in_ok-go_to-in-Event c = λ lists. rw c.in-Event.is (on_ok_weaker c.complete.result
    (two_added (ways_seen lists c.args.out.now.items) (ways_seen lists c.go_to-in-Event.new.out.items) (ways_seen lists c.complete.new.out.items) _ _ (c.in_ok-go_to-in-Event.ensures lists)) (c.complete.ensures lists))

pub returns-in_ok-go_to-in-Quit : goal.returns-in_ok-go_to-in-Quit
returns-in_ok-go_to-in-Quit c = λ lists. rw c.in-Quit.is (on_ok_weaker c.complete-in-Quit.result
    (two_added (ways_seen lists c.args.out.now.items) (ways_seen lists c.go_to-in-Quit.new.out.items) (ways_seen lists c.complete-in-Quit.new.out.items) _ _ (c.in_ok-go_to-in-Quit.ensures lists)) (c.complete-in-Quit.ensures lists))

pub returns-in_ok-go_to-in-Fork : goal.returns-in_ok-go_to-in-Fork
returns-in_ok-go_to-in-Fork c = λ lists. rw c.in-Fork.is (on_ok_weaker c.go_to-in-Fork-2.result
    (two_added (ways_seen lists c.args.out.now.items) (ways_seen lists c.go_to-in-Fork.new.out.items) (ways_seen lists c.go_to-in-Fork-2.new.out.items) _ _ (c.in_ok-go_to-in-Fork.ensures lists)) (c.go_to-in-Fork-2.ensures lists))
