use Rattle.std.proofs.Common.{[], sym, subst, length}
use Rattle.std.proofs.lemmas.Result.{on_ok_weaker}
use Rattle.jr_flow_defs.specs.States.{hops}
use Rattle.jr_flow.specs.Pended.{lists_of, AddsWays}
use Rattle.jr_flow.specs.Places.{state_seen}
use Rattle.jr_flow.proofs.Stating.{ways_reached, none_noted, all_noted}
use Rattle.jr_flow.proofs.states.States.turn.Goals as goal

pub returns-clause-done : goal.returns-clause-done
returns-clause-done c = λ m groups coded h at_from. let p = c.args.rows.now in let body = c.args.code.now.body in let old = c.args.self.now in let pending = c.ways_of.new.pending in let out = c.deref.result.now in
    let one = h.right.placed (length groups) c.args.state at_from in
    let all = hops p m body (state_seen (lists_of pending) c.args.state) in
    let adds : AddsWays old.pending pending [] out all = subst (λ xs. AddsWays old.pending pending [] xs all) (sym c.deref.ensures.value)
    (subst (λ xs. AddsWays old.pending pending xs c.ways_of.new.out.items all) c.clear.ensures.items (c.in_ok-ways_of.ensures m coded one.from one.to h.right.pending one.fits)) in
    on_ok_weaker c.note_all.result (λ noted. all_noted p m body old pending c.begin.new.self groups out c.args.state h at_from adds c.note_all.new.self noted)
    (c.note_all.ensures.done m (record { pending = pending; locations = old.locations; numbering = old.numbering; hops = c.begin.new.self }) groups coded
    (none_noted p m body old pending c.begin.new.self groups out c.args.state h at_from adds (c.in_ok-begin.ensures groups h.grouped))
    (ways_reached p m body old pending c.begin.new.self groups out c.args.state h at_from adds))

pub returns-clause-large : goal.returns-clause-large
returns-clause-large c = λ m groups coded h at_from. let p = c.args.rows.now in let body = c.args.code.now.body in let old = c.args.self.now in let pending = c.ways_of.new.pending in let out = c.deref.result.now in
    let one = h.right.placed (length groups) c.args.state at_from in
    let all = hops p m body (state_seen (lists_of pending) c.args.state) in
    let adds : AddsWays old.pending pending [] out all = subst (λ xs. AddsWays old.pending pending [] xs all) (sym c.deref.ensures.value)
    (subst (λ xs. AddsWays old.pending pending xs c.ways_of.new.out.items all) c.clear.ensures.items (c.in_ok-ways_of.ensures m coded one.from one.to h.right.pending one.fits)) in
    c.note_all.ensures.large m (record { pending = pending; locations = old.locations; numbering = old.numbering; hops = c.begin.new.self }) groups coded
    (none_noted p m body old pending c.begin.new.self groups out c.args.state h at_from adds (c.in_ok-begin.ensures groups h.grouped))
    (ways_reached p m body old pending c.begin.new.self groups out c.args.state h at_from adds)
