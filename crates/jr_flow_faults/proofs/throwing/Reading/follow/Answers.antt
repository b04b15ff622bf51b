use Rattle.std.proofs.Common.{sym, ◌∙◌, subst, arith}
use Rattle.std.proofs.lemmas.Bool.Decides.{not_from_Decides}
use Rattle.jr_tree.specs.Rows.{label}
use Rattle.jr_plain.specs.Search.{Finds}
use Rattle.jr_flow_faults.specs.Outwards.{Meets, IsFollowing}
use Rattle.jr_flow_faults.specs.Reading.{rows_of, table_of, completes_of}
use Rattle.jr_flow_faults.proofs.Followed.{following_start}
use Rattle.jr_flow_faults.proofs.Guarded.{try_tells}
use Rattle.jr_flow_faults.proofs.Noted.{following_step, follows_none, follows_past, follows_end}
use Rattle.jr_flow_faults.proofs.throwing.Reading.follow.Goals as goal

pub loop-turn-init : goal.loop-turn-init
loop-turn-init c = λ reading none lt lists. let p = rows_of c.args.self.now in let completes = completes_of c.args.self.now in (
  following_start p reading.view.local (table_of c.args.self.now) completes c.args.class c.args.at c.args.arrived.now.thrown _
      (subst (λ o. Finds o (Meets p completes c.args.at)) (sym c.first_guard-next.ensures) (reading.guards c.args.at)) lt,
  λ are. are,
)

pub loop-turn-preserved : goal.loop-turn-preserved
loop-turn-preserved c = λ reading none lt lists. let p = rows_of c.args.self.now in let t = table_of c.args.self.now in let completes = completes_of c.args.self.now in
    let before = c.loop-turn.invariant reading none lt lists in (
      following_step p t completes reading.view.local c.args.class c.args.at c.args.arrived.now.thrown c.in-Some.over c.loop-turn._turn _ _ _
          (subst (λ o. IsFollowing p t completes c.args.class c.args.at c.args.arrived.now.thrown c.loop-turn.arrived.thrown o c.loop-turn._turn) c.in-Some.is before.0)
          ((try_tells (label p c.in-Some.over)).0 (sym c.is_try.ensures ∙ c.if-not-is_try.false)) (c.onward-next.ensures reading lists) c.in_ok-add.ensures.thrown,
      λ are. c.in_ok-add.ensures.above p t lists (before.1 are),
    )

pub returns-in_default : goal.returns-in_default
returns-in_default c = λ reading none lt lists. let before = c.loop-turn.invariant reading none lt lists in
    follows_none (rows_of c.args.self.now) (table_of c.args.self.now) (completes_of c.args.self.now) reading.view.local c.args.class c.args.at c.args.arrived.now c.loop-turn.arrived none before.1 _ _ before.0 c.in_default.is

pub returns-then-not-is_try : goal.returns-then-not-is_try
returns-then-not-is_try c = λ reading none lt lists. let p = rows_of c.args.self.now in let t = table_of c.args.self.now in let completes = completes_of c.args.self.now in
    let before = c.loop-turn.invariant reading none lt lists in
    follows_end p t completes reading.view.local c.args.class c.args.at c.args.arrived.now c.loop-turn.arrived none before.1 c.in-Some.over c.loop-turn._turn
    (subst (λ o. IsFollowing p t completes c.args.class c.args.at c.args.arrived.now.thrown c.loop-turn.arrived.thrown o c.loop-turn._turn) c.in-Some.is before.0)
    (not_from_Decides _ (try_tells (label p c.in-Some.over)) (sym c.is_try.ensures ∙ c.if-not-is_try.true))

pub returns : goal.returns
returns c = λ reading none lt lists. let before = c.loop-turn.invariant reading none lt lists in
    follows_past (rows_of c.args.self.now) (table_of c.args.self.now) (completes_of c.args.self.now) reading.view.local c.args.class c.args.at c.args.arrived.now c.loop-turn.arrived none before.1 _ _ before.0 (omega arith)
