use Rattle.std.proofs.Common.{◌≡◌, ◌∙◌, sym, true}
use Rattle.std.proofs.lemmas.Bool.{false≢true}
use Rattle.jr_kept.specs.Named.{origin_in}
use Rattle.jr_kept.specs.Copied.{IsEvent}
use Rattle.jr_flow_defs.specs.Kept.{HasOneCopy}
use Rattle.jr_kept.proofs.Telling.{tells_still, tells_like}
use Rattle.jr_kept.proofs.Counting.{event_tells}
use Rattle.jr_kept.proofs.copies.put_event.Goals as goal

pub returns-then-not-is_event : goal.returns-then-not-is_event
returns-then-not-is_event c = λ origin at count counted named. let names = c.args.names.now in
    tells_still c.args.lost.now (IsEvent names.rows.now names.dropped c.args.point → HasOneCopy (origin_in origin) c.args.point.row)
    (λ event. absurd (false≢true (sym c.if-not-is_event.true ∙ (c.is_event.ensures ∙ (event_tells names.rows.now names.dropped names.body count c.args.name at c.args.point named).1 event))))

pub returns : goal.returns
returns c = λ origin at count counted named. let names = c.args.names.now in let one = c.in_ok-has_one.ensures origin counted in
    tells_like c.args.lost.now c.put_unless.new.lost (c.in_ok-has_one.has_one ≡ true) (IsEvent names.rows.now names.dropped c.args.point → HasOneCopy (origin_in origin) c.args.point.row)
    (λ e event. one.0 e)
    (λ f. one.1 (f ((event_tells names.rows.now names.dropped names.body count c.args.name at c.args.point named).0 (sym c.is_event.ensures ∙ c.if-not-is_event.false))))
    c.put_unless.ensures
