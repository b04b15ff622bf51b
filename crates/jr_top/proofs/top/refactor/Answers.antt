use Rattle.std.proofs.Common.{◌≡◌, ◌⊎◌, refl, Option}
use Rattle.jr_request.specs.Words.{command_of}
use Rattle.jr_top.proofs.Commands.{call, comes, alone, TellsAlone}
use Rattle.jr_top.proofs.top.refactor.Goals as goal

pub returns-clause-answer : goal.returns-clause-answer
returns-clause-answer g c =
    let e = c.answered.ensures in
    let all = call c.args.words.now (g.S.Store.files c.args.store.now) (g.S.Store.files c.answered.new.store) (g.S.Store.may_leave c.args.store.now) (g.S.Store.may_leave c.answered.new.store) (g.S.Store.faults c.args.store.now) (g.S.Store.faults c.answered.new.store)
    (g.I.Source.left c.args.input.now) (g.I.Source.faults c.args.input.now) (g.I.Source.faults c.answered.new.input)
    (g.O.Sink.contents c.args.out.now) (g.O.Sink.contents c.answered.new.out) (g.O.Sink.faults c.args.out.now) (g.O.Sink.faults c.answered.new.out) in
    let told : TellsAlone all c.answered.result = record {
      complete = e.complete;
      exact = e.exact;
      demonstrated = e.needs_no_files;
      bad_words = e.bad_words;
      batch = e.batch_exact;
      reading = e.reading_exact;
      undo = e.undo_exact;
    } in
    record {
      comes = comes all c.answered.result e.answer e.batch e.reading e.undo (command_of c.args.words.now) refl;
      alone = record {
        answer = alone all c.answered.result told (command_of c.args.words.now) refl;
        journal = λ (files, is, none) asks. e.bad_journal files is none asks;
      };
    }
