use Rattle.std.proofs.Common.{subst, map, length, true}
use Rattle.std.proofs.lemmas.Result.{on_ok_weaker}
use Rattle.jr_flow.specs.Spread.{lets, HasCome}
use Rattle.jr_flow.specs.Woven.{pair_behind, NotesUses, pairs_in}
use Rattle.jr_flow.proofs.Followed.{follow_found}
use Rattle.jr_flow.proofs.webs.Finder.follow.Goals as goal

pub returns : goal.returns
returns c = λ bound key row steps rows woven b at_key at live. let old = c.args.self.now in let points = c.args.points.now in let local = c.args.local in let definition = c.args.definition in let pairs = map pair_behind steps in
    let behind = woven.web_is.behind_are in
    let come = subst (λ set. HasCome bound (lets set true) pairs definition pairs c.run.new.self) c.met.ensures (c.in_ok-run.ensures bound pairs pairs behind behind live.behind) in
    on_ok_weaker c.note_uses.result (λ noted. record {
      live = record { walls = live.walls; live = live.live; behind = come.is.counted };
      found = follow_found points steps rows c.args.web.now woven bound b key local at_key old live definition c.run.new.self come row (pairs_in old) c.note_uses.new.pairs.items at
          (subst (λ xs. NotesUses points local definition xs (length xs) (pairs_in old) c.note_uses.new.pairs.items) c.found.ensures noted);
    }) c.note_uses.ensures
