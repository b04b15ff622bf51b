use Rattle.std.proofs.Common.{◌≤◌, length, arith}
use Rattle.std.proofs.lemmas.Grind.{common_steps}
use Rattle.std.specs.Prelude.{MatchOption, None}
use Rattle.jr_thin.specs.Renaming.{Serves}
use Rattle.jr_top.specs.Decisions.{IsOnePath, IsHeld, DecidesFound}
use Rattle.jr_top.specs.Renaming.{Holds, ForTold}
use Rattle.jr_top.proofs.Chosen.{chosen_or_left, none_held}
use Rattle.jr_top.proofs.decide.decide_rename.Goals as goal

pub returns-in-Ok-Some-clause-decision : goal.returns-in-Ok-Some-clause-decision
returns-in-Ok-Some-clause-decision g c =
    let S = g.S.Store in
    let told = S.files c.args.store.now in
    let held_there : ForTold told (λ files. Holds files c.bytes.result.now c.in-Ok-Some.found.bytes.items) = rw c.in-Ok-Some.field-0-is at c.in-Ok-Some.ensures.held in
    let held : ForTold told (λ files. Holds files c.args.file.now c.in-Ok-Some.found.bytes.items) = rw c.bytes.ensures at held_there in
    let one_there : IsOnePath c.in-Ok-Some.found.paths.items c.bytes.result.now = rw c.in-Ok-Some.field-0-is at c.in-Ok-Some.ensures.paths in
    let one : IsOnePath c.in-Ok-Some.found.paths.items c.args.file.now = rw c.bytes.ensures at one_there in
    let short : length c.args.file.now ≤ 1024 = grind (arith, common_steps) in
    let decided : MatchOption c.decide_found.result (Serves c.in-Ok-Some.found.bytes.items c.args.at c.args.name.now → ⊥) (DecidesFound c.in-Ok-Some.found c.args.at c.args.name.now) = rw c.bytes-in-Ok-Some.ensures at c.decide_found.ensures in
    chosen_or_left told c.args.file.now c.args.name.now c.args.at (S.faults c.args.store.now) (S.faults c.find.new.store) c.in-Ok-Some.found held one.is short c.decide_found.result decided

pub returns-in-Ok-None-clause-decision : goal.returns-in-Ok-None-clause-decision
returns-in-Ok-None-clause-decision g c =
    let S = g.S.Store in
    let told = S.files c.args.store.now in
    let none_there : ForTold told (λ files. IsHeld files c.bytes.result.now None) = rw c.in-Ok-None.field-0-is at c.in-Ok-None.ensures.held in
    let none : ForTold told (λ files. IsHeld files c.args.file.now None) = rw c.bytes.ensures at none_there in
    none_held told c.args.file.now c.args.at c.args.name.now none
