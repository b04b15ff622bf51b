use Rattle.std.proofs.Common.{subst}
use Rattle.jr_places.specs.Stamps.{AddsStamp}
use Rattle.jr_kept.specs.Listed.{under_in}
use Rattle.jr_kept.specs.Named.{origin_in}
use Rattle.jr_kept.specs.Gathered.{use_in}
use Rattle.jr_kept.proofs.Gathers.{gathering_known}
use Rattle.jr_kept.proofs.gathering.Gathering.meet.Goals as goal

pub returns-then-add : goal.returns-then-add
returns-then-add c = λ used old new inside originals h. let seen = c.args.self.now.seen in
    c.pass.ensures used old new seen inside originals h (subst (AddsStamp seen c.add.new.self new c.args.at) c.if-add.true (c.add.ensures new h.counted))

pub returns : goal.returns
returns c = λ used old new inside originals h. let seen = c.args.self.now.seen in (
  originals,
  gathering_known (under_in c.args.definitions.now) (use_in c.args.handing.now) (origin_in c.args.origin.now) used new inside seen c.add.new.self c.args.self.now.waiting.items c.args.at c.args.self.now.originals.all.items h
      (subst (AddsStamp seen c.add.new.self new c.args.at) c.if-add.false (c.add.ensures new h.counted)),
)
