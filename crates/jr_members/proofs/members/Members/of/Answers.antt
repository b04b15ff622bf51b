use Rattle.jr_defs.specs.Referents.{entries}
use Rattle.jr_members.proofs.members.Members.of.Goals as goal

pub returns : goal.returns
returns c = λ sized seen. let signed = c.in_ok-callables.ensures.signatures sized seen.placed.are in
    record { kinds_are = c.in_ok-kinds.ensures (entries c.args.under.table.now) seen signed; callables_are = c.in_ok-callables.ensures.callables; signatures_are = signed }
