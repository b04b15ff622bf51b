use Rattle.std.proofs.Common.{◌≡◌, ◌^◌, ◌<◌, ◌-◌}
use Rattle.jr_flow_defs.specs.Meaning.{Meaning}
use Rattle.jr_flow.specs.Seen.{seen}
use Rattle.jr_flow.specs.Coded.{AreTold, placed_rows}
use Rattle.jr_flow.proofs.code.place_rows.Given as goal

abbrev pub invariant-loop-at : goal.invariant-loop-at
invariant-loop-at l = (m : Meaning) → l.end < 2 ^ 32 → AreTold l.rows m l.body (l.end - l.body) (seen l.acts) l.firsts
    → placed_rows l.rows m l.body l.at (l.end - l.at) l.behinds.items ≡ placed_rows l.rows m l.body l.body (l.end - l.body) l.fn.behinds.items
