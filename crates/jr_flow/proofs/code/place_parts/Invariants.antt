use Rattle.std.proofs.Common.{◌≡◌, ℕ, ◌+◌, ◌-◌, ◌<◌, List, length, drop, slice_get}
use Rattle.jr_flow_defs.specs.Acts.{Act}
use Rattle.jr_flow.specs.Seen.{seen}
use Rattle.jr_flow.specs.Coded.{placed_all}
use Rattle.jr_flow.proofs.code.place_parts.Given as goal

abbrev pub invariant-loop-turn : goal.invariant-loop-turn
invariant-loop-turn l = (all : List Act) → l.count ≡ length all → ((i : ℕ) → i < l.count → slice_get (seen l.acts) (l.first + i) ≡ slice_get all i)
    → l.behinds.items ≡ placed_all l.rows l.body l.at (drop (l.count - l.turn) all) (l.count - l.turn) l.fn.behinds.items
